-- What is promised of every run of a network, whatever its steps. This project's own rule.
use Rattle.std.specs.Prelude.{◌≡◌, ℕ, List, None, Ok}
use Rattle.std.specs.List.{AllByRecursion, AllPairs}
use Rattle.law_coherence.specs.Causes.{first_cause}
use Rattle.network_spec.specs.declared.network.NetworkSpec.{NetworkSpec}
use Rattle.network_config.specs.Network.{network_of}
use Rattle.network_steps.specs.Genesis.{first_world, order_of, entries_of}
use Rattle.generator.specs.Network.{described_network}
use Rattle.network_steps.specs.Worlds.{World}
use Rattle.network_steps.specs.Steps.{Step, worlds, last_world}
use Rattle.law_steps.specs.Shapes.{AllShaped}
use Rattle.law_nets.specs.Stops.{DrainStops}
use Rattle.law_nets.specs.Promises.{KeepsAssets, StopsWithAuthority}
use Rattle.law_audits.specs.Printed.{IsPrinted}
use Rattle.law_authority.specs.Alone.{NoneAloneLoses}
use Rattle.law_authority.specs.Burns.{NoBurnFalls}
use Rattle.law_authority.specs.Products.{NoProductFalls}
use Rattle.law_authority.specs.Speakers.{AreAuthorized}
use Rattle.law_audits.specs.Ends.{StayBelowEnd}
use Rattle.law_authority.specs.Floors.{AllHoldFloors}
use Rattle.law_steps.specs.Kept.{NetworkKept, NetworkKeptBetween, NetworkSound, NetworkRunsKept, NetworkAccountsRise, NetworkShaped}
use Rattle.law_nets.specs.Covered.{AllCovered}
use Rattle.law_nets.specs.Paid.{WithdrawalsPaid, TeleportsReceived, NoneLost}
use Rattle.law_nets.specs.Barring.{NeverBarred}
use Rattle.law_nets.specs.Excess.{NoExcessEver}

-- the world after the steps
abbrev pub world_behind_steps : NetworkSpec → List Step → World
world_behind_steps spec steps = last_world (order_of spec) (first_world spec) steps

-- of every network that is read, coherent or not
pub record IsLawful (spec : NetworkSpec) (steps : List Step) : Type 0 where
  -- an account falls only by its own executions on its chain, by a message of its chain, or as a pool's
  pub authorized : AreAuthorized (order_of spec) (first_world spec) steps
  -- and no pool's product of reserves ever falls
  pub products : AllByRecursion (NoProductFalls (first_world spec))
      (worlds (order_of spec) (first_world spec) steps)
  -- an account for which no step executes a message on its chain, and which is no other chain's
  -- there nor a pool's, never has less than at first
  pub left_alone : AllByRecursion (NoneAloneLoses steps (first_world spec))
      (worlds (order_of spec) (first_world spec) steps)
  -- what is burned stays burned: of any two worlds the later one's books have at least what the
  -- earlier one's have
  pub burns : AllPairs NoBurnFalls (worlds (order_of spec) (first_world spec) steps)
  -- each account keeps what is locked there
  pub floors : AllByRecursion AllHoldFloors (worlds (order_of spec) (first_world spec) steps)
  -- each message that waits has one of the seven shapes
  pub shaped : NetworkShaped spec steps
  -- each checking account, with all that its chain has of the asset, stays below 2^128-1, and no
  -- instruction is refused because one would pass it
  pub below_end : StayBelowEnd (order_of spec) (first_world spec) steps
  -- and so it is where memory is refused to a drain after the steps: its whole deliveries and the one at which it stopped lower no account but the
  -- sending chain's, or a pool's, and each message that waits keeps its shape
  pub drains : (now : World) → DrainStops (order_of spec) (world_behind_steps spec steps) now
      → StopsWithAuthority (order_of spec) (world_behind_steps spec steps) now × AllShaped now

-- of every network in which none of the seven causes is found
pub record IsSecure (spec : NetworkSpec) (steps : List Step) : Type 0 where
  -- every world keeps each asset, backs each derivative, has each instance at most once, and covers with each checking account what is
  -- elsewhere
  pub kept : NetworkKept spec steps
  -- and so it is of any two worlds, the earlier taken as the first: what is held for a
  -- derivative, less what is owed and what its chain burned of it, never gets less
  pub between : NetworkKeptBetween spec steps
  -- in every world each unit, wherever it is, and each burn belongs to a listed row
  pub sound : NetworkSound spec steps
  -- and so it is inside each local execution, inside each delivery after its first instruction, and where memory is refused to one
  pub inside : NetworkRunsKept spec steps
  -- and where memory is refused to a drain after the steps, however many deliveries it has made
  pub drains : (now : World) → DrainStops (order_of spec) (world_behind_steps spec steps) now
      → KeepsAssets spec now
  -- each withdrawal that is admitted is paid, and each teleport that is admitted is received, so that nothing of it is lost
  pub paid : WithdrawalsPaid (order_of spec) (first_world spec) steps
  pub received : TeleportsReceived (order_of spec) (first_world spec) steps
  pub none_lost : NoneLost (order_of spec) (first_world spec) steps
  -- nothing is burned because an amount passes its maximum or an instance is there already
  pub no_excess : NoExcessEver (order_of spec) (first_world spec) steps
  -- no deposit is refused because an amount would pass its maximum or an instance is there; no checking account is too full or too low
  pub unbarred : NeverBarred (order_of spec) (first_world spec) steps
  pub rising : NetworkAccountsRise spec steps
  pub covered : AllCovered (order_of spec) (first_world spec) steps
  -- in every world what the supply block prints of an asset is together what it was at first, and no more is owed than held
  pub printed : AllByRecursion (IsPrinted (first_world spec))
      (worlds (order_of spec) (first_world spec) steps)

-- ---- of every document

-- whatever document is read as a network, and whatever the steps
abbrev pub ReadNetworksAreLawful : Type 0
ReadNetworksAreLawful = (part : List ℕ) (spec : NetworkSpec) (steps : List Step)
    → network_of part ≡ Ok spec → IsLawful spec steps

-- and where none of the seven causes is found in it
abbrev pub CoherentNetworksAreSecure : Type 0
CoherentNetworksAreSecure = (part : List ℕ) (spec : NetworkSpec) (steps : List Step)
    → network_of part ≡ Ok spec → first_cause (entries_of spec) ≡ None → IsSecure spec steps

-- the network of drawn steps is both, without a premise
abbrev pub DrawnStepsAreLawful : Type 0
DrawnStepsAreLawful = (steps : List Step) → IsLawful described_network steps

abbrev pub DrawnStepsAreSecure : Type 0
DrawnStepsAreSecure = (steps : List Step) → IsSecure described_network steps
