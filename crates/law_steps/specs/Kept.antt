-- What is promised of a network document that can be opened and has no cause against it: what every world keeps, whatever steps were run. This
-- project's own rule.
use Rattle.std.specs.Prelude.{◌≡◌, List, None}
use Rattle.std.specs.List.{AllByRecursion}
use Rattle.law_steps.specs.Shapes.{AllShaped}
use Rattle.network_steps.specs.Steps.{Step, worlds}
use Rattle.network_spec.specs.declared.network.NetworkSpec.{NetworkSpec}
use Rattle.network_steps.specs.Genesis.{first_world, order_of, entries_of}
use Rattle.network_steps.specs.Openable.{IsOpenable}
use Rattle.law_coherence.specs.Causes.{first_cause}
use Rattle.law_steps.specs.Worlds.{AllKept, KeptBetween, AllSound, RunsKept, AccountsAlwaysRise}

-- a network that can be opened, with none of the seven causes for which it isn't coherent
pub record IsCoherent (spec : NetworkSpec) : Type 0 where
  pub openable : IsOpenable spec
  pub coherent : first_cause (entries_of spec) ≡ None

-- in every world from the first on each asset is conserved, each derivative backed, less than 2^127 of each there, each instance at most once, and
-- the checking accounts are right
abbrev pub NetworkKept : NetworkSpec → List Step → Type 0
NetworkKept spec steps = AllKept (order_of spec) (first_world spec) steps

-- the same of any two of these worlds, the earlier taken as the first
abbrev pub NetworkKeptBetween : NetworkSpec → List Step → Type 0
NetworkKeptBetween spec steps = KeptBetween (order_of spec) (first_world spec) steps

-- in each of them each chain is between runs, every unit, wherever it is, and every burn belongs to a listed row, and what waits was trusted when it
-- was sent
abbrev pub NetworkSound : NetworkSpec → List Step → Type 0
NetworkSound spec steps = AllSound (order_of spec) (first_world spec) steps

-- every moment inside a local execution, and inside a delivery after its first instruction, keeps what `NetworkKept` says, with what the run holds
-- counted; so does what is left where memory is refused to one
abbrev pub NetworkRunsKept : NetworkSpec → List Step → Type 0
NetworkRunsKept spec steps = RunsKept (order_of spec) (first_world spec) steps

-- wherever the run of a local execution or of a delivered message is, no teleport is refused because a checking account would pass its maximum
abbrev pub NetworkAccountsRise : NetworkSpec → List Step → Type 0
NetworkAccountsRise spec steps = AccountsAlwaysRise (order_of spec) (first_world spec) steps

-- in every world from the first on each message that waits has one of the seven shapes
abbrev pub NetworkShaped : NetworkSpec → List Step → Type 0
NetworkShaped spec steps = AllByRecursion AllShaped (worlds (order_of spec) (first_world spec) steps)
