-- Every world of a coherent network keeps every asset and every backing, and its checking accounts cover what there is elsewhere. This project's own
-- rule.
use Rattle.std.specs.Prelude.{◌≡◌, ◌≢◌, ◌⊎◌, ℕ, ◌≤◌, false, List, Some, Ok, slice_get, slice_set}
use Rattle.amounts.specs.Amounts.{empty}
use Rattle.locations.specs.declared.relative.Location.{Location}
use Rattle.operands.specs.declared.error.XcmError.TheVariants as error
use Rattle.asset_lists.specs.declared.filters.Filter.{Filter}
use Rattle.xcm_program.specs.declared.instruction.Instruction.{Instruction}
use Rattle.xcm_program.specs.declared.instruction.Instruction.TheOpen.{Instruction-F}
use Rattle.versioned_xcm.specs.Reading.{message_of}
use Rattle.channel_parts.specs.declared.cargo.Cargo.TheVariants as cargos
use Rattle.channel_parts.specs.Channels.{Waiting, Outgoing}
use Rattle.chain_queues.specs.Queues.{channel_to, oldest}
use Rattle.exec_base.specs.declared.event.Event.{Event}
use Rattle.exec_base.specs.Host.{told}
use Rattle.exec_base.specs.Part.{ChainPart}
use Rattle.exec_rules.specs.Machine.{Machine}
use Rattle.exec_rules.specs.Run.{Stage, machine_of, Reaches, GoesOnTo}
use Rattle.exec_rules.specs.Instructions.{refused, xcm}
use Rattle.exec_rules.specs.declared.admission.Admitted.{Admitted}
use Rattle.exec_rules.specs.Admission.{admitted}
use Rattle.exec_rules.specs.Execution.{executed, first_stage, IsAbandoned}
use Rattle.weight_trader.specs.Purchases.{no_weight}
use Rattle.std.specs.List.{AllByRecursion, AllPairs}
use Rattle.asset_lists.specs.declared.units.Instance.{Instance}
use Rattle.network_steps.specs.Worlds as networks
use Rattle.network_steps.specs.Worlds.{Member, chain_of}
use Rattle.network_steps.specs.Acting.{begun, caller, lost_of, booking_lost}
use Rattle.network_steps.specs.Steps.{is_sovereign, name_at, without_message, Link, Step, worlds}
use Rattle.law_runs.specs.Views.{seen, view}
use Rattle.law_steps.specs.Shapes.{AllShaped}
use Rattle.law_coherence.specs.UniversalAssets.{UniversalAsset, just}
use Rattle.law_coherence.specs.Parts.{WorldView, population}
use Rattle.law_coherence.specs.Headline.{IsKept}
use Rattle.law_steps.specs.Views.{views}
use Rattle.law_steps.specs.Soundness.{IsSoundPart}
use Rattle.law_steps.specs.Bounds.{IsSoundGenesis}

-- each chain is between runs, with every unit and every burn listed, and what waits was trusted when it was sent
abbrev pub AreSoundParts : networks.World → Type 0
AreSoundParts w = (k : ℕ) (m : Member) → slice_get w k ≡ Some m → IsSoundPart m.part

-- a first world: its chains agree and it is backed, of no asset there is 2^127 or more, its checking accounts cover what there is elsewhere and
-- with what their chains have are below 2^128-1, no instance is at two homes, each message that waits has a shape, and each chain is sound
pub record IsFirst (w : networks.World) : Type 0 where
  pub genesis : IsSoundGenesis (views w)
  pub once : (a : UniversalAsset) (instance : Instance) → population a (just (Some instance)) (views w) ≤ 1
  pub shaped : AllShaped w
  pub parts : AreSoundParts w

-- conserved, backed, below 2^127, with each instance once and with right checking accounts: so is every world, whatever the steps
abbrev pub AllKept : List Link → networks.World → List Step → Type 0
AllKept order w steps = AllByRecursion (λ (v : networks.World). IsKept (views w) (views v)) (worlds order w steps)

-- and so it is of any two worlds, the earlier taken as the first: what is kept from the first on is kept from each on
abbrev pub KeepsOn : networks.World → networks.World → Type 0
KeepsOn u v = IsKept (views u) (views v)

abbrev pub KeptBetween : List Link → networks.World → List Step → Type 0
KeptBetween order w steps = AllPairs KeepsOn (worlds order w steps)

-- and in every world each unit, wherever it is, and each burn belongs to a listed row
abbrev pub AllSound : List Link → networks.World → List Step → Type 0
AllSound order w steps = AllByRecursion AreSoundParts (worlds order w steps)

-- the network while the chain at an index runs a program: its part is that of the run, with what is held
abbrev pub while_running : networks.World → ℕ → Machine → WorldView
while_running w k m = slice_set (views w) k (view m)

-- the network where memory was refused to a chain's run: its part is what is then left, with what is parked
abbrev pub where_stopped : networks.World → ℕ → ChainPart → WorldView
where_stopped w k p = slice_set (views w) k (seen empty p)

-- no teleport of what a run holds is refused because a checking account would pass its maximum; no other instruction asks for that
abbrev pub AccountsMayRise : Machine → Type 0
AccountsMayRise m = (filter : Filter) (dest : Location) (xcm : List Instruction) → refused (Instruction-F.InitiateTeleport filter dest xcm) m ≢ Some error.NotDepositable

-- an account has a message executed on its chain, in one of the worlds
pub record IsExecution (order : List Link) (w : networks.World) (steps : List Step) (account : List ℕ) (program : List Instruction) : Type 0 where
  pub at : ℕ
  pub world : networks.World
  pub reached : slice_get (worlds order w steps) at ≡ Some world
  pub place : ℕ
  pub member : Member
  pub stands : slice_get world place ≡ Some member
  pub own : is_sovereign account ≡ false
  pub bytes : List ℕ
  pub decoded : message_of bytes ≡ Ok program

-- the chain's part as the execution begins
abbrev pub begins : Member → ChainPart
begins m = begun (chain_of m) cargos.Nothing m.part

-- a message is the oldest of its channel, in one of the worlds
pub record IsDelivery (order : List Link) (w : networks.World) (steps : List Step) : Type 0 where
  pub at : ℕ
  pub world : networks.World
  pub reached : slice_get (worlds order w steps) at ≡ Some world
  pub from : ℕ
  pub sender : Member
  pub sends : slice_get world from ≡ Some sender
  pub to : ℕ
  pub receiver : Member
  pub receives : slice_get world to ≡ Some receiver
  pub channel : Outgoing
  pub leads : channel_to (chain_of receiver) sender.part.channels ≡ Some channel
  pub message : Waiting
  pub oldest : oldest channel ≡ Some message

-- the receiver's part as the message begins
abbrev pub arrives : Member → Member → Waiting → ChainPart
arrives sender receiver m = told (begun (chain_of sender) m.cargo receiver.part) (Event.Message (chain_of sender) (chain_of receiver) m.number)

-- the network while the receiver runs the message: it is out of its channel, the receiver's part is that of the run, with what is held,
-- and what is still left of a teleported cargo counts as burned, as it would if the run ended there
abbrev pub while_delivered : networks.World → ℕ → Member → ℕ → Member → Machine → WorldView
while_delivered w from sender to receiver m = slice_set (slice_set (views w) from (seen empty (booking_lost (lost_of m.part.cargo.cargo) (without_message (chain_of receiver) sender.part)))) to (view m)

-- where memory was refused to a delivery, the receiver's part is: as the message began, neither read nor told; or as its execution was abandoned;
-- or as it ended, when what was lost couldn't be told
abbrev pub StopsAt : Member → Member → Waiting → ChainPart → Type 0
StopsAt sender receiver m q =
    (q ≡ begun (chain_of sender) m.cargo receiver.part)
    ⊎ IsAbandoned receiver.rules (name_at (chain_of receiver) (chain_of sender)) no_weight m.program (arrives sender receiver m) q
    ⊎ (q ≡ (executed receiver.rules (name_at (chain_of receiver) (chain_of sender)) no_weight m.program (arrives sender receiver m)).1)

-- the network where memory was refused to a delivery: the message is out of its channel, the receiver's part is what is then left, with what is
-- parked, and what is left of a teleported cargo is burned
abbrev pub where_delivery_stopped : networks.World → ℕ → Member → ℕ → Member → ChainPart → WorldView
where_delivery_stopped w from sender to receiver q =
    slice_set (slice_set (views w) from (seen empty (booking_lost (lost_of q.cargo.cargo) (without_message (chain_of receiver) sender.part)))) to (seen empty q)

-- where the run of a local execution begins, and where that of a delivered message does
abbrev pub first_of_execution : Member → List ℕ → Admitted → Stage
first_of_execution m account a = first_stage m.rules (caller account) a (begins m)

abbrev pub first_of_delivery : Member → Member → Waiting → Admitted → Stage
first_of_delivery sender receiver m a =
    first_stage receiver.rules (name_at (chain_of receiver) (chain_of sender)) a (arrives sender receiver m)

-- the chain admits the program for its account; the receiver admits the message
abbrev pub AdmitsExecution : Member → List ℕ → List Instruction → Admitted → Type 0
AdmitsExecution m account program a =
    admitted m.rules (caller account) m.rules.limit (begins m).queries program ≡ Ok a

abbrev pub AdmitsDelivery : Member → Member → Waiting → Admitted → Type 0
AdmitsDelivery sender receiver m a =
    admitted receiver.rules (name_at (chain_of receiver) (chain_of sender)) no_weight
    (arrives sender receiver m).queries m.program ≡ Ok a

-- every moment inside a run is kept, with what the run holds counted: that of a local execution wherever it comes, that of a delivered message
-- after its first instruction; and where memory is refused to one, with what is parked counted
pub record RunsKept (order : List Link) (w : networks.World) (steps : List Step) : Type 0 where
  pub executions : (account : List ℕ) (program : List Instruction) (x : IsExecution order w steps account program)
      (a : Admitted) (g : Stage) → AdmitsExecution x.member account program a
      → Reaches xcm (first_of_execution x.member account a) g
      → IsKept (views w) (while_running x.world x.place (machine_of g))
  pub stopped_executions : (account : List ℕ) (program : List Instruction) (x : IsExecution order w steps account program)
      (now : ChainPart) → IsAbandoned x.member.rules (caller account) x.member.rules.limit program (begins x.member) now
      → IsKept (views w) (where_stopped x.world x.place now)
  pub deliveries : (d : IsDelivery order w steps) (a : Admitted) (g : Stage)
      → AdmitsDelivery d.sender d.receiver d.message a
      → GoesOnTo xcm (first_of_delivery d.sender d.receiver d.message a) g
      → IsKept (views w) (while_delivered d.world d.from d.sender d.to d.receiver (machine_of g))
  pub stopped_deliveries : (d : IsDelivery order w steps) (now : ChainPart)
      → StopsAt d.sender d.receiver d.message now
      → IsKept (views w) (where_delivery_stopped d.world d.from d.sender d.to d.receiver now)

-- wherever the run of a local execution or of a delivered message is, no checking account would pass its maximum
pub record AccountsAlwaysRise (order : List Link) (w : networks.World) (steps : List Step) : Type 0 where
  pub executions : (account : List ℕ) (program : List Instruction) (x : IsExecution order w steps account program)
      (a : Admitted) (g : Stage) → AdmitsExecution x.member account program a
      → Reaches xcm (first_of_execution x.member account a) g → AccountsMayRise (machine_of g)
  pub deliveries : (d : IsDelivery order w steps) (a : Admitted) (g : Stage)
      → AdmitsDelivery d.sender d.receiver d.message a
      → Reaches xcm (first_of_delivery d.sender d.receiver d.message a) g → AccountsMayRise (machine_of g)
