-- A withdrawal that its reserve admits is paid, and a teleport that its receiver admits is received. This project's own rule.
--
--   withdrawal   a message whose cargo was lowered at its sender, to be taken from the sender's account at the reserve
--   teleport     a message whose cargo left its sender, to be at the receiver
--   admitted     the program that admission leaves: its weight is within the limit, and the barriers let it in
use Rattle.std.specs.Prelude.{◌≡◌, ◌≤◌, IsTrue, List, Option, Some, None, Ok}
use Rattle.std.specs.List.{AllByRecursion}
use Rattle.amounts.specs.Amounts.{empty}
use Rattle.locations.specs.declared.relative.Location.{Location}
use Rattle.asset_lists.specs.declared.units.Asset.{Asset}
use Rattle.weight_trader.specs.Purchases.{no_weight}
use Rattle.xcm_program.specs.declared.instruction.Instruction.{Instruction}
use Rattle.xcm_program.specs.declared.instruction.Instruction.TheOpen.{Instruction-F}
use Rattle.exec_base.specs.Host.{ByWithdrawal, ByTeleport, fits_call, cargo_list}
use Rattle.exec_base.specs.Sending.{led_by}
use Rattle.exec_rules.specs.Machine.{Machine}
use Rattle.exec_rules.specs.Instructions.{refused}
use Rattle.exec_rules.specs.declared.admission.Admitted.{Admitted}
use Rattle.exec_rules.specs.Admission.{admitted}
use Rattle.exec_rules.specs.Execution.{first_machine}
use Rattle.network_steps.specs.Worlds.{Member, chain_of, World}
use Rattle.network_steps.specs.Acting.{lost_of}
use Rattle.network_steps.specs.Steps.{name_at, run_for, Link, Step}
use Rattle.law_steps.specs.Shapes.{named_there}
use Rattle.law_steps.specs.Worlds.{IsDelivery, arrives}

-- what is admitted begins with a call with this list, and ClearOrigin, and the machine doesn't refuse the call
pub record IsLedByAccepted (call : List Asset → Instruction-F Instruction) (named : Option (List Asset)) (a : Admitted) (m : Machine) : Type 0 where
  pub list : List Asset
  pub behind : List Instruction
  pub carried : named ≡ Some list
  pub leads : a.program ≡ led_by (call list) behind
  pub accepted : refused (call list) m ≡ None

module _ {order : List Link} {w : World} {steps : List Step} (d : IsDelivery order w steps) where
  -- the receiver runs the message for its sender
  abbrev pub sender_name : Location
  sender_name = name_at (chain_of d.receiver) (chain_of d.sender)

  -- the receiver lets the message in
  abbrev pub Admits : Admitted → Type 0
  Admits a = admitted d.receiver.rules sender_name no_weight (arrives d.sender d.receiver d.message).queries d.message.program ≡ Ok a

  -- its first instruction takes the cargo, under the receiver's names, out of the sender's account, and isn't refused
  abbrev pub IsPaid : Admitted → Type 0
  IsPaid a = IsLedByAccepted Instruction-F.WithdrawAsset (named_there d.sender.part.site (chain_of d.receiver) (cargo_list d.message.cargo)) a
      (first_machine d.receiver.rules sender_name (arrives d.sender d.receiver d.message))

  -- its first instruction takes the cargo in, under the receiver's names, and isn't refused
  abbrev pub IsAdmittedReceipt : Admitted → Type 0
  IsAdmittedReceipt a = IsLedByAccepted Instruction-F.ReceiveTeleportedAsset (named_there d.sender.part.site (chain_of d.receiver) (cargo_list d.message.cargo)) a
      (first_machine d.receiver.rules sender_name (arrives d.sender d.receiver d.message))

-- whatever the steps, each withdrawal that is admitted is paid
abbrev pub WithdrawalsPaid : List Link → World → List Step → Type 0
WithdrawalsPaid order w steps = (d : IsDelivery order w steps) (a : Admitted) → IsTrue (fits_call ByWithdrawal d.message.cargo) → Admits d a → IsPaid d a

-- whatever the steps, each teleport that is admitted is received
abbrev pub TeleportsReceived : List Link → World → List Step → Type 0
TeleportsReceived order w steps = (d : IsDelivery order w steps) (a : Admitted) → IsTrue (fits_call ByTeleport d.message.cargo) → Admits d a → IsAdmittedReceipt d a

-- whatever the steps, of a message that is admitted no teleport is lost
abbrev pub NoneLost : List Link → World → List Step → Type 0
NoneLost order w steps = (d : IsDelivery order w steps) (a : Admitted) → Admits d a → lost_of (run_for d.sender d.receiver d.message).left ≡ empty

-- an execution may hold all that one list names, at each chain
abbrev pub HaveRoom : World → Type 0
HaveRoom w = AllByRecursion (λ (m : Member). 20 ≤ m.rules.max_holding) w
