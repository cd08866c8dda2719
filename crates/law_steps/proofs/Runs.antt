-- What a run sends has one of the seven shapes: of a chain's calls, only sends put messages anywhere.
use Rattle.std.proofs.Common.{◌≡◌, List, None, sym, subst}
use Rattle.locations.specs.declared.relative.Location.{Location}
use Rattle.operands.specs.declared.weight.Weight.{Weight}
use Rattle.xcm_program.specs.declared.instruction.Instruction.{Instruction}
use Rattle.exec_base.specs.Part.{ChainPart}
use Rattle.exec_rules.specs.Run.{Stage, machine_of, Reaches}
use Rattle.exec_rules.specs.Instructions.{xcm}
use Rattle.exec_rules.specs.declared.rules.ChainRules.{ChainRules}
use Rattle.exec_rules.specs.Execution.{executed, IsAbandoned}
use Rattle.exec_rules.specs.HostCalls.{MachineWithGoods, MachineCall, why_not, after}
use Rattle.exec_rules.proofs.Lemmas.Footprints.{part_is}
use Rattle.exec_rules.specs.Kept.{IsKeptByCalls}
use Rattle.exec_rules.proofs.Lemmas.KeptLaws.{any_kind, keeps_reached, keeps_executed, keeps_abandoned}
use Rattle.law_steps.specs.Shapes.{AreShapedAt}
use Rattle.law_steps.proofs.Channels.{transferred_shaped, deposited_shaped, shipped_shaped, responded_shaped, locked_shaped, requested_shaped}

abbrev Shaped : MachineWithGoods → Type 0
Shaped t = AreShapedAt t.part

call_shaped : (c : MachineCall) (t : MachineWithGoods) → why_not c t ≡ None → Shaped t → Shaped (after c t)
call_shaped (MachineCall.TransferOut list from dest xcm) t ok all = subst AreShapedAt (sym (part_is (MachineCall.TransferOut list from dest xcm) t)) (transferred_shaped t.part list from dest xcm ok all)
call_shaped (MachineCall.DepositOut dest xcm) t ok all = subst AreShapedAt (sym (part_is (MachineCall.DepositOut dest xcm) t)) (deposited_shaped t.part t.goods dest xcm ok all)
call_shaped (MachineCall.Ship way dest xcm) t ok all = subst AreShapedAt (sym (part_is (MachineCall.Ship way dest xcm) t)) (shipped_shaped t.part t.goods way dest xcm ok all)
call_shaped (MachineCall.Respond info answer querier) t ok all = subst AreShapedAt (sym (part_is (MachineCall.Respond info answer querier) t)) (responded_shaped t.part info answer querier all)
call_shaped (MachineCall.Lock a owner unlocker) t ok all = subst AreShapedAt (sym (part_is (MachineCall.Lock a owner unlocker) t)) (locked_shaped t.part a owner unlocker all)
call_shaped (MachineCall.Request a owner locker) t ok all = subst AreShapedAt (sym (part_is (MachineCall.Request a owner locker) t)) (requested_shaped t.part a owner locker all)
call_shaped _ t ok all = all

shapes_kept : IsKeptByCalls any_kind Shaped
shapes_kept = record { refunds = tt; called = λ x l is q moment m t c k asks from ok all. call_shaped c t ok all; turned = λ t r turns all. all }

-- whatever a run reaches
pub reached_shaped : (g h : Stage) → Reaches xcm g h → AreShapedAt (machine_of g).part → AreShapedAt (machine_of h).part
reached_shaped = keeps_reached Shaped shapes_kept

pub executed_shaped : (rules : ChainRules) (origin : Location) (credit : Weight) (program : List Instruction) (p : ChainPart) → AreShapedAt p → AreShapedAt (executed rules origin credit program p).1
executed_shaped rules origin credit program p all = (keeps_executed Shaped shapes_kept rules origin credit program p all).kept

pub stopped_shaped : (rules : ChainRules) (origin : Location) (credit : Weight) (program : List Instruction) (p now : ChainPart) → IsAbandoned rules origin credit program p now → AreShapedAt p → AreShapedAt now
stopped_shaped rules origin credit program p now h all = (keeps_abandoned Shaped shapes_kept rules origin credit program p now h all).kept
