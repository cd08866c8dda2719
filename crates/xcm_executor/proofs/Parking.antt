-- Where memory is refused, at most one bundle is parked beside the holding.
use Rattle.std.proofs.Common.{◌≡◌, ◌⊎◌, ⊎_elim, ◌<◌, ◌≤◌, List, [], ◌∷◌, ◌++◌, length, None, Result, Ok, Err, refl, sym, ap, ◌∙◌, subst, arith}
use Rattle.operands.specs.declared.error.XcmError.{XcmError}
use Rattle.asset_bundles.specs.Bundles.{Bundle}
use Rattle.xcm_program.specs.declared.instruction.Instruction.{Instruction, out-Instruction}
use Rattle.xcm_program.specs.declared.instruction.Instruction.TheOpen.{Instruction-F}
use Rattle.exec_base.specs.declared.event.Event.{Event}
use Rattle.exec_base.specs.Part.{ChainPart}
use Rattle.exec_base.specs.Host.{parked, told, settled}
use Rattle.exec_rules.specs.Machine.{Machine, machine, Performed}
use Rattle.exec_rules.specs.Run.{Stage, StoppedIn}
use Rattle.exec_rules.specs.Outcome.{refund_surplus, end_event, end_told}
use Rattle.exec_rules.specs.Instructions.{refusal_of, xcm}
use Rattle.exec_rules.specs.Readiness.{IsSteady}
use Rattle.exec_rules.specs.Stopping.{leaves_on_oom}
use Rattle.xcm_executor.specs.Running.{IsReadyThroughout}
use Rattle.exec_rules.specs.HostCalls.{MachineWithGoods, MachineCall, after}
use Rattle.exec_rules.specs.Reasons.{Moment, HasReason}
use Rattle.exec_rules.proofs.Lemmas.ReasonLaws.{lead_keeps}
use Rattle.exec_rules.proofs.Lemmas.StopLaws.{spilled_lead}

told_parks : (p : ChainPart) (e : Event) → (told p e).parked ≡ p.parked
unfolding told
told_parks p e = refl

settled_parks : (p : ChainPart) → (settled p).parked ≡ p.parked
unfolding settled
settled_parks p = refl

-- ---- one bundle
abbrev HasFew : Machine → Type 0
HasFew m = length m.part.parked ≤ 1

one_parked : (p q : ChainPart) (goods : Bundle) → p.parked ≡ [] → q.parked ≡ p.parked → length (parked q goods).parked ≤ 1
unfolding parked
one_parked p q goods e f = let g = ap (λ (bundles : List Bundle). length (bundles ++ goods ∷ [])) (f ∙ e) in omega (arith, g)

none_parked : (p : ChainPart) → p.parked ≡ [] → length p.parked ≤ 1
none_parked p e = let g = ap (λ (bundles : List Bundle). length bundles) e in omega (arith, g)

few_as : (now k : Machine) → now ≡ k → HasFew k → HasFew now
few_as now k e h = subst HasFew (sym e) h

-- ---- an instruction that memory stops
call_few : (l : Instruction-F Instruction) (m : Machine) → m.part.parked ≡ [] → (c : MachineCall) (t : MachineWithGoods) → HasReason Moment.Inside l m t c → length t.part.parked ≤ 1 → length (after c t).part.parked ≤ 1
call_few l m none MachineCall.Park t asks few = one_parked t.part t.part t.goods (asks ∙ none) refl
call_few l m none _ t asks few = few

pub spilled_few : (x : Instruction) (m now : Machine) → m.part.parked ≡ [] → leaves_on_oom x m now → HasFew now
spilled_few x m now none h =
    lead_keeps (out-Instruction x) m (λ (t : MachineWithGoods). length t.part.parked ≤ 1) (λ c t early asks from free few. call_few (out-Instruction x) m none c t asks few) now (spilled_lead (out-Instruction x) m now h) (none_parked m.part none)

-- ---- runs
abbrev StaysSteady : Type 0
StaysSteady = (x : Instruction) (m : Machine) → IsSteady m → refusal_of x m ≡ None → IsSteady (xcm.done x m)

performed_few : (done : StaysSteady) (x : Instruction) (m : Machine) (answer : Result (Unit {0}) XcmError) (now : Machine) → IsSteady m → Performed xcm x m answer now → HasFew now
performed_few done x m (Ok t) now steady h = few_as now (xcm.done x m) h.1 (none_parked (xcm.done x m).part (done x m steady h.0).rest.order.unparked)
performed_few done x m (Err e) now steady h = few_as now m h.1 (none_parked m.part steady.rest.order.unparked)

pub stopped_few : (done : StaysSteady) (start : Stage) (now : Machine) → IsReadyThroughout start → StoppedIn xcm leaves_on_oom start now → length now.part.parked < 4
stopped_few done start now ready s =
    let steady = (ready s.part s.place s.which s.behind s.before s.reached).steady in
    let few : HasFew now = ⊎_elim (λ h. spilled_few s.which s.before now steady.rest.order.unparked h) (λ h. performed_few done s.which s.before h.0 now steady h.1) s.halted in
    omega (arith, few)

-- ---- the end
pub halted_few : (m last now : Machine) → m.part.parked ≡ [] → last.part.parked ≡ [] → (leaves_on_oom refund_surplus m now ⊎ (now ≡ last) ⊎ (now ≡ machine last.regs (end_told last))) → length now.part.parked < 4
halted_few m last now e f h =
    let few : HasFew now = ⊎_elim (λ a. spilled_few refund_surplus m now e a)
    (λ b. ⊎_elim (λ c. few_as now last c (none_parked last.part f)) (λ d. few_as now (machine last.regs (end_told last)) d (none_parked (end_told last) (told_parks last.part (end_event last.regs) ∙ f))) b) h in
    omega (arith, few)

pub ended_few : (m : Machine) → m.part.parked ≡ [] → length (settled (end_told m)).parked < 4
ended_few m e = let few = none_parked (settled (end_told m)) (settled_parks (end_told m) ∙ told_parks m.part (end_event m.regs) ∙ e) in omega (arith, few)
