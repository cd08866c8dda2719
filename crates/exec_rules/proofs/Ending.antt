-- How an execution begins and ends.
use Rattle.std.proofs.Common.{◌≡◌, ℕ, ◌<◌, Bool, true, false, Option, Some, None, Result, Err, inl, inr, refl, sym, ap, ◌∙◌, subst, arith}
use Rattle.std.specs.Prelude.{nat_eq, if◌then◌else◌, length}
use Rattle.amounts.specs.Amounts.{empty, rows}
use Rattle.locations.specs.declared.relative.Location.{Location}
use Rattle.operands.specs.declared.error.XcmError.{XcmError}
use Rattle.operands.specs.declared.weight.Weight.{Weight}
use Rattle.operands.specs.Weights.{IsWithin}
use Rattle.asset_bundles.specs.Traps.{with_trapped}
use Rattle.weight_trader.specs.Refunds.{Closed}
use Rattle.xcm_program.specs.declared.instruction.Instruction.{Instruction, out-roll-Instruction}
use Rattle.xcm_program.specs.declared.instruction.Instruction.TheOpen.{Instruction-F}
use Rattle.xcm_program.specs.declared.outcome.Outcome.{Outcome}
use Rattle.exec_base.specs.declared.event.Event.{Event}
use Rattle.exec_base.specs.declared.event.Part.TheVariants as parts
use Rattle.exec_base.specs.declared.registers.Registers.{Registers}
use Rattle.exec_base.specs.Part.{ChainPart}
use Rattle.exec_base.specs.Host.{told, settled, trapped}
use Rattle.exec_rules.specs.Machine.{Machine, Control, control_of, Steers, IsOrderly}
use Rattle.exec_rules.specs.Run.{left_after}
use Rattle.exec_rules.specs.Accounts.{Balances, IsBalanced, KeepsAccounts, ref_time, proof_size}
use Rattle.exec_rules.specs.Outcome.{owner_of, end_event, refund_surplus, refunded_last, finished}
use Rattle.exec_rules.proofs.Lemmas.RunLaws.{begin_balanced}
use Rattle.exec_rules.specs.Instructions.{refusal_of, xcm}
use Rattle.exec_rules.specs.declared.rules.ChainRules.{ChainRules}
use Rattle.exec_rules.specs.declared.admission.Admitted.{Admitted}
use Rattle.exec_rules.specs.Admission.{IsWeighed}
use Rattle.exec_rules.specs.Execution.{started, first_machine, first_stage, executed_by}
use Rattle.plain_lists.proofs.Lemmas.Facts.{positive_not_zero as not_none}

started_balanced : (rules : ChainRules) (origin : Location) (a : Admitted) → IsWeighed rules.weight a → Balances a.weight a.program (control_of (started rules origin))
started_balanced rules origin a w =
    let t = ap ref_time w.is in
    let z = ap proof_size w.is in
    record {
      in_time = record { handler = refl; appendix = refl; within = omega (arith, t); refunded = omega arith };
      in_size = record { handler = refl; appendix = refl; within = omega (arith, z); refunded = omega arith };
      counted = omega (arith, w.counted);
      few = omega (arith, w.few);
      short = w.short;
      small = w.small;
    }

pub first_balanced : (rules : ChainRules) (origin : Location) (a : Admitted) (p : ChainPart) → IsWeighed rules.weight a → IsBalanced a.weight (first_stage rules origin a p)
first_balanced rules origin a p w = begin_balanced a.weight parts.Program a.program (first_machine rules origin p) (started_balanced rules origin a w)

pub refused_changes_nothing : (rules : ChainRules) (origin : Location) (answer : Result Admitted Outcome) (outcome : Outcome) (p : ChainPart) → answer ≡ Err outcome
    → executed_by rules origin answer p ≡ ((outcome, false), p)
refused_changes_nothing rules origin answer outcome p e = ap (λ (r : Result Admitted Outcome). executed_by rules origin r p) e

-- ---- the end

trapped_fees : (r : Registers) (p : ChainPart) → (trapped p r.holding (owner_of r)).fees ≡ p.fees
unfolding trapped
trapped_fees r p = refl

trapped_lines_kept : (r : Registers) (p : ChainPart) → (trapped p r.holding (owner_of r)).lines ≡ p.lines
unfolding trapped
trapped_lines_kept r p = refl

trapped_traps : (r : Registers) (p : ChainPart) → (trapped p r.holding (owner_of r)).traps ≡ with_trapped p.traps (owner_of r) r.holding
unfolding trapped
trapped_traps r p = refl

same_either : {A : Type 0} (f : ChainPart → A) (b : Bool) (p q : ChainPart) → f q ≡ f p → f (if b then p else q) ≡ f p
same_either f true p q h = refl
same_either f false p q h = h

settled_fees : (p : ChainPart) → (settled p).fees ≡ empty
unfolding settled
settled_fees p = refl

settled_lines : (p : ChainPart) → (settled p).lines ≡ Closed p.lines
unfolding settled
settled_lines p = refl

settled_traps : (p : ChainPart) → (settled p).traps ≡ p.traps
unfolding settled
settled_traps p = refl

told_lines : (p : ChainPart) (e : Event) → (told p e).lines ≡ p.lines
unfolding told
told_lines p e = refl

told_traps : (p : ChainPart) (e : Event) → (told p e).traps ≡ p.traps
unfolding told
told_traps p e = refl

pub ends_settled : (m : Machine) → ((finished xcm m).fees ≡ empty) × ((finished xcm m).lines ≡ Closed (refunded_last xcm m).part.lines)
ends_settled m =
    let last = refunded_last xcm m in
    let p = settled (told last.part (end_event last.regs)) in (
      same_either (λ (p : ChainPart). p.fees) (nat_eq (length (rows last.regs.holding)) 0) p _ (trapped_fees last.regs p) ∙ settled_fees (told last.part (end_event last.regs)),
      same_either (λ (p : ChainPart). p.lines) (nat_eq (length (rows last.regs.holding)) 0) p _ (trapped_lines_kept last.regs p)
          ∙ settled_lines (told last.part (end_event last.regs)) ∙ ap Closed (told_lines last.part (end_event last.regs)),
    )

some_is_trapped : (n : ℕ) (p q : ChainPart) → 0 < n → (if nat_eq n 0 then p else q) ≡ q
some_is_trapped n p q some = ap (λ (b : Bool). if b then p else q) (not_none n some)

none_is_trapped : (n : ℕ) (p q : ChainPart) → n ≡ 0 → (if nat_eq n 0 then p else q) ≡ p
none_is_trapped n p q none = ap (λ (k : ℕ). if nat_eq k 0 then p else q) none

pub ends_trapped : (m : Machine) → 0 < length (rows (refunded_last xcm m).regs.holding)
    → (finished xcm m).traps ≡ with_trapped (refunded_last xcm m).part.traps (owner_of (refunded_last xcm m).regs) (refunded_last xcm m).regs.holding
ends_trapped m some =
    let last = refunded_last xcm m in
    let told_part = told last.part (end_event last.regs) in
    ap (λ (p : ChainPart). p.traps) (some_is_trapped (length (rows last.regs.holding)) (settled told_part) (trapped (settled told_part) last.regs.holding (owner_of last.regs)) some)
    ∙ trapped_traps last.regs (settled told_part)
    ∙ ap (λ s. with_trapped s (owner_of last.regs) last.regs.holding) (settled_traps told_part ∙ told_traps last.part (end_event last.regs))

pub ends_untrapped : (m : Machine) → length (rows (refunded_last xcm m).regs.holding) ≡ 0 → (finished xcm m).traps ≡ (refunded_last xcm m).part.traps
ends_untrapped m none =
    let last = refunded_last xcm m in
    let told_part = told last.part (end_event last.regs) in
    ap (λ (p : ChainPart). p.traps) (none_is_trapped (length (rows last.regs.holding)) (settled told_part) (trapped (settled told_part) last.regs.holding (owner_of last.regs)) none)
    ∙ settled_traps told_part ∙ told_traps last.part (end_event last.regs)

-- ---- weights after the last refund
kept_behind : (most : Weight) (c d : Control) → Steers {X = Instruction} (λ p. p) Instruction-F.RefundSurplus c d → (IsWithin c.surplus most) × (IsWithin c.refunded c.surplus)
    → (IsWithin d.surplus most) × (IsWithin d.refunded d.surplus)
kept_behind most c d (inl same) k = subst (λ (e : Control). (IsWithin e.surplus most) × (IsWithin e.refunded e.surplus)) (sym same) k
kept_behind most c d (inr spent) k =
    subst (λ (e : Control). (IsWithin e.surplus most) × (IsWithin e.refunded e.surplus)) (sym spent)
    (k.0, record { ref_time = omega arith; proof_size = omega arith })

refund_keeps : (most : Weight) (m : Machine) (o : Option XcmError) → refusal_of refund_surplus m ≡ o → IsOrderly xcm → KeepsAccounts most m.regs
    → KeepsAccounts most (left_after xcm refund_surplus m o).regs
refund_keeps most m (Some error) e orderly k = k
refund_keeps most m None e orderly k =
    let steers = subst (λ (l : Instruction-F Instruction). Steers (λ p. p) l (control_of m.regs) (control_of (xcm.done refund_surplus m).regs))
    (out-roll-Instruction Instruction-F.RefundSurplus) (orderly refund_surplus m e) in
    let kept = kept_behind most _ _ steers (k.surplus, k.refunded) in
    record { surplus = kept.0; refunded = kept.1 }

pub last_accounts : (most : Weight) (m : Machine) → IsOrderly xcm → KeepsAccounts most m.regs → KeepsAccounts most (refunded_last xcm m).regs
last_accounts most m orderly k = refund_keeps most m (refusal_of refund_surplus m) refl orderly k
