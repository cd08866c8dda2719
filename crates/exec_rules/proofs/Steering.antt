-- The instructions change the registers by which a run is steered only as they may.
use Rattle.std.proofs.Common.{◌≡◌, ◌⊎◌, inl, inr, ℕ, List, Option, Some, None, refl, sym, ap, ◌∙◌, subst, arith}
use Rattle.locations.specs.declared.grammar.Junction.{Junction}
use Rattle.locations.specs.declared.relative.Location.{Location}
use Rattle.operands.specs.declared.origin.OriginKind.{OriginKind}
use Rattle.operands.specs.declared.weight.Weight.{Weight}
use Rattle.operands.specs.Weights.{IsWithin}
use Rattle.asset_bundles.specs.Bundles.{Bundle}
use Rattle.weight_trader.specs.Refunds.{weight_minus}
use Rattle.call_dispatch.specs.Spelling.{AnyCall}
use Rattle.xcm_program.specs.declared.instruction.Instruction.{Instruction, out-Instruction}
use Rattle.xcm_program.specs.declared.instruction.Instruction.TheOpen.{Instruction-F}
use Rattle.exec_base.specs.declared.registers.Registers.{Registers}
use Rattle.exec_rules.specs.Machine.{Machine, Control, control_of, Steers, IsOrderly}
use Rattle.exec_rules.specs.Calls.{call_in, caller_in, call_weight, spare_weight, call_refusal}
use Rattle.exec_rules.specs.Holdings.{with_origin, with_holding, refund_now}
use Rattle.exec_rules.specs.Instructions.{refused, done, xcm}
use Rattle.exec_rules.specs.HostCalls.{MachineWithGoods, between, after_all, calls, refund_noted, below_origin, call_noted, call_noted_for, turned}
use Rattle.exec_rules.proofs.Lemmas.CallLaws.{done_is}
use Rattle.exec_rules.proofs.Lemmas.ReasonLaws.{from_itself, from_all}

refund_steers : (m : Machine) (o : Option (Location × ℕ)) (r : Registers) → control_of r ≡ control_of m.regs
    → (control_of (refund_noted m o r) ≡ control_of m.regs) ⊎ (control_of (refund_noted m o r) ≡ record (control_of m.regs) { refunded = m.regs.surplus })
refund_steers m None r same = inl same
refund_steers m (Some given) r same = inr (ap (λ (c : Control). record c { refunded = m.regs.surplus }) same)

below_steers : (o : Option Location) (path : List Junction) (r : Registers) → control_of (below_origin o path r) ≡ control_of r
below_steers None path r = refl
below_steers (Some who) path r = refl

minus_within : (v w : Weight) → IsWithin (weight_minus v w) v
minus_within v w = record { ref_time = omega arith; proof_size = omega arith }

-- a call spares a part of the weight that was required
call_steers : (m : Machine) (kind : OriginKind) (most : Weight) (bytes : List ℕ) (c : Option AnyCall) (account : Option (List ℕ)) (held : Bundle)
    → call_refusal m.regs.rule most c account ≡ None
    → Steers (λ p. p) (Instruction-F.Transact kind most bytes) (control_of m.regs) (control_of (call_noted m most c account (with_holding m.regs held)))
call_steers m kind most bytes None account held ok = absurd cc
call_steers m kind most bytes (Some c) None held ok = absurd cc
call_steers m kind most bytes (Some c) (Some account) held ok =
    (spare_weight m.regs.rule most c, minus_within most (call_weight m.regs.rule c), refl)

transact_steers : (m : Machine) (kind : OriginKind) (most : Weight) (bytes : List ℕ) (o : Option Location) (held : Bundle)
    → with_origin o (λ who. call_refusal m.regs.rule most (call_in m.part.calls bytes) (caller_in m kind who)) ≡ None
    → Steers (λ p. p) (Instruction-F.Transact kind most bytes) (control_of m.regs) (control_of (call_noted_for o m kind most bytes (with_holding m.regs held)))
transact_steers m kind most bytes None held ok = absurd cc
transact_steers m kind most bytes (Some who) held ok =
    call_steers m kind most bytes (call_in m.part.calls bytes) (caller_in m kind who) held ok

-- whatever is held at its end
turned_steers : (l : Instruction-F Instruction) (m : Machine) (held : Bundle) → refused l m ≡ None
    → Steers (λ p. p) l (control_of m.regs) (control_of (turned l m (with_holding m.regs held)))
turned_steers Instruction-F.RefundSurplus m held ok = refund_steers m (refund_now m) (with_holding m.regs held) refl
turned_steers (Instruction-F.DescendOrigin path) m held ok = below_steers m.regs.origin path (with_holding m.regs held)
turned_steers (Instruction-F.Transact kind most bytes) m held ok = transact_steers m kind most bytes m.regs.origin held ok
turned_steers _ m held ok = refl

registers_done : (l : Instruction-F Instruction) (m : Machine) → (done l m).regs ≡ turned l m (with_holding m.regs (after_all (calls l m) (between m)).regs.holding)
registers_done l m =
    ap (λ (t : MachineWithGoods). t.regs) (done_is l m)
    ∙ ap (turned l m) (from_all m (calls l m) (between m) (from_itself m)).regs

steered : (l : Instruction-F Instruction) (m : Machine) → refused l m ≡ None → Steers (λ p. p) l (control_of m.regs) (control_of (done l m).regs)
steered l m ok =
    subst (λ (r : Registers). Steers (λ p. p) l (control_of m.regs) (control_of r)) (sym (registers_done l m))
    (turned_steers l m (after_all (calls l m) (between m)).regs.holding ok)

pub xcm_steers : IsOrderly xcm
xcm_steers x m ok = steered (out-Instruction x) m ok
