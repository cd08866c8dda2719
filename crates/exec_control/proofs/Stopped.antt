-- What is left where memory was refused in a dispatch.
use Rattle.std.proofs.Common.{◌≡◌, ◌⊎◌, inl, inr, ℕ, Bool, true, List, Option, Some, Result, Ok, Err, refl, sym, ap, ◌∙◌, subst}
use Rattle.std.specs.Prelude.{OnErr}
use Rattle.locations.specs.declared.relative.Location.{Location}
use Rattle.operands.specs.declared.origin.OriginKind.{OriginKind}
use Rattle.operands.specs.declared.weight.Weight.{Weight}
use Rattle.xcm_program.specs.declared.instruction.Instruction.TheOpen.{Instruction-F}
use Rattle.std.specs.declared.alloc.AllocError.{AllocError}
use Rattle.call_dispatch.specs.declared.end.CallEnd.{CallEnd}
use Rattle.call_dispatch.specs.declared.faults.CallFault.TheVariants.{Memory}
use Rattle.call_dispatch.specs.Spelling.{AnyCall}
use Rattle.call_dispatch.specs.Reading.{call_of}
use Rattle.exec_base.specs.Part.{ChainPart}
use Rattle.exec_base.specs.Calls.{IsDispatchedInPart, Dispatches}
use Rattle.exec_rules.specs.Machine.{Machine, machine}
use Rattle.exec_rules.specs.Calls.{read_of, call_in, caller_in, CallStops, CallStopsAt}
use Rattle.exec_rules.specs.Stopping.{LeftOnOom}

pub was_read : (c : AnyCall) (bytes : List ℕ) → (Ok c ≡ Err Memory) ⊎ (Ok c ≡ call_of bytes) → call_of bytes ≡ Ok c
was_read c bytes (inl is) = absurd cc
was_read c bytes (inr is) = sym is

pub stopped_by : (p : ChainPart) (who : List ℕ) (c : AnyCall) (result : Result CallEnd AllocError) (now : ChainPart) → p.calls ≡ true → Dispatches p.calls p who c result now → {e : AllocError} → result ≡ Err e → IsDispatchedInPart p who c now
stopped_by p who c result now serves h is =
    let served : Dispatches true p who c result now = subst (λ (b : Bool). Dispatches b p who c result now) serves h in
    subst (λ (r : Result CallEnd AllocError). Dispatches true p who c r now) is served

-- by the origin, that calls are served, the call, the account and what was done in part
pub stopped : (m : Machine) (kind : OriginKind) (most : Weight) (bytes : List ℕ) (who : Location) (c : AnyCall) (account : List ℕ) (p : ChainPart)
    → m.regs.origin ≡ Some who → m.part.calls ≡ true → call_of bytes ≡ Ok c → caller_in m kind who ≡ Some account
    → IsDispatchedInPart m.part account c p → LeftOnOom (Instruction-F.Transact kind most bytes) m (machine m.regs p)
stopped m kind most bytes who c account p origin serves read called in_part =
    let call : call_in m.part.calls bytes ≡ Some c = ap (λ (b : Bool). call_in b bytes) serves ∙ ap read_of read in
    inr (subst (λ (o : Option Location). CallStopsAt m kind bytes o (machine m.regs p)) (sym origin)
    (subst (λ (f : Option AnyCall). CallStops m f (caller_in m kind who) (machine m.regs p)) (sym call)
    (subst (λ (a : Option (List ℕ)). CallStops m (Some c) a (machine m.regs p)) (sym called)
    (record { part = p; in_part = in_part; is = refl }))))

pub on_err : {T E : Type 0} {X : Type 0} (r : Result T E) → X → OnErr r X
on_err (Ok x) holds = tt
on_err (Err e) holds = holds
