-- Instructions that are sound keep sound ones, and every run of them is ready for the next.
use Rattle.std.proofs.Common.{◌≡◌, ℕ, Bool, true, false, ◌&&◌, List, [], ◌∷◌, Option, Some, None, refl, sym, ap, ◌∙◌, subst, arith}
use Rattle.std.specs.Prelude.{⊤}
use Rattle.std.specs.List.{AllByRecursion}
use Rattle.operands.specs.declared.weight.Weight.{Weight}
use Rattle.xcm_program.specs.declared.instruction.Instruction.{Instruction, out-Instruction}
use Rattle.xcm_program.specs.declared.instruction.Instruction.TheOpen.{Instruction-F}
use Rattle.xcm_program.specs.Measure.{inner, inner_of}
use Rattle.xcm_program.specs.Weights.{kept}
use Rattle.xcm_program.specs.Everywhere.{AllInside}
use Rattle.xcm_program.specs.Conversions.{is_convertible_one, is_convertible, HasAmounts}
use Rattle.xcm_program.proofs.Lemmas.{deep_count_one-is, deep_count_inside, convertible_inside, is_convertible_one-is, amounts_open}
use Rattle.exec_base.specs.declared.event.Part.{Part}
use Rattle.exec_base.specs.declared.event.Event.{Event}
use Rattle.exec_base.specs.Sending.{IsForwardable}
use Rattle.exec_base.specs.Host.{told}
use Rattle.exec_rules.specs.Machine.{Machine}
use Rattle.exec_rules.specs.Run.{Stage, At, Ended, Reaches, machine_of, failed, without_handler, without_appendix, handler_dropped}
use Rattle.exec_rules.specs.Accounts.{IsBalanced}
use Rattle.exec_rules.specs.Keeping.{IsAheadOf, IsKeptByRuns}
use Rattle.exec_rules.proofs.Lemmas.BalanceLaws.{affordable}
use Rattle.exec_rules.proofs.Lemmas.RunLaws.{reached_balanced}
use Rattle.exec_rules.proofs.Lemmas.KeepingLaws.{reached_hold, reached_keeps}
use Rattle.exec_rules.specs.Instructions.{xcm}
use Rattle.exec_rules.specs.Readiness.{IsSteady, IsSoundInstruction, IsReady}
use Rattle.exec_rules.proofs.Steering.{xcm_steers}
use Rattle.exec_rules.proofs.Steady.{steady_after, registers_steady}
use Rattle.plain_lists.proofs.Lemmas.Facts.{first_true, second_true}

-- ---- sound instructions
and_true : (b : Bool) → b ≡ true → (b && true) ≡ true
and_true true h = refl
and_true false h = absurd cc

-- each instruction of a program that may be sent is sound
pub sound_all : (program : List Instruction) → IsForwardable program → AllByRecursion IsSoundInstruction program
sound_all [] f = tt
sound_all (x ∷ rest) f = (
  record {
    few = omega (arith, f.few);
    named = and_true (is_convertible_one x) (first_true (is_convertible_one x) (is_convertible rest) f.named);
    amounts = (f.amounts.0, tt);
  },
  sound_all rest (record { few = omega (arith, f.few); named = second_true (is_convertible_one x) (is_convertible rest) f.named; amounts = f.amounts.1 }),
)

kept_is_inner : (l : Instruction-F Instruction) (p : List Instruction) → kept l ≡ Some p → inner l ≡ Some p
kept_is_inner (Instruction-F.SetErrorHandler xcm) p e = e
kept_is_inner (Instruction-F.SetAppendix xcm) p e = e
kept_is_inner _ p e = absurd cc

inner_sound : (x : Instruction) (p : List Instruction) → inner_of x ≡ Some p → IsSoundInstruction x → IsForwardable p
inner_sound x p e f = record {
  few = let c = deep_count_one-is x in let n = ap deep_count_inside e in omega (arith, f.few, c, n);
  named = sym (ap convertible_inside e) ∙ second_true _ _ (sym (is_convertible_one-is x) ∙ first_true (is_convertible_one x) true f.named);
  amounts = subst (λ (o : Option (List Instruction)). AllInside HasAmounts o) e (amounts_open x f.amounts.0).1;
}

kept_sound : (x : Instruction) (o : Option (List Instruction)) → kept (out-Instruction x) ≡ o → IsSoundInstruction x → AllInside IsSoundInstruction o
kept_sound x None e f = tt
kept_sound x (Some p) e f = sound_all p (inner_sound x p (kept_is_inner (out-Instruction x) p e) f)

pub sound_inside : (x : Instruction) → IsSoundInstruction x → AllInside IsSoundInstruction (kept (out-Instruction x))
sound_inside x f = kept_sound x (kept (out-Instruction x)) refl f

-- ---- runs
abbrev any_kind : Instruction → Type 0
any_kind x = ⊤

all_any : (xs : List Instruction) → AllByRecursion any_kind xs
all_any [] = tt
all_any (x ∷ xs) = (tt, all_any xs)

any_inside : (o : Option (List Instruction)) → AllInside any_kind o
any_inside None = tt
any_inside (Some p) = all_any p

any_ahead : (g : Stage) → IsAheadOf any_kind g
any_ahead (At part place x behind m) = record { ahead_hold = all_any (x ∷ behind); handler_holds = all_any m.regs.handler; appendix_holds = all_any m.regs.appendix }
any_ahead (Ended m) = record { ahead_hold = tt; handler_holds = all_any m.regs.handler; appendix_holds = all_any m.regs.appendix }

abbrev StaysSteady : Machine → Machine → Type 0
StaysSteady m n = IsSteady m → IsSteady n

told_steady : (e : Event) (m : Machine) → StaysSteady m (record m { part = told m.part e })
unfolding told
told_steady e m steady = record {
  rest = record { order = record { traps = steady.rest.order.traps; rates = steady.rest.order.rates; paid = steady.rest.order.paid; pools = steady.rest.order.pools; unparked = steady.rest.order.unparked }; slot = steady.rest.slot };
  holding = steady.holding;
}

steady_is_kept : IsKeptByRuns xcm any_kind StaysSteady
steady_is_kept = record {
  same = λ m steady. steady;
  chained = λ a b c f g steady. g (f steady);
  done = λ x m q r ok steady. steady_after x m steady ok;
  told = told_steady;
  failed_at = λ place e behind m steady. registers_steady m (record m { regs = failed place e behind m.regs }) steady refl refl;
  handler_taken = λ m steady. registers_steady m (record m { regs = without_handler m.regs }) steady refl refl;
  handler_given_up = λ m steady. registers_steady m (record m { regs = handler_dropped m.regs }) steady refl refl;
  appendix_taken = λ m steady. registers_steady m (record m { regs = without_appendix m.regs }) steady refl refl;
}

pub reached_steady : (most : Weight) (g h : Stage) → IsBalanced most g → Reaches xcm g h → IsSteady (machine_of g) → IsSteady (machine_of h)
reached_steady most g h balanced reaches = reached_keeps xcm xcm_steers any_kind (λ x q. any_inside (kept (out-Instruction x))) StaysSteady steady_is_kept most g h reaches balanced (any_ahead g)

-- every run is ready for its next instruction
pub reached_ready : (most : Weight) (g : Stage) (part : Part) (place : ℕ) (x : Instruction) (behind : List Instruction) (m : Machine) → IsBalanced most g → IsAheadOf IsSoundInstruction g → IsSteady (machine_of g) → Reaches xcm g (At part place x behind m)
    → IsReady x m
reached_ready most g part place x behind m balanced sound steady reaches =
    let here = reached_hold xcm xcm_steers IsSoundInstruction sound_inside g (At part place x behind m) reaches sound in
    record {
      steady = reached_steady most g (At part place x behind m) balanced reaches steady;
      sound = here.ahead_hold.0;
      affordable = affordable most x behind m.regs (reached_balanced xcm xcm_steers most g (At part place x behind m) reaches balanced);
    }
