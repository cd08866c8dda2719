-- The beginning and the end of a run that was admitted.
use Rattle.std.proofs.Common.{◌≡◌, inl, inr, ℕ, ◌<◌, [], length, Bool, true, ◌&&◌, Option, Some, None, refl, sym, ap, ◌∙◌, subst, arith}
use Rattle.amounts.specs.Amounts.{empty}
use Rattle.amounts.proofs.Lemmas.AmountLaws.{amount-empty}
use Rattle.locations.specs.declared.relative.Location.{Location}
use Rattle.operands.specs.declared.error.XcmError.{XcmError}
use Rattle.operands.specs.declared.weight.Weight.{Weight}
use Rattle.operands.specs.Weights.{IsWithin}
use Rattle.asset_bundles.proofs.Lemmas.Bundles.{unit_keys}
use Rattle.asset_bundles.specs.Books.{AreListed}
use Rattle.trust_tables.specs.Trust.{listing}
use Rattle.weight_trader.specs.Purchases.{no_weight}
use Rattle.xcm_program.specs.declared.rule.WeightRule.{WeightRule}
use Rattle.xcm_program.specs.declared.instruction.Instruction.{Instruction, out-Instruction, out-roll-Instruction}
use Rattle.xcm_program.specs.declared.instruction.Instruction.TheOpen.{Instruction-F}
use Rattle.xcm_program.specs.Measure.{inner}
use Rattle.xcm_program.specs.Everywhere.{AllInside}
use Rattle.xcm_program.specs.Conversions.{names_concrete_ids, is_convertible_one, HasAmount, HasAmounts}
use Rattle.xcm_program.proofs.Lemmas.{deep_count_one-is, deep_count_inside, convertible_inside, is_convertible_one-is, amounts_here}
use Rattle.xcm_program.specs.Weights.{kept}
use Rattle.exec_base.specs.declared.event.Part.TheVariants as parts
use Rattle.exec_base.specs.declared.registers.Registers.{Registers}
use Rattle.exec_base.specs.Part.{ChainPart}
use Rattle.exec_rules.specs.Machine.{Machine, machine, Control, control_of, IsOrderly}
use Rattle.exec_rules.specs.Run.{Stage, Ended, begin, run, still_to_run, machine_of, left_after, Reaches, StoppedIn}
use Rattle.exec_rules.specs.Outcome.{refund_surplus, refunded_last, rest_trapped, finished, abandoned, HaltedAtEnd}
use Rattle.exec_rules.specs.Accounts.{Balances, IsBalanced, freed, HasWeight, IsAffordable, ref_time, proof_size}
use Rattle.exec_rules.proofs.Lemmas.RunLaws.{reached_balanced}
use Rattle.exec_rules.proofs.Lemmas.KeepingLaws.{begin_machine}
use Rattle.exec_rules.specs.Holdings.{refund_now, refund_done}
use Rattle.exec_rules.specs.Instructions.{refusal_of, done, xcm}
use Rattle.exec_rules.specs.Readiness.{IsAtRest, IsSteady, IsSoundInstruction, IsReady}
use Rattle.exec_rules.specs.Stopping.{leaves_on_oom}
use Rattle.exec_rules.specs.declared.rules.ChainRules.{ChainRules}
use Rattle.exec_rules.specs.declared.admission.Admitted.{Admitted}
use Rattle.exec_rules.specs.Execution.{started, first_machine, first_stage, last_machine, AbandonedIn}
use Rattle.xcm_executor.specs.Running.{IsReadyThroughout, IsReadyToRun, wound_up, HaltedBefore}
use Rattle.xcm_executor.proofs.Standing.{balanced_begin}
use Rattle.xcm_executor.proofs.Parking.{ended_few}

-- ---- the last refund, which is no instruction of the program
refund_layer : out-Instruction refund_surplus ≡ Instruction-F.RefundSurplus
refund_layer = out-roll-Instruction Instruction-F.RefundSurplus

refund_weighs : (rule : WeightRule) → HasWeight rule (kept (out-Instruction refund_surplus))
refund_weighs rule = subst (λ (l : Instruction-F Instruction). HasWeight rule (kept l)) (sym refund_layer) tt

refund_frees : (dimension : Weight → ℕ) (c : Control) → dimension (freed (out-Instruction refund_surplus) c) ≡ dimension no_weight
refund_frees dimension c = ap (λ (l : Instruction-F Instruction). dimension (freed l c)) refund_layer

refund_named : is_convertible_one refund_surplus ≡ true
refund_named = is_convertible_one-is refund_surplus ∙ ap (λ (l : Instruction-F Instruction). names_concrete_ids l && convertible_inside (inner l)) refund_layer

refund_has_amounts : HasAmounts refund_surplus
refund_has_amounts = amounts_here refund_surplus (subst (HasAmount Instruction) (sym refund_layer) tt) (subst (λ (l : Instruction-F Instruction). AllInside HasAmounts (inner l)) (sym refund_layer) tt)

refund_sound : IsSoundInstruction refund_surplus
refund_sound = record {
  few = let c = deep_count_one-is refund_surplus in let n = ap (λ (l : Instruction-F Instruction). deep_count_inside (inner l)) refund_layer in omega (arith, c, n);
  named = ap (λ (b : Bool). b && true) refund_named;
  amounts = (refund_has_amounts, tt);
}

refund_affordable : (most : Weight) (r : Registers) → Balances most [] (control_of r) → IsAffordable refund_surplus r
refund_affordable most r b = record {
  refunded = record { ref_time = b.in_time.refunded; proof_size = b.in_size.refunded };
  weighs = refund_weighs r.rule;
  short = let f = refund_frees ref_time (control_of r) in omega (arith, b.in_time.within, b.short, f);
  small = let f = refund_frees proof_size (control_of r) in omega (arith, b.in_size.within, b.small, f);
}

pub refund_ready : (most : Weight) (m : Machine) → Balances most [] (control_of m.regs) → IsSteady m → IsReady refund_surplus m
refund_ready most m b steady = record { steady = steady; sound = refund_sound; affordable = refund_affordable most m.regs b }

pub surplus_within : (most : Weight) (r : Registers) → Balances most [] (control_of r) → IsWithin r.surplus most
surplus_within most r b = record { ref_time = omega (arith, b.in_time.within); proof_size = omega (arith, b.in_size.within) }

last_steady : (m : Machine) (o : Option XcmError) → refusal_of refund_surplus m ≡ o → ((x : Instruction) (n : Machine) → IsSteady n → refusal_of x n ≡ None → IsSteady (xcm.done x n)) → IsSteady m → IsSteady (left_after xcm refund_surplus m o)
last_steady m None e done steady = done refund_surplus m steady e
last_steady m (Some error) e done steady = steady

joined_surplus : (m : Machine) (o : Option (Location × ℕ)) → (refund_done m o).regs.surplus ≡ m.regs.surplus
joined_surplus m None = refl
joined_surplus m (Some given) = refl

done_surplus : (m : Machine) → (xcm.done refund_surplus m).regs.surplus ≡ m.regs.surplus
done_surplus m = ap (λ (l : Instruction-F Instruction). (done l m).regs.surplus) refund_layer ∙ joined_surplus m (refund_now m)

last_surplus : (m : Machine) (o : Option XcmError) → (left_after xcm refund_surplus m o).regs.surplus ≡ m.regs.surplus
last_surplus m None = done_surplus m
last_surplus m (Some error) = refl

pub refunded_steady : (m : Machine) → ((x : Instruction) (n : Machine) → IsSteady n → refusal_of x n ≡ None → IsSteady (xcm.done x n)) → IsSteady m → IsSteady (refunded_last xcm m)
refunded_steady m done steady = last_steady m (refusal_of refund_surplus m) refl done steady

-- ---- the beginning
nothing_listed : (p : ChainPart) → AreListed (listing p.rows) empty
nothing_listed p u some = let none = amount-empty unit_keys u in absurd (omega (arith, none, some))

first_steady : (rules : ChainRules) (origin : Location) (a : Admitted) (p : ChainPart) → IsAtRest p → IsSteady (machine_of (first_stage rules origin a p))
first_steady rules origin a p rest = subst IsSteady (sym (begin_machine parts.Program a.program (first_machine rules origin p))) (record { rest = rest; holding = nothing_listed p })

module _ (rules : ChainRules) (origin : Location) (a : Admitted) (r : Registers) (is : r ≡ started rules origin) (p : ChainPart) where
  begins : begin parts.Program a.program (machine r p) ≡ first_stage rules origin a p
  begins = ap (λ (q : Registers). begin parts.Program a.program (machine q p)) is

  pub first_runnable : IsBalanced a.weight (first_stage rules origin a p) → IsReadyThroughout (first_stage rules origin a p) → IsReadyToRun parts.Program a.program (machine r p)
  first_runnable b ready = subst (λ (q : Registers). IsReadyToRun parts.Program a.program (machine q p)) (sym is) (record {
    accounted = (a.weight, balanced_begin a.weight parts.Program a.program (first_machine rules origin p) b);
    ready = ready;
  })

  pub first_ready : IsReadyThroughout (first_stage rules origin a p) → IsReadyThroughout (begin parts.Program a.program (machine r p))
  first_ready ready = subst IsReadyThroughout (sym begins) ready

  -- ---- the end
  module _ (m : Machine) (e : run xcm (begin parts.Program a.program (machine r p)) ≡ Ended m) where
    ends : run xcm (first_stage rules origin a p) ≡ Ended m
    ends = ap (run xcm) (sym begins) ∙ e

    pub last_is : last_machine rules origin a p ≡ m
    last_is = ap machine_of ends

    pub ended_balances : IsOrderly xcm → IsBalanced a.weight (first_stage rules origin a p) → Balances a.weight [] (control_of m.regs)
    ended_balances orderly b =
        let g = first_stage rules origin a p in
        subst (IsBalanced a.weight) ends (reached_balanced xcm orderly a.weight g (run xcm g) (still_to_run g, refl) b)

    pub ended_steady : ((most : Weight) (g h : Stage) → IsBalanced most g → Reaches xcm g h → IsSteady (machine_of g) → IsSteady (machine_of h)) → IsBalanced a.weight (first_stage rules origin a p) → IsAtRest p → IsSteady m
    ended_steady reached b rest =
        let g = first_stage rules origin a p in
        subst IsSteady last_is (reached a.weight g (run xcm g) b (still_to_run g, refl) (first_steady rules origin a p rest))

    pub ended_abandoned : (now : ChainPart) → HaltedAtEnd xcm leaves_on_oom m now → AbandonedIn rules origin a p now
    ended_abandoned now h = inr (subst (λ (n : Machine). HaltedAtEnd xcm leaves_on_oom n now) (sym last_is) h)

    pub ended_rests : (now : ChainPart) → now ≡ finished xcm m → IsAtRest (finished xcm (last_machine rules origin a p)) → IsAtRest now
    ended_rests now h rests = subst IsAtRest (ap (finished xcm) last_is ∙ sym h) rests

  pub stopped_abandoned : (stopped : Machine) (now : ChainPart) → StoppedIn xcm leaves_on_oom (begin parts.Program a.program (machine r p)) stopped → now ≡ abandoned stopped.regs stopped.part → AbandonedIn rules origin a p now
  stopped_abandoned stopped now h e = inl (stopped, subst (λ (g : Stage). StoppedIn xcm leaves_on_oom g stopped) begins h, e)

-- ---- out of memory at the end
pub halted_before : (m now : Machine) (left : ChainPart) → HaltedBefore m now → left ≡ abandoned now.regs now.part → HaltedAtEnd xcm leaves_on_oom m left
halted_before m now left h e = elim h [
  | inl a ↦ inl (now, a, e)
  | inr b ↦ elim b [
    | inl c ↦ inr (inl (e ∙ ap (λ (n : Machine). abandoned n.regs n.part) c))
    | inr d ↦ inr (inr (inl (e ∙ ap (λ (n : Machine). abandoned n.regs n.part) d)))
  ]
]

-- ---- the machine when all is told and settled
pub wound_surplus : (m : Machine) → (wound_up m).regs.surplus ≡ m.regs.surplus
wound_surplus m = last_surplus m (refusal_of refund_surplus m)

pub wound_within : (m now : Machine) (weight : Weight) → now ≡ wound_up m → IsWithin m.regs.surplus weight → IsWithin now.regs.surplus weight
wound_within m now weight e h = subst (λ (w : Weight). IsWithin w weight) (sym (ap (λ (n : Machine). n.regs.surplus) e ∙ wound_surplus m)) h

pub wound_few : (m now : Machine) → now ≡ wound_up m → IsSteady (refunded_last xcm m) → length now.part.parked < 4
wound_few m now e steady = subst (λ (n : Machine). length n.part.parked < 4) (sym e) (ended_few (refunded_last xcm m) steady.rest.order.unparked)

pub wound_finished : (m now : Machine) (left : ChainPart) → now ≡ wound_up m → left ≡ rest_trapped now.regs now.part → left ≡ finished xcm m
wound_finished m now left e h = h ∙ ap (λ (n : Machine). rest_trapped n.regs n.part) e

pub wound_abandoned : (m now : Machine) (left : ChainPart) → now ≡ wound_up m → left ≡ abandoned now.regs now.part → HaltedAtEnd xcm leaves_on_oom m left
wound_abandoned m now left e h = inr (inr (inr (h ∙ ap (λ (n : Machine). abandoned n.regs n.part) e)))
