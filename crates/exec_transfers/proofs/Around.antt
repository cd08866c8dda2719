-- An instruction that is a rule and a change inside a delivery fee: how it is put together of its beginning, its inside and its end.
use Rattle.std.proofs.Common.{◌≡◌, Bool, true, false, [], ◌∷◌, Option, Some, None, Result, Ok, Err, refl, sym, ap, ◌∙◌, inl, inr}
use Rattle.std.specs.Prelude.{◌⊎◌, if◌then◌else◌, IfOk, OnErr}
use Rattle.std.specs.declared.alloc.AllocError.{AllocError}
use Rattle.locations.specs.declared.relative.Location.{Location}
use Rattle.operands.specs.declared.error.XcmError.{XcmError}
use Rattle.asset_lists.specs.declared.units.Asset.{Asset}
use Rattle.xcm_program.specs.declared.instruction.Instruction.{Instruction}
use Rattle.xcm_program.specs.declared.instruction.Instruction.TheOpen.{Instruction-F}
use Rattle.exec_base.specs.Host.{fee_held, fee_drawn}
use Rattle.exec_rules.specs.Machine.{Machine, machine}
use Rattle.exec_rules.specs.Holdings.{at_origin, holding_paid, payment_of}
use Rattle.exec_rules.specs.Instructions.{refused, done}
use Rattle.exec_rules.specs.Fees.{refused_around, done_around}
use Rattle.exec_rules.specs.Stopping.{StopsAround, PartwayOnOom, LeftOnOom}
use Rattle.exec_rules.specs.Functions.{Ran}
use Rattle.exec_rules.specs.Readiness.{IsSteady}
use Rattle.exec_holding.specs.Holding.{RanTo}
use Rattle.exec_holding.specs.Charging.{charged_for, Begins, CanEnd, Ends}
use Rattle.exec_holding.proofs.Lemmas.{not_begun, can_end, ended, stopped_inside, stopped_ending}

pub record IsInside (l : Instruction-F Instruction) (m : Machine) (fee : Option Asset) (rule : Machine → Option XcmError) (change : Machine → Machine) (inside : Machine → Machine → Type 0) : Type 0 where
  pub refused : refused l m ≡ refused_around fee m rule
  pub done : done l m ≡ done_around fee m change
  pub stops : (now : Machine) → StopsAround fee m inside now → PartwayOnOom l m now

ran_by : (l : Instruction-F Instruction) (m now : Machine) (refusal : Option XcmError) (after : Machine) (answer : Result (Unit {0}) XcmError)
    → refused l m ≡ refusal → done l m ≡ after → RanTo refusal after m answer now → Ran l m answer now
ran_by l m now refusal after (Ok u) is leaves ran = (is ∙ ran.0, ran.1 ∙ sym leaves)
ran_by l m now refusal after (Err e) is leaves ran = (is ∙ ran.0, ran.1)

spilled_by : (l : Instruction-F Instruction) (m now : Machine) (fee : Option Asset) (inside : Machine → Machine → Type 0) → ((x : Machine) → StopsAround fee m inside x → PartwayOnOom l m x) → (now ≡ m) ⊎ StopsAround fee m inside now → LeftOnOom l m now
spilled_by l m now fee inside stops (inl same) = inl same
spilled_by l m now fee inside stops (inr left) = inr (stops now left)

-- nothing is parked by a fee
parked_after : (mode : Bool) (o : Option Location) (m : Machine) (fee : Asset)
    → (if mode then at_origin o (λ who. machine m.regs (fee_held (fee_drawn m.part (fee ∷ []) who) (payment_of fee))) m else machine (holding_paid m fee).regs (fee_held m.part (payment_of fee))).part.parked ≡ m.part.parked
unfolding fee_held fee_drawn
parked_after true None m fee = refl
parked_after true (Some who) m fee = refl
parked_after false o m fee = refl

parked_for : (fee : Option Asset) (m : Machine) → (charged_for fee m).part.parked ≡ m.part.parked
parked_for None m = refl
parked_for (Some fee) m = parked_after m.regs.fees_mode m.regs.origin m fee

pub begun_unparked : (fee : Option Asset) (m n : Machine) (charged : Bool) → IsSteady m → Begins fee m (Ok charged) n → n.part.parked ≡ []
begun_unparked fee m n charged steady begun = ap (λ (x : Machine). x.part.parked) begun.2 ∙ parked_for fee m ∙ steady.rest.order.unparked

module _ (l : Instruction-F Instruction) (m : Machine) (fee : Option Asset) (rule : Machine → Option XcmError) (change : Machine → Machine) (inside : Machine → Machine → Type 0) (is : IsInside l m fee rule change inside) where
  -- the fee was refused
  pub begin_refused : (now : Machine) (e : XcmError) → Begins fee m (Err e) now → Ran l m (Err e) now
  begin_refused now e begun = ran_by l m now _ _ (Err e) is.refused is.done (not_begun fee m now rule change e begun)

  -- out of memory stopped what is inside
  pub inside_spilled : (n now : Machine) (charged : Bool) → Begins fee m (Ok charged) n → (now ≡ n) ⊎ inside n now → LeftOnOom l m now
  inside_spilled n now charged begun stopped = spilled_by l m now fee inside is.stops (stopped_inside fee m n now charged inside begun stopped)

  -- it can end
  pub may_end : (n k : Machine) (charged : Bool) (answer : Result (Unit {0}) XcmError) → IsSteady m → Begins fee m (Ok charged) n → RanTo (rule n) (change n) n answer k → CanEnd charged answer k
  may_end n k charged answer steady begun ran = can_end fee m n k rule change charged answer steady.rest.order.unparked begun ran

  -- it ended
  pub end_ran : (n k now : Machine) (charged : Bool) (answer : Result (Unit {0}) XcmError) (result : Result (Result (Unit {0}) XcmError) AllocError)
      → IsSteady m → Begins fee m (Ok charged) n → RanTo (rule n) (change n) n answer k → Ends charged answer k result now → IfOk result (λ a. Ran l m a now)
  end_ran n k now charged answer (Ok a) steady begun ran ends = ran_by l m now _ _ a is.refused is.done (ended fee m n k now rule change charged answer a steady.rest.slot begun ran ends)
  end_ran n k now charged answer (Err e) steady begun ran ends = tt

  -- or out of memory stopped the end
  pub end_spilled : (n k now : Machine) (charged : Bool) (answer : Result (Unit {0}) XcmError) (result : Result (Result (Unit {0}) XcmError) AllocError)
      → Begins fee m (Ok charged) n → RanTo (rule n) (change n) n answer k → Ends charged answer k result now → OnErr result (LeftOnOom l m now)
  end_spilled n k now charged answer (Ok a) begun ran ends = tt
  end_spilled n k now charged answer (Err e) begun ran ends = spilled_by l m now fee inside is.stops (stopped_ending fee m n k now rule change charged answer e inside begun ran ends)
