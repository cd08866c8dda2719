-- Lemmas: where memory is refused inside an instruction, no excess is burned either. A reader may skip this file.
use Rattle.std.proofs.Common.{◌≡◌, ◌⊎◌, ⊎_elim, true, None, refl, ap, ◌∙◌, arith}
use Rattle.operands.specs.declared.weight.WeightLimit.{WeightLimit}
use Rattle.operands.specs.declared.weight.WeightLimit.TheVariants.{Unlimited, Limited}
use Rattle.asset_lists.specs.declared.units.Asset.{Asset}
use Rattle.asset_bundles.specs.Bundles.{Bundle}
use Rattle.xcm_program.specs.declared.instruction.Instruction.{Instruction}
use Rattle.xcm_program.specs.declared.instruction.Instruction.TheOpen.{Instruction-F}
use Rattle.exec_base.specs.Part.{ChainPart}
use Rattle.exec_base.specs.Host.{bought, unspent, parked}
use Rattle.exec_rules.specs.Machine.{Machine}
use Rattle.exec_rules.specs.Holdings.{holds_asset, payment_of, holding_paid, buying_refusal}
use Rattle.exec_rules.proofs.Lemmas.HoldingLaws.{payment_within}
use Rattle.exec_rules.proofs.Lemmas.AnswerLaws.{unless_held}
use Rattle.exec_rules.specs.Stopping.{parking, BuyingStops, LeftOnOom}
use Rattle.law_nets.proofs.Fitting.{just_unit, FitsBundle, units_within}
use Rattle.law_nets.proofs.Calls.{BurnsNoExcess, same_burns, no_excess_then, bought_no_excess}
use Rattle.exec_rules.specs.HostCalls.{MachineWithGoods, MachineCall, after}
use Rattle.exec_rules.specs.Reasons.{Moment, HasReason, ComesBeforeStop}
use Rattle.exec_rules.proofs.Lemmas.ReasonLaws.{lead_keeps}
use Rattle.exec_rules.proofs.Lemmas.StopLaws.{spilled_lead}
use Rattle.operands.specs.declared.weight.Weight.{Weight}

pub parked_burns : (p : ChainPart) (goods : Bundle) → (parked p goods).burns ≡ p.burns
unfolding parked
parked_burns p goods = refl

buying_stops : (m : Machine) (fees : Asset) (limit : WeightLimit) (now : Machine) → FitsBundle m → BuyingStops m fees limit now → BurnsNoExcess m.part now.part
buying_stops m fees Unlimited now fits h = absurd h
buying_stops m fees (Limited w) now fits h = ⊎_elim
    (λ (e : (holds_asset m fees ≡ true) × (now ≡ parking (holding_paid m fees) m.part (payment_of fees))). same_burns m.part now.part (ap (λ (z : Machine). z.part.burns) e.1 ∙ parked_burns m.part (payment_of fees)))
    (λ (e : (buying_refusal m fees (Limited w) ≡ None) × (now ≡ parking (holding_paid m fees) (bought m.part w (payment_of fees)) (unspent m.part w (payment_of fees)))).
    let payment = payment_of fees in
    let inside = payment_within m fees (unless_held _ _ _ e.0) in
    let p = bought m.part w payment in
    no_excess_then m.part p now.part
    (bought_no_excess m.part w payment (λ u. let fit = fits u in let less = units_within (just_unit u) m.regs.holding payment inside in omega (arith, fit, less)))
    (same_burns p now.part (ap (λ (z : Machine). z.part.burns) e.1 ∙ parked_burns p (unspent m.part w payment)))) h

-- ---- all others
abbrev IsNoPurchase : Instruction-F Instruction → Type 0
IsNoPurchase l = (fees : Asset) (w : Weight) → l ≡ Instruction-F.BuyExecution fees (Limited w) → ⊥

early_no_excess : (l : Instruction-F Instruction) (m : Machine) → IsNoPurchase l → (c : MachineCall) (t : MachineWithGoods) → ComesBeforeStop c → HasReason Moment.Inside l m t c → BurnsNoExcess m.part t.part → BurnsNoExcess m.part (after c t).part
early_no_excess l m other MachineCall.Join t early asks x = absurd early
early_no_excess l m other MachineCall.Burn t early asks x = absurd early
early_no_excess l m other (MachineCall.Buy w) t early asks x = absurd (other asks.0 w asks.1)
early_no_excess l m other MachineCall.Settle t early asks x = absurd (cc asks.0)
early_no_excess l m other _ t early asks x = x

others_no_excess : (l : Instruction-F Instruction) (m now : Machine) → IsNoPurchase l → LeftOnOom l m now → BurnsNoExcess m.part now.part
others_no_excess l m now other h =
    lead_keeps l m (λ (t : MachineWithGoods). BurnsNoExcess m.part t.part) (λ c t early asks from free x. early_no_excess l m other c t early asks x) now (spilled_lead l m now h) (same_burns m.part m.part refl)

pub spilled_no_excess : (l : Instruction-F Instruction) (m now : Machine) → FitsBundle m → LeftOnOom l m now → BurnsNoExcess m.part now.part
spilled_no_excess (Instruction-F.BuyExecution fees limit) m now fits h =
    ⊎_elim (λ (e : now ≡ m). same_burns m.part now.part (ap (λ (z : Machine). z.part.burns) e)) (λ (s : BuyingStops m fees limit now). buying_stops m fees limit now fits s) h
spilled_no_excess l m now fits h = others_no_excess l m now (λ fees w e. absurd (cc e)) h
