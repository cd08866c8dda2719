-- Barriers leave a message its shape: they change no more than the limit of a purchase.
use Rattle.std.proofs.Common.{◌≡◌, ℕ, zero, suc, Bool, true, false, List, [], ◌∷◌, Option, Some, None, Result, Ok, ⊎_elim, inl, inr, refl, ap, ◌∙◌, subst}
use Rattle.std.specs.Prelude.{slice_get, slice_set, find}
use Rattle.std.specs.Option.{option_map_or}
use Rattle.chain_ids.specs.declared.chain.ChainId.{ChainId}
use Rattle.locations.specs.declared.relative.Location.{Location}
use Rattle.operands.specs.declared.query.OpenQuery.{OpenQuery}
use Rattle.operands.specs.declared.weight.Weight.{Weight}
use Rattle.operands.specs.declared.weight.WeightLimit.{WeightLimit}
use Rattle.operands.specs.declared.weight.WeightLimit.TheVariants.{Limited}
use Rattle.operands.specs.Weights.{is_within}
use Rattle.asset_lists.specs.declared.units.Asset.{Asset}
use Rattle.asset_bundles.specs.Bundles.{held_assets}
use Rattle.asset_bundles.specs.declared.shipment.Way.{Way}
use Rattle.trust_tables.specs.declared.chains.Site.{Site}
use Rattle.xcm_program.specs.declared.instruction.Instruction.{Instruction, roll-Instruction, out-roll-Instruction}
use Rattle.xcm_program.specs.declared.instruction.Instruction.TheOpen.{Instruction-F}
use Rattle.xcm_program.specs.declared.outcome.Outcome.{Outcome}
use Rattle.xcm_program.specs.Weights.{weight_of}
use Rattle.channel_parts.specs.declared.cargo.Cargo.{Cargo}
use Rattle.channel_parts.specs.declared.cargo.Cargo.TheVariants.{Nothing, Deposit, Away}
use Rattle.barriers.specs.declared.barrier.Barrier.{Barrier}
use Rattle.barriers.specs.Barriers.{with_limit, limited, with_limit_at, purchase_index, left_by, decided, allows, admission}
use Rattle.exec_base.specs.Sending.{led_by, away_program}
use Rattle.exec_rules.specs.declared.rules.ChainRules.{ChainRules}
use Rattle.exec_rules.specs.declared.admission.Admitted.{Admitted}
use Rattle.exec_rules.specs.Admission.{by_barriers, by_limit, by_weight, admitted}
use Rattle.law_steps.specs.Shapes.{stands_alone, IsLedBy, IsAlone, IsLedByClaim, IsShape}

-- ---- one limit in a program
limited_same : (limit : WeightLimit) (l : Instruction-F Instruction) → with_limit limit l ≡ l → limited limit (roll-Instruction l) ≡ roll-Instruction l
limited_same limit l same = ap (λ (k : Instruction-F Instruction). roll-Instruction (with_limit limit k)) (out-roll-Instruction l) ∙ ap roll-Instruction same

record IsLedStill (first : Instruction-F Instruction) (program : List Instruction) : Type 0 where
  behind : List Instruction
  is : program ≡ led_by first behind

led_still : (limit : WeightLimit) (k : ℕ) (first : Instruction-F Instruction) (behind : List Instruction) → with_limit limit first ≡ first → IsLedStill first (with_limit_at limit k (led_by first behind))
led_still limit zero first behind same = record {
  behind = behind;
  is = ap (λ (a : Instruction). a ∷ roll-Instruction Instruction-F.ClearOrigin ∷ behind) (limited_same limit first same);
}
led_still limit (suc zero) first behind same = record {
  behind = behind;
  is = ap (λ (a : Instruction). roll-Instruction first ∷ a ∷ behind) (limited_same limit Instruction-F.ClearOrigin refl);
}
led_still limit (suc (suc k)) first behind same = record {
  behind = with_limit_at limit k behind;
  is = later (slice_get behind k);
}
  where
    later : (o : Option Instruction) → option_map_or (λ (i : Instruction). roll-Instruction first ∷ roll-Instruction Instruction-F.ClearOrigin ∷ slice_set behind k (limited limit i)) o (led_by first behind)
        ≡ led_by first (option_map_or (λ (i : Instruction). slice_set behind k (limited limit i)) o behind)
    later None = refl
    later (Some i) = refl

alone_still : (limit : WeightLimit) (k : ℕ) (l : Instruction-F Instruction) → with_limit limit l ≡ l → with_limit_at limit k (roll-Instruction l ∷ []) ≡ roll-Instruction l ∷ []
alone_still limit zero l same = ap (λ (a : Instruction). a ∷ []) (limited_same limit l same)
alone_still limit (suc k) l same = refl

-- none of them is a purchase
no_purchase : (limit : WeightLimit) (l : Instruction-F Instruction) → stands_alone l ≡ true → with_limit limit l ≡ l
no_purchase limit (Instruction-F.BuyExecution fees old) h = absurd cc
no_purchase limit l h = refl

-- ---- a limit in a shape
limit_shape : (limit : WeightLimit) (k : ℕ) (here : Site) (there : ChainId) (program : List Instruction) (cargo : Cargo) → IsShape here there program cargo → IsShape here there (with_limit_at limit k program) cargo
limit_shape limit k here there program (Deposit list) s =
    let still = led_still limit k (Instruction-F.ReserveAssetDeposited s.list) s.behind refl in
    record { list = s.list; behind = still.behind; named = s.named; is = ap (with_limit_at limit k) s.is ∙ still.is }
limit_shape limit k here there program (Away shipment) s = away_shape shipment.way (held_assets shipment.units) s
  where
    away_shape : (way : Way) (carried : List Asset) → IsLedBy here there carried (away_program way) program → IsLedBy here there carried (away_program way) (with_limit_at limit k program)
    away_shape Way.Withdrawal carried s =
        let still = led_still limit k (Instruction-F.WithdrawAsset s.list) s.behind refl in
        record { list = s.list; behind = still.behind; named = s.named; is = ap (with_limit_at limit k) s.is ∙ still.is }
    away_shape Way.Teleport carried s =
        let still = led_still limit k (Instruction-F.ReceiveTeleportedAsset s.list) s.behind refl in
        record { list = s.list; behind = still.behind; named = s.named; is = ap (with_limit_at limit k) s.is ∙ still.is }
limit_shape limit k here there program Nothing s =
    ⊎_elim
    (λ (a : IsAlone program). inl (record { what = a.what; kind = a.kind; is = ap (with_limit_at limit k) a.is ∙ alone_still limit k a.what (no_purchase limit a.what a.kind) }))
    (λ (c : IsLedByClaim program).
    let still = led_still limit k (Instruction-F.ClaimAsset c.list c.ticket) c.behind refl in
    inr (record { list = c.list; ticket = c.ticket; behind = still.behind; is = ap (with_limit_at limit k) c.is ∙ still.is })) s

module _ (here : Site) (there : ChainId) (cargo : Cargo) where
  left_shape : (weight : Weight) (program : List Instruction) (barrier : Barrier) → IsShape here there program cargo → IsShape here there (left_by weight program barrier) cargo
  left_shape weight program Barrier.Paid s = limit_shape (Limited weight) (purchase_index program) here there program cargo s
  left_shape weight program _ s = s

  decided_shape : (weight : Weight) (program : List Instruction) (o : Option Barrier) → IsShape here there program cargo → IsShape here there (decided weight program o).1 cargo
  decided_shape weight program None s = s
  decided_shape weight program (Some barrier) s = left_shape weight program barrier s

  by_barriers_shape : (weight : Weight) (d : Bool × List Instruction) (a : Admitted) → by_barriers weight d ≡ Ok a → IsShape here there d.1 cargo → IsShape here there a.program cargo
  by_barriers_shape weight (true, program) a e s = subst (λ (a : Admitted). IsShape here there a.program cargo) (same_admitted (record { program = program; weight = weight }) a e) s
    where
      let_in : Admitted → Result Admitted Outcome
      let_in a = Ok a

      same_admitted : (a b : Admitted) → let_in a ≡ let_in b → a ≡ b
      same_admitted a b e = cc
  by_barriers_shape weight (false, program) a e s = absurd cc

  module _ (rules : ChainRules) (origin : Location) (credit : Weight) (queries : List OpenQuery) (program : List Instruction) (s : IsShape here there program cargo) where
    by_limit_shape : (weight : Weight) (b : Bool) (a : Admitted) → by_limit rules origin credit queries program weight b ≡ Ok a → IsShape here there a.program cargo
    by_limit_shape weight true a e =
        by_barriers_shape weight (admission origin weight credit queries rules.barriers program) a e (decided_shape weight program (find (allows origin weight credit queries program) rules.barriers) s)
    by_limit_shape weight false a e = absurd cc

    by_weight_shape : (o : Option Weight) (a : Admitted) → by_weight rules origin credit queries program o ≡ Ok a → IsShape here there a.program cargo
    by_weight_shape None a e = absurd cc
    by_weight_shape (Some weight) a e = by_limit_shape weight (is_within weight rules.limit) a e

    pub admitted_shape : (a : Admitted) → admitted rules origin credit queries program ≡ Ok a → IsShape here there a.program cargo
    admitted_shape a e = by_weight_shape (weight_of rules.weight program) a e
