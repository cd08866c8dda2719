-- Lemmas on the definitions of `specs/Fates.antt`: what proofs cite.
use Rattle.std.proofs.Common.{◌≡◌, ⊎_elim, inr, ℕ, List, [], ◌∷◌, Some, None, Result, Ok, Err, map, refl, sym, ap, ◌∙◌, subst}
use Rattle.std.specs.Prelude.{slice_get}
use Rattle.amounts.specs.Amounts.{empty}
use Rattle.locations.specs.declared.relative.Location.{Location}
use Rattle.asset_bundles.specs.declared.shipment.Way.{Way}
use Rattle.asset_bundles.specs.declared.shipment.Shipment.{Shipment}
use Rattle.asset_bundles.specs.Bundles.{held_assets, IsGoods}
use Rattle.chain_ids.specs.declared.chain.ChainId.{ChainId}
use Rattle.trust_tables.specs.Chains.{location_of}
use Rattle.weight_trader.specs.Purchases.{no_weight}
use Rattle.xcm_program.specs.declared.instruction.Instruction.{Instruction, roll-Instruction}
use Rattle.xcm_program.specs.declared.instruction.Instruction.TheOpen.{Instruction-F}
use Rattle.xcm_program.specs.declared.outcome.Outcome.{Outcome}
use Rattle.channel_parts.specs.declared.cargo.Cargo as carried
use Rattle.channel_parts.specs.declared.cargo.Cargo.TheVariants as cargos
use Rattle.exec_base.specs.declared.event.Event.{Event}
use Rattle.exec_base.specs.Part.{ChainPart, DeliveredCargo}
use Rattle.exec_base.specs.Sending.{away_program}
use Rattle.exec_base.specs.Host.{ByWithdrawal, ByTeleport, fits_call, cargo_list, told}
use Rattle.exec_rules.specs.Machine.{Machine}
use Rattle.exec_rules.specs.Instructions.{refused}
use Rattle.exec_rules.specs.Stopping.{PartwayOnOom}
use Rattle.exec_rules.specs.declared.rules.ChainRules.{ChainRules}
use Rattle.exec_rules.specs.declared.admission.Admitted.{Admitted}
use Rattle.exec_rules.specs.Admission.{admitted}
use Rattle.exec_rules.specs.Execution.{first_machine, executed_by, executed, IsAbandoned}
use Rattle.network_steps.specs.Acting.{ended}
use Rattle.law_steps.specs.Shapes.{IsLedBy, IsAlone, IsLedByClaim, IsShape}
use Rattle.law_coherence.specs.Parts.{Part, WorldView}
use Rattle.law_coherence.specs.Steps.{tables_of, IsSafe}
use Rattle.law_coherence.specs.Channels as queues
use Rattle.law_coherence.specs.Histories.{History}
use Rattle.law_runs.specs.Views.{cargo_of, channel_of, seen, view}
use Rattle.law_runs.specs.Sums.{in_kept}
use Rattle.law_runs.specs.Safety.{AreTrusted, Safely}
use Rattle.law_runs.specs.Safety as runs
use Rattle.law_steps.specs.Soundness.{IsSoundPart, LawsBelow}
use Rattle.law_steps.specs.Bounds.{IsSoundGenesis}
use Rattle.law_steps.proofs.Lemmas.Bounds.{agrees_now}
use Rattle.law_steps.proofs.Lemmas.Stops.{StopsFirst, StandsAs, Place, Before, InFirst, Behind, over, parks, place_of_stop, parked_cargo}
use Rattle.law_steps.proofs.Lemmas.Receptions.{taken, Fate, Left, Passed, StillCarried, HasLanded, Landed, same_safe, refused_fate, claim_fate, never_stops, alone_fate, teleport_fate, deposit_fate, withdrawal_fate}
use Rattle.law_steps.specs.Fates.{KeepsShapes}

-- a message that isn't admitted leaves its receiver as it was
not_admitted : (ps pr : ChainPart) (cargo : carried.Cargo) (sender : ChainId) (e : Event) → IsSoundPart pr → Fate ps pr cargo (taken sender cargo e pr).cargo.cargo (ended (taken sender cargo e pr)) (λ m. ⊥)
unfolding told in_kept
not_admitted ps pr cargo sender e s = Left refl (same_safe (seen empty pr)) (record {
  rest = record { order = record { traps = s.rest.order.traps; rates = s.rest.order.rates; paid = s.rest.order.paid; pools = s.rest.order.pools; unparked = s.rest.order.unparked }; slot = s.rest.slot };
  cargo = refl;
  listed = s.listed;
  trusted = s.trusted;
  links = s.links;
}) (λ m c. absurd c)

module _ (laws : LawsBelow) (shapes : KeepsShapes) (first : WorldView) (genesis : IsSoundGenesis first) (v : WorldView) (history : History first v) (i j : ℕ) (ps pr : ChainPart) (at_i : slice_get v i ≡ Some (seen empty ps)) (at_j : slice_get v j ≡ Some (seen empty pr))
    (apart : i ≡ j → ⊥) (sound_s : IsSoundPart ps) (sound_r : IsSoundPart pr) (rules : ChainRules) (cargo : carried.Cargo) (program : List Instruction) (e : Event)
    (front : queues.front pr.site.chain (map channel_of ps.channels) ≡ Some (cargo_of cargo)) (name origin : Location) (leads : location_of ps.site.chain pr.site.chain ≡ Some name) (back : location_of pr.site.chain ps.site.chain ≡ Some origin)
    (runnable : runs.IsRunnable program) (trusts : runs.IsTrustedCargo ps.site ps.rows name cargo) where
  abbrev p0 : ChainPart
  p0 = taken ps.site.chain cargo e pr

  -- where its run is, after its first instruction
  abbrev pub ComesBy : Result Admitted Outcome → Machine → Type 0
  ComesBy (Err outcome) m = ⊥
  ComesBy (Ok a) m = StandsAs rules origin a (taken ps.site.chain cargo e pr) m

  abbrev pub StopsBy : Result Admitted Outcome → ChainPart → Type 0
  StopsBy (Err outcome) q = ⊥
  StopsBy (Ok a) q = StopsFirst rules origin a (taken ps.site.chain cargo e pr) q

  abbrev pub FateOf : Result Admitted Outcome → Type 0
  FateOf r = Fate ps pr cargo (executed_by rules origin r (taken ps.site.chain cargo e pr)).1.cargo.cargo (ended (executed_by rules origin r (taken ps.site.chain cargo e pr)).1) (ComesBy r) × ((q : ChainPart) → StopsBy r q → Passed ps pr cargo q)

  abbrev Admits : Admitted → Type 0
  Admits a = admitted rules origin no_weight (taken ps.site.chain cargo e pr).queries program ≡ Ok a

  -- by whether its first instruction is refused
  by_first : (a : Admitted) → Admits a → (l : Instruction-F Instruction) (behind : List Instruction) → a.program ≡ roll-Instruction l ∷ behind → ((m : Machine) → PartwayOnOom l (first_machine rules origin p0) m → refused l (first_machine rules origin p0) ≡ None)
      → (refused l (first_machine rules origin p0) ≡ None → FateOf (Ok a)) → FateOf (Ok a)
  by_first a ok l behind is accepts h =
      elim (refused l (first_machine rules origin p0)) as (λ o. refused l (first_machine rules origin p0) ≡ o → FateOf (Ok a)) [
        | None ↦ λ way. h way
        | Some error ↦ λ no_way. refused_fate laws first genesis v history i j ps pr at_i at_j apart sound_s sound_r rules cargo program e front name origin leads back runnable trusts a ok l behind error is no_way accepts
      ] refl

  by_way : (a : Admitted) → Admits a → (shipment : Shipment) (way : Way) → shipment.way ≡ way → cargo ≡ cargos.Away shipment → IsGoods shipment.units → AreTrusted ps.site ps.rows name way (held_assets shipment.units)
      → IsLedBy ps.site pr.site.chain (held_assets shipment.units) (away_program way) a.program → FateOf (Ok a)
  by_way a ok shipment Way.Withdrawal by carries whole reserves s =
      by_first a ok (Instruction-F.WithdrawAsset s.list) (roll-Instruction Instruction-F.ClearOrigin ∷ s.behind) s.is (λ m h. h.0) (λ way.
      withdrawal_fate laws first genesis v history i j ps pr at_i at_j apart sound_s sound_r rules cargo program e front name origin leads back runnable trusts a ok shipment.units s.list s.behind
      (ap cargo_of carries ∙ ap (λ (w : Way). cargo_of (cargos.Away (record { way = w; units = shipment.units }))) by) (ap cargo_list carries)
      (ap (fits_call ByWithdrawal) carries ∙ ap (λ (w : Way). fits_call ByWithdrawal (cargos.Away (record { way = w; units = shipment.units }))) by) whole reserves s.named s.is way)
  by_way a ok shipment Way.Teleport by carries whole partners s =
      by_first a ok (Instruction-F.ReceiveTeleportedAsset s.list) (roll-Instruction Instruction-F.ClearOrigin ∷ s.behind) s.is (λ m h. h.0) (λ way.
      teleport_fate laws first genesis v history i j ps pr at_i at_j apart sound_s sound_r rules cargo program e front name origin leads back runnable trusts a ok shipment.units s.list s.behind
      (ap cargo_of carries ∙ ap (λ (w : Way). cargo_of (cargos.Away (record { way = w; units = shipment.units }))) by) (ap cargo_list carries)
      (ap (fits_call ByTeleport) carries ∙ ap (λ (w : Way). fits_call ByTeleport (cargos.Away (record { way = w; units = shipment.units }))) by) whole partners s.named s.is way)

  by_cargo : (a : Admitted) → Admits a → (c : carried.Cargo) → cargo ≡ c → runs.IsTrustedCargo ps.site ps.rows name c → IsShape ps.site pr.site.chain a.program c → FateOf (Ok a)
  by_cargo a ok (cargos.Deposit list) carries listed s =
      by_first a ok (Instruction-F.ReserveAssetDeposited s.list) (roll-Instruction Instruction-F.ClearOrigin ∷ s.behind) s.is (λ m h. h.0) (λ way.
      deposit_fate laws first genesis v history i j ps pr at_i at_j apart sound_s sound_r rules cargo program e front name origin leads back runnable trusts a ok list s.list s.behind carries listed s.named s.is way)
  by_cargo a ok (cargos.Away shipment) carries trusted s =
      by_way a ok shipment shipment.way refl carries trusted.0 trusted.1 s
  by_cargo a ok cargos.Nothing carries trusted s = ⊎_elim
      (λ (alone : IsAlone a.program). by_first a ok alone.what [] alone.is (λ m h. absurd (never_stops alone.what (first_machine rules origin p0) m alone.kind h)) (λ way.
      alone_fate laws first genesis v history i j ps pr at_i at_j apart sound_s sound_r rules cargo program e front name origin leads back runnable trusts a ok carries alone.what alone.kind alone.is way))
      (λ (claim : IsLedByClaim a.program). by_first a ok (Instruction-F.ClaimAsset claim.list claim.ticket) (roll-Instruction Instruction-F.ClearOrigin ∷ claim.behind) claim.is (λ m h. h.0) (λ way.
      claim_fate laws first genesis v history i j ps pr at_i at_j apart sound_s sound_r rules cargo program e front name origin leads back runnable trusts a ok carries claim.list claim.ticket claim.behind claim.is way))
      s

  by_admission : IsShape ps.site pr.site.chain program cargo → (r : Result Admitted Outcome) → admitted rules origin no_weight (taken ps.site.chain cargo e pr).queries program ≡ r → FateOf r
  by_admission shape (Err outcome) ok = (not_admitted ps pr cargo ps.site.chain e sound_r, λ q h. absurd h)
  by_admission shape (Ok a) ok = by_cargo a ok cargo refl trusts (shapes ps.site pr.site.chain program cargo rules origin no_weight (taken ps.site.chain cargo e pr).queries a shape ok)

  both_of : IsShape ps.site pr.site.chain program cargo → FateOf (admitted rules origin no_weight (taken ps.site.chain cargo e pr).queries program)
  both_of shape = by_admission shape (admitted rules origin no_weight (taken ps.site.chain cargo e pr).queries program) refl

  pub fate_of : IsShape ps.site pr.site.chain program cargo → Fate ps pr cargo (executed rules origin no_weight program (taken ps.site.chain cargo e pr)).1.cargo.cargo (ended (executed rules origin no_weight program (taken ps.site.chain cargo e pr)).1)
      (ComesBy (admitted rules origin no_weight (taken ps.site.chain cargo e pr).queries program))
  fate_of shape = (both_of shape).0

  pub comes_by : (a : Admitted) → admitted rules origin no_weight (taken ps.site.chain cargo e pr).queries program ≡ Ok a → (m : Machine) → StandsAs rules origin a (taken ps.site.chain cargo e pr) m
      → ComesBy (admitted rules origin no_weight (taken ps.site.chain cargo e pr).queries program) m
  comes_by a ok m c = subst (λ (r : Result Admitted Outcome). ComesBy r m) (sym ok) c

  -- ---- where memory is refused
  begins_with : (taken ps.site.chain cargo e pr).cargo.cargo ≡ cargo
  unfolding told
  begins_with = refl

  begins_so : view (first_machine rules origin (taken ps.site.chain cargo e pr)) ≡ seen empty pr
  unfolding told
  begins_so = refl

  -- by where in the run it is
  stopped_in : IsShape ps.site pr.site.chain program cargo → (a : Admitted) → Admits a → (q : ChainPart) → Place rules origin a (taken ps.site.chain cargo e pr) q → Passed ps pr cargo q
  stopped_in shape a ok q (Before is) =
      let m0 = first_machine rules origin p0 in
      let safely : Safely m0 (over rules origin q) = subst (λ (y : ChainPart). Safely m0 (over rules origin y)) (sym is) (parks laws (tables_of v) (agrees_now first genesis v history) rules origin m0) in
      StillCarried (ap (λ (y : ChainPart). y.cargo.cargo) is ∙ ap (λ (t : DeliveredCargo). t.cargo) (parked_cargo p0 m0.regs.holding) ∙ begins_with) (subst (λ (z : Part). IsSafe z (seen empty q)) begins_so safely.safe)
  stopped_in shape a ok q (InFirst s) = (both_of shape).1 q (subst (λ (r : Result Admitted Outcome). StopsBy r q) (sym ok) s)
  stopped_in shape a ok q (Behind b) = by_fate (fate_of shape)
    where
      by_fate : Fate ps pr cargo (executed rules origin no_weight program (taken ps.site.chain cargo e pr)).1.cargo.cargo (ended (executed rules origin no_weight program (taken ps.site.chain cargo e pr)).1)
          (ComesBy (admitted rules origin no_weight (taken ps.site.chain cargo e pr).queries program)) → Passed ps pr cargo q
      by_fate (Left is safe sound inside) = let there = inside (over rules origin q) (comes_by a ok (over rules origin q) (inr (q, b, refl))) in StillCarried there.0 there.1
      by_fate (Landed mid gone exchange safe sound inside) = let there = inside (over rules origin q) (comes_by a ok (over rules origin q) (inr (q, b, refl))) in HasLanded mid there.0 exchange there.1

  pub abandoned_fate : IsShape ps.site pr.site.chain program cargo → (q : ChainPart) → IsAbandoned rules origin no_weight program (taken ps.site.chain cargo e pr) q → Passed ps pr cargo q
  abandoned_fate shape q (a, ok, h) =
      stopped_in shape a ok q (place_of_stop laws (tables_of v) (agrees_now first genesis v history) rules origin p0 a (laws.balances rules origin a p0 (laws.weighs rules origin no_weight p0.queries program a runnable.few ok)) q h)

  -- its loss wasn't told
  pub executed_fate : IsShape ps.site pr.site.chain program cargo → Passed ps pr cargo (executed rules origin no_weight program (taken ps.site.chain cargo e pr)).1
  executed_fate shape = by_fate (fate_of shape)
    where
      by_fate : Fate ps pr cargo (executed rules origin no_weight program (taken ps.site.chain cargo e pr)).1.cargo.cargo (ended (executed rules origin no_weight program (taken ps.site.chain cargo e pr)).1)
          (ComesBy (admitted rules origin no_weight (taken ps.site.chain cargo e pr).queries program)) → Passed ps pr cargo (executed rules origin no_weight program (taken ps.site.chain cargo e pr)).1
      by_fate (Left is safe sound inside) = StillCarried is safe
      by_fate (Landed mid gone exchange safe sound inside) = HasLanded mid gone exchange safe
