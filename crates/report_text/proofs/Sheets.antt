-- Lines that are renewed are those of the chains as they are, and what is written is their supply block.
use Rattle.std.proofs.Common.{◌≡◌, ◌∙◌, ℕ, ◌+◌, min, Bool, true, false, List, [], ◌∷◌, ◌++◌, Option, None, Some, flat_map, map, not, ◌||◌, refl, ap, sym, arith, true≢false}
use Rattle.std.specs.Prelude.{codes, if◌then◌else◌}
use Rattle.std.specs.List.{list_all}
use Rattle.std.proofs.lemmas.Bool.{and_parts}
use Rattle.std.proofs.lemmas.List.Folds.{flat_map-map}
use Rattle.asset_bundles.specs.Books.{most_burned}
use Rattle.exec_base.specs.Part.{ChainPart}
use Rattle.supply_audit.specs.Places.{chain_table}
use Rattle.supply_audit.specs.RowPlaces.{placed_over, flight_over, burned_over}
use Rattle.supply_audit.specs.Covered.{Covered}
use Rattle.supply_audit.specs.Covers.{of_cover, held_at, owed_at, coming_at, standing_at, own_touched, kept_touched}
use Rattle.supply_audit.specs.Stale.{are_touched, Agree}
use Rattle.supply_audit.proofs.Lemmas.StaleLaws.{same_placed, same_flight, same_burned, same_held, same_coming, same_standing}
use Rattle.report_text.specs.Sums.{sum_text}
use Rattle.report_text.specs.Block.{supply_block}
use Rattle.report_text.specs.Planned.{PlannedSupply, PlannedBacking}
use Rattle.report_text.specs.Plan.{plan_of, planned_supply_text, planned_backing_text}
use Rattle.report_text.specs.Kept.{KeptSupply, KeptBacking, Sheet}
use Rattle.report_text.specs.Sheets.{supply_written, backing_written, sheet_written, kept_supply, kept_backing, IsWrittenOf, IsSheetOf, renewed_supply, renewed_backing}
use Rattle.report_text.proofs.Planning.{block_is}
use Rattle.report_text.proofs.Totals.{text_saturates}

-- ---- texts

owed_saturates : (a b c : ℕ) → min (min (a + c) most_burned + min b most_burned) most_burned ≡ min (a + b + c) most_burned
owed_saturates a b c = omega arith

owed_text : (a b c : ℕ) → sum_text (min (a + c) most_burned + min b most_burned) ≡ sum_text (a + b + c)
owed_text a b c =
    sym (text_saturates (min (a + c) most_burned + min b most_burned)) ∙ ap sum_text (owed_saturates a b c) ∙ text_saturates (a + b + c)

module _ (parts : List ChainPart) where
  supply_line_is : (e : PlannedSupply) → supply_written (kept_supply parts e) ≡ planned_supply_text parts e
  unfolding supply_written
  supply_line_is e =
      let home = text_saturates (placed_over parts e.places) in
      let flight = text_saturates (flight_over parts e.places) in
      let burned = text_saturates (burned_over parts e.places) in
      λ i. e.beginning ++ (home i ++ (codes " flight " ++ (flight i ++ (codes " burned " ++ (burned i ++ codes "\n")))))

  owed_is : (cover : Option Covered) → sum_text (min (of_cover (standing_at parts) cover) most_burned + min (of_cover (coming_at parts) cover) most_burned) ≡ sum_text (of_cover (owed_at parts) cover)
  owed_is None = owed_text 0 0 0
  owed_is (Some c) = owed_text _ _ _

  backing_line_is : (e : PlannedBacking) → backing_written (kept_backing parts e) ≡ planned_backing_text parts e
  unfolding backing_written
  backing_line_is e =
      let held = text_saturates (of_cover (held_at parts) e.cover) in
      let owed = owed_is e.cover in
      λ i. e.beginning ++ (held i ++ (codes " owed " ++ (owed i ++ codes "\n")))

  pub sheet_text_is : (s : Sheet) → IsWrittenOf parts s → sheet_written s ≡ supply_block parts
  sheet_text_is s w =
      let plan = plan_of (map chain_table parts) in
      let supplies : flat_map supply_written s.supplies ≡ flat_map (planned_supply_text parts) plan.supplies =
      ap (flat_map supply_written) w.supplies ∙ flat_map-map supply_written (kept_supply parts) plan.supplies ∙ (λ i. flat_map (λ e. supply_line_is e i) plan.supplies) in
      let backings : flat_map backing_written s.backings ≡ flat_map (planned_backing_text parts) plan.backings =
      ap (flat_map backing_written) w.backings ∙ flat_map-map backing_written (kept_backing parts) plan.backings ∙ (λ i. flat_map (λ e. backing_line_is e i) plan.backings) in
      (λ i. supplies i ++ backings i) ∙ block_is parts

-- ---- lines that are renewed

module _ (stale : List Bool) (before parts : List ChainPart) (agree : Agree stale before parts) where
  supply_renewed : (e : PlannedSupply) → renewed_supply stale parts (kept_supply before e) ≡ kept_supply parts e
  supply_renewed e =
      elim (are_touched stale e.places) as (λ b. are_touched stale e.places ≡ b → (if b then kept_supply parts e else kept_supply before e) ≡ kept_supply parts e) [
        | true ↦ λ q. refl
        | false ↦ λ q.
            let home = sym (same_placed stale before parts agree e.places q) in
            let flight = sym (same_flight stale before parts agree e.places q) in
            let burned = sym (same_burned stale before parts agree e.places q) in
            λ i. record { entry = e; home = min (home i) most_burned; flight = min (flight i) most_burned; burned = min (burned i) most_burned }
      ] refl

  one_or_other : (b : Bool) (now was : ℕ) → (b ≡ false → now ≡ was) → (if b then now else was) ≡ now
  one_or_other true now was same = refl
  one_or_other false now was same = sym (same refl)

  backing_renewed : (e : PlannedBacking) → renewed_backing stale parts (kept_backing before e) ≡ kept_backing parts e
  backing_renewed e =
      let kept = kept_touched stale e.cover in
      let held = one_or_other kept (min (of_cover (held_at parts) e.cover) most_burned) (min (of_cover (held_at before) e.cover) most_burned) (λ q. ap (λ n. min n most_burned) (same_held stale before parts agree e.cover q)) in
      let coming = one_or_other kept (min (of_cover (coming_at parts) e.cover) most_burned) (min (of_cover (coming_at before) e.cover) most_burned) (λ q. ap (λ n. min n most_burned) (same_coming stale before parts agree e.cover q)) in
      let standing = one_or_other (own_touched stale e.cover) (min (of_cover (standing_at parts) e.cover) most_burned) (min (of_cover (standing_at before) e.cover) most_burned)
      (λ q. ap (λ n. min n most_burned) (same_standing stale before parts agree e.cover q)) in
      λ i. record { entry = e; held = held i; coming = coming i; standing = standing i }

  all_same : {A B C : Type 0} (f : B → C) (g : A → B) (h : A → C) → ((x : A) → f (g x) ≡ h x) → (xs : List A) → map f (map g xs) ≡ map h xs
  all_same f g h each [] = refl
  all_same f g h each (x ∷ xs) = λ i. each x i ∷ all_same f g h each xs i

  pub supplies_renewed : (es : List PlannedSupply) → map (renewed_supply stale parts) (map (kept_supply before) es) ≡ map (kept_supply parts) es
  supplies_renewed es = all_same (renewed_supply stale parts) (kept_supply before) (kept_supply parts) supply_renewed es

  pub backings_renewed : (es : List PlannedBacking) → map (renewed_backing stale parts) (map (kept_backing before) es) ≡ map (kept_backing parts) es
  backings_renewed es = all_same (renewed_backing stale parts) (kept_backing before) (kept_backing parts) backing_renewed es

-- ---- lines that depend on no chain that has changed

all_stay : {A : Type 0} (f : A → A) (may : A → Bool) → ((x : A) → may x ≡ true → f x ≡ x) → (xs : List A) → list_all may xs ≡ true → map f xs ≡ xs
all_stay f may each [] t = refl
all_stay f may each (x ∷ xs) t =
    let both = and_parts (may x) (list_all may xs) t in
    λ i. each x both.0 i ∷ all_stay f may each xs both.1 i

neither : (a b : Bool) → not (a || b) ≡ true → (a ≡ false) × (b ≡ false)
neither true b t = absurd (true≢false (sym t))
neither false true t = absurd (true≢false (sym t))
neither false false t = (refl, refl)

untrue : (a : Bool) → not a ≡ true → a ≡ false
untrue true t = absurd (true≢false (sym t))
untrue false t = refl

-- where no line does, they are those of the chains as they are
pub current : (s : Sheet) → list_all (λ (k : KeptSupply). not (are_touched s.stale k.entry.places)) s.supplies ≡ true
    → list_all (λ (k : KeptBacking). not (own_touched s.stale k.entry.cover || kept_touched s.stale k.entry.cover)) s.backings ≡ true
    → (parts : List ChainPart) → IsSheetOf parts s → IsWrittenOf parts s
current s supplies_stay backings_stay parts (before, filled, agree) =
    let plan = plan_of (map chain_table parts) in
    record {
      supplies = sym (all_stay (renewed_supply s.stale parts) (λ (k : KeptSupply). not (are_touched s.stale k.entry.places))
          (λ k t. ap (λ b. if b then kept_supply parts k.entry else k) (untrue (are_touched s.stale k.entry.places) t)) s.supplies supplies_stay)
          ∙ ap (map (renewed_supply s.stale parts)) filled.supplies ∙ supplies_renewed s.stale before parts agree plan.supplies;
      backings = sym (all_stay (renewed_backing s.stale parts) (λ (k : KeptBacking). not (own_touched s.stale k.entry.cover || kept_touched s.stale k.entry.cover)) backing_stays s.backings backings_stay)
          ∙ ap (map (renewed_backing s.stale parts)) filled.backings ∙ backings_renewed s.stale before parts agree plan.backings;
    }
  where
    backing_stays : (k : KeptBacking) → not (own_touched s.stale k.entry.cover || kept_touched s.stale k.entry.cover) ≡ true → renewed_backing s.stale parts k ≡ k
    backing_stays k t =
        let none = neither (own_touched s.stale k.entry.cover) (kept_touched s.stale k.entry.cover) t in
        let now = kept_backing parts k.entry in
        λ i. record {
          entry = k.entry;
          held = if none.1 i then now.held else k.held;
          coming = if none.1 i then now.coming else k.coming;
          standing = if none.0 i then now.standing else k.standing;
        }
