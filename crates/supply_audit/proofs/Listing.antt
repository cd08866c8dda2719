-- What is added to a table of positions, and what the rows at positions have.
use Rattle.std.proofs.Common.{◌≡◌, ◌∙◌, ℕ, ◌+◌, ◌<◌, min, List, [], ◌∷◌, ◌++◌, length, get_or, take, refl, ap, sym, Bool, true, false, arith, append-nil, cond}
use Rattle.std.specs.Prelude.{None, Some, Option, option_map, if◌then◌else◌, ◌&&◌, nat_lt, not, position, slice_get, sum_by, unwrap_or}
use Rattle.std.specs.List.{position_or_len}
use Rattle.std.specs.Ordering.{eq_by_cmp}
use Rattle.std.proofs.lemmas.List.Sums.{prefix_len-le-length}
use Rattle.asset_lists.specs.declared.units.AssetId.{AssetId}
use Rattle.asset_lists.specs.declared.units.Kind.{Kind}
use Rattle.asset_bundles.specs.Books.{most_burned}
use Rattle.asset_bundles.specs.Totals.{total_value}
use Rattle.trust_tables.specs.declared.rows.AssetRow.{AssetRow}
use Rattle.law_coherence.specs.UniversalAssets.{UniversalAsset}
use Rattle.exec_base.specs.Part.{ChainPart}
use Rattle.ledgers.specs.declared.supplies.Supply.{Supply}
use Rattle.supply_audit.specs.declared.figures.Figure.{Figure}
use Rattle.supply_audit.specs.declared.place.Place.{Place}
use Rattle.supply_audit.specs.Assets.{universal_asset_cmp, listed_at}
use Rattle.supply_audit.proofs.Lemmas.AssetLaws.{asset_tests}
use Rattle.supply_audit.specs.Places.{chain_table, is_chain_row_of, figure}
use Rattle.supply_audit.specs.RowPlaces.{place_if, place_share, share_in, figure_of_row}
use Rattle.supply_audit.specs.Supplies.{HasSums}
use Rattle.supply_audit.proofs.Tables.{along, same_asset, sum_more, sums_both}

-- ---- a row's position

module _ (counts : UniversalAsset → Bool) (p : ChainPart) (row : AssetRow) (place : Place) where
  abbrev here : UniversalAsset → List Place
  here a = place_if (counts a) (chain_table p) a place.chain (place.row, row)

  none_here : (a : UniversalAsset) → is_chain_row_of p a row ≡ false → here a ≡ []
  none_here a of_other = ap (λ b. if counts a && b then place ∷ [] else []) of_other ∙ either (counts a)
    where
      either : (b : Bool) → ◌≡◌ {A = List Place} (if b && false then place ∷ [] else []) []
      either true = refl
      either false = refl

  -- of an asset that doesn't count
  pub put_away : counts (listed_at p.site row) ≡ false → (a : UniversalAsset) → here a ≡ []
  put_away away a =
      let own = listed_at p.site row in
      elim (is_chain_row_of p a row) as (λ b. is_chain_row_of p a row ≡ b → here a ≡ []) [
        | true ↦ λ e.
            let same : own ≡ a = same_asset own a (asset_tests own a ∙ e) in
            let none : counts a ≡ false = ap counts (sym same) ∙ away in
            λ i. if none i && is_chain_row_of p a row then place ∷ [] else []
        | false ↦ none_here a
      ] refl

  -- after those that its asset has
  pub put_more : counts (listed_at p.site row) ≡ true → (old : UniversalAsset → List Place) (a : UniversalAsset)
      → (if eq_by_cmp universal_asset_cmp (listed_at p.site row) a then old (listed_at p.site row) ++ place ∷ [] else old a) ≡ old a ++ here a
  put_more at_home old a =
      let own = listed_at p.site row in
      let test : eq_by_cmp universal_asset_cmp own a ≡ is_chain_row_of p a row = asset_tests own a in
      elim (eq_by_cmp universal_asset_cmp own a) as (λ b. eq_by_cmp universal_asset_cmp own a ≡ b → (if b then old own ++ place ∷ [] else old a) ≡ old a ++ here a) [
        | true ↦ λ e.
            let same : own ≡ a = same_asset own a e in
            let of_it : is_chain_row_of p a row ≡ true = sym test ∙ e in
            let home : counts a ≡ true = ap counts (sym same) ∙ at_home in
            ap (λ x. old x ++ place ∷ []) same ∙ sym (λ i. old a ++ (if home i && of_it i then place ∷ [] else []))
        | false ↦ λ e. sym (append-nil (old a)) ∙ sym (ap (λ xs. old a ++ xs) (none_here a (sym test ∙ e)))
      ] refl

-- ---- figures

-- where a chain has nothing of a figure, a row has nothing of it
pub nothing_in : (f : Figure) (p : ChainPart) (row : ℕ) → ((id : AssetId) (kind : Kind) → figure f p id kind ≡ 0) → 0 ≡ min (share_in f row (Some p)) most_burned
nothing_in f p row none = let zero = of_none (slice_get p.rows row) in omega (arith, zero)
  where
    of_none : (x : Option AssetRow) → figure_of_row (figure f p) x ≡ 0
    of_none None = refl
    of_none (Some x) = none _ x.kind

-- one position more
pub places_more : (parts : List ChainPart) (places : List Place) (k : ℕ) (place : Place) (s t u : Supply) → k < length places → place ≡ get_or places k place
    → total_value u.home ≡ min (total_value s.home + total_value t.home) most_burned → total_value u.flight ≡ min (total_value s.flight + total_value t.flight) most_burned
    → total_value u.burned ≡ min (total_value s.burned + total_value t.burned) most_burned
    → HasSums s (λ f. sum_by (place_share f parts) (take k places)) → HasSums t (λ f. place_share f parts place) → HasSums u (λ f. sum_by (place_share f parts) (take (k + 1) places))
places_more parts places k place s t u inside is home flight burned before more =
    along u (λ f. sum_by (place_share f parts) (take k places) + place_share f parts place) (λ f. sum_by (place_share f parts) (take (k + 1) places))
    (λ f. sum_more (place_share f parts) places k place inside is)
    (sums_both s t u (λ f. sum_by (place_share f parts) (take k places)) (λ f. place_share f parts place) home flight burned before more)

-- ---- numbers

-- what is seen as another, and that again
pub seen_twice : {A B C : Type 0} (g : B → C) (f : A → B) (o : Option A) → option_map (λ x. g (f x)) o ≡ option_map g (option_map f o)
seen_twice g f None = refl
seen_twice g f (Some x) = refl

pub number_is : {X : Type 0} (q : X → Bool) (xs : List X) → unwrap_or (position q xs) (length xs) ≡ position_or_len q xs
number_is q xs =
    let few = prefix_len-le-length (λ x. not (q x)) xs in
    let at = position_or_len q xs in
    elim (nat_lt at (length xs)) as (λ b. nat_lt at (length xs) ≡ b → unwrap_or (cond b (Some at) None) (length xs) ≡ at) [
      | true ↦ λ e. refl
      | false ↦ λ e. grind (arith, few, e)
    ] refl
