-- A list of assets under other ids.
use Rattle.std.proofs.Common.{◌≡◌, ℕ, zero, suc, ◌+◌, ◌<◌, ◌≤◌, true, false, cond, List, [], ◌∷◌, ◌++◌, length, get_or, take, drop, refl, sym, ap, ◌∙◌, subst, arith, inl, inr}
use Rattle.std.specs.Prelude.{slice_set}
use Rattle.std.specs.List.{AllByRecursion}
use Rattle.std.specs.List.Sorted.{IsPermutation, IsSorted, IsStrictlySortedBy}
use Rattle.std.specs.Map.{keys_of}
use Rattle.std.specs.Ordering.{eq_by_cmp, is_eq}
use Rattle.std.specs.declared.cmp.Ordering.TheVariants.{Less}
use Rattle.std.proofs.lemmas.Bool.{cases_Bool}
use Rattle.std.proofs.lemmas.List.{append-nil, take_all}
use Rattle.std.proofs.lemmas.List.Sums.{sum_by-cons}
use Rattle.amounts.specs.Rows.{amount_if, sum_where, rows_at, IsPositive}
use Rattle.amounts.specs.Amounts.{from_rows}
use Rattle.amounts.proofs.Lemmas.{same_key, key_same}
use Rattle.locations.specs.declared.grammar.Junction.{Junction}
use Rattle.locations.specs.declared.relative.Location.{Location}
use Rattle.asset_lists.specs.declared.units.Asset.{Asset}
use Rattle.asset_lists.specs.Units.{Unit, unit_of, amount_of, unit_cmp, asset_cmp}
use Rattle.asset_lists.specs.Lists.{is_of}
use Rattle.asset_lists.specs.Moves.{occurrences}
use Rattle.asset_bundles.specs.Bundles.{rows_of, bundle_of, IsHolding}
use Rattle.asset_bundles.proofs.Lemmas.Bundles.{unit_keys}
use Rattle.asset_bundles.proofs.Lemmas.BundleLaws.{amount-bundle_of, map_keys-bundle_of}
use Rattle.asset_bundles.specs.Landing.{renamed, Renamed, StayApart, renamed_asset, renamed_assets}
use Rattle.asset_bundles.proofs.Finding.{past_end}
use Rattle.asset_bundles.proofs.Minting.{bundle_of-IsPermutation, sorted_holding}
use Rattle.asset_bundles.proofs.SumFacts.{no_zero_of}

held_in : Unit → List Asset → ℕ
held_in u xs = sum_where (eq_by_cmp unit_cmp u) (rows_of xs)

-- ---- one asset after the other
abbrev pub renamed_first : Location → List Junction → ℕ → List Asset → List Asset
renamed_first target context zero xs = xs
renamed_first target context (suc n) [] = []
renamed_first target context (suc n) (a ∷ xs) = renamed_asset target context a ∷ renamed_first target context n xs

set_first : (target : Location) (context : List Junction) (xs : List Asset) (i : ℕ) (d : Asset) → i < length xs
    → slice_set (renamed_first target context i xs) i (renamed_asset target context (get_or (renamed_first target context i xs) i d)) ≡ renamed_first target context (i + 1) xs
set_first target context [] i d inside = absurd (omega (arith, inside))
set_first target context (a ∷ xs) zero d inside = refl
set_first target context (a ∷ xs) (suc i) d inside =
    let next : suc (i + 1) ≡ suc i + 1 = omega arith in
    ap (λ ys. renamed_asset target context a ∷ ys) (set_first target context xs i d (omega (arith, inside))) ∙ ap (λ n. renamed_first target context n (a ∷ xs)) next

pub first_more : (target : Location) (context : List Junction) (xs now : List Asset) (i : ℕ) (d new : Asset) → i < length xs → now ≡ renamed_first target context i xs
    → new ≡ renamed_asset target context (get_or now i d) → slice_set now i new ≡ renamed_first target context (i + 1) xs
first_more target context xs now i d new inside so_far is =
    ap (slice_set now i) is ∙ ap (λ ys. slice_set ys i (renamed_asset target context (get_or ys i d))) so_far ∙ set_first target context xs i d inside

pub first_all : (target : Location) (context : List Junction) (xs : List Asset) (i : ℕ) → length xs ≤ i → renamed_first target context i xs ≡ renamed_assets target context xs
first_all target context [] zero past = refl
first_all target context [] (suc i) past = refl
first_all target context (a ∷ xs) zero past = absurd (omega (arith, past))
first_all target context (a ∷ xs) (suc i) past = ap (λ ys. renamed_asset target context a ∷ ys) (first_all target context xs i (omega (arith, past)))

-- a whole slice written back into its list
pub written_back : (n : ℕ) (xs ys : List Asset) → length ys ≤ length xs → length xs ≤ n → take n (xs ++ drop (length xs) ys) ≡ xs
written_back n xs ys all fits = ap (λ zs. take n (xs ++ zs)) (past_end ys (length xs) all) ∙ ap (take n) (append-nil xs) ∙ take_all n xs fits

module _ (target : Location) (context : List Junction) where
  -- ---- the bundle
  rows_renamed : (xs : List Asset) → rows_of (renamed_assets target context xs) ≡ rows_at (renamed target context) (rows_of xs)
  rows_renamed [] = refl
  rows_renamed (a ∷ xs) = ap (λ es. (renamed target context (unit_of a), amount_of a) ∷ es) (rows_renamed xs)

  pub renamed_is : (xs : List Asset) → IsHolding xs → bundle_of (renamed_assets target context xs) ≡ Renamed target context (bundle_of xs)
  unfolding bundle_of Renamed
  renamed_is xs h = ap from_rows (rows_renamed xs) ∙ map_keys-bundle_of (renamed target context) xs h

  -- ---- each unit once
  none_above : (u : Unit) (xs : List Asset) → AllByRecursion (λ v. unit_cmp u v ≡ Less) (keys_of (rows_of xs)) → held_in u xs ≡ 0
  unfolding held_in
  none_above u [] above = refl
  none_above u (a ∷ xs) above =
      let here : amount_if (eq_by_cmp unit_cmp u (unit_of a)) (amount_of a) ≡ 0 = ap (λ r. amount_if (is_eq r) (amount_of a)) above.0 in
      let rest = none_above u xs above.1 in
      omega (arith, here, rest)

  first_held : (a : Asset) (xs : List Asset) → 0 < amount_of a → 0 < held_in (unit_of a) (a ∷ xs)
  unfolding held_in
  first_held a xs some =
      let here : amount_if (eq_by_cmp unit_cmp (unit_of a) (unit_of a)) (amount_of a) ≡ amount_of a = ap (λ b. amount_if b (amount_of a)) (same_key unit_keys (unit_of a)) in
      omega (arith, here, some)

  later_held : (u : Unit) (a : Asset) (xs : List Asset) → 0 < held_in u xs → 0 < held_in u (a ∷ xs)
  unfolding held_in
  later_held u a xs some = omega (arith, some)

  pub count_first : (u : Unit) (a : Asset) (xs : List Asset)
      → occurrences u (renamed_assets target context (a ∷ xs)) ≡ cond {A = ℕ} (is_of u (renamed_asset target context a)) 1 0 + occurrences u (renamed_assets target context xs)
  count_first u a xs = sum_by-cons (λ b. cond {A = ℕ} (is_of u b) 1 0) (renamed_asset target context a) (renamed_assets target context xs)

  pub named : (u : Unit) (a : Asset) (xs : List Asset) → is_of u (renamed_asset target context a) ≡ true → occurrences u (renamed_assets target context (a ∷ xs)) ≡ 1 + occurrences u (renamed_assets target context xs)
  named u a xs is = count_first u a xs ∙ ap (λ b. cond {A = ℕ} b 1 0 + occurrences u (renamed_assets target context xs)) is

  not_named : (u : Unit) (a : Asset) (xs : List Asset) → is_of u (renamed_asset target context a) ≡ false → occurrences u (renamed_assets target context (a ∷ xs)) ≡ 0 + occurrences u (renamed_assets target context xs)
  not_named u a xs is = count_first u a xs ∙ ap (λ b. cond {A = ℕ} b 1 0 + occurrences u (renamed_assets target context xs)) is

  none_named : (u : Unit) (xs : List Asset) → IsPositive (rows_of xs) → ((v : Unit) → 0 < held_in v xs → renamed target context v ≡ u → ⊥) → occurrences u (renamed_assets target context xs) ≡ 0
  none_named u [] positive none = refl
  none_named u (a ∷ xs) positive none =
      let rest = none_named u xs positive.1 (λ v some. none v (later_held v a xs some)) in
      elim (cases_Bool (is_of u (renamed_asset target context a))) [
        | inl here ↦ absurd (none (unit_of a) (first_held a xs positive.0) (key_same unit_keys (renamed target context (unit_of a)) u here))
        | inr other ↦ omega (arith, not_named u a xs other, rest)
      ]

  named_once : (xs : List Asset) → IsStrictlySortedBy unit_cmp (keys_of (rows_of xs)) → IsPositive (rows_of xs)
      → ((u v : Unit) → 0 < held_in u xs → 0 < held_in v xs → renamed target context u ≡ renamed target context v → u ≡ v)
      → (u : Unit) → occurrences u (renamed_assets target context xs) ≤ 1
  unfolding IsStrictlySortedBy
  named_once [] rising positive apart u = omega arith
  named_once (a ∷ xs) rising positive apart u =
      let rest = named_once xs rising.1 positive.1 (λ v w v_held w_held. apart v w (later_held v a xs v_held) (later_held w a xs w_held)) u in
      elim (cases_Bool (is_of u (renamed_asset target context a))) [
        | inl here ↦ (
            let is : renamed target context (unit_of a) ≡ u = key_same unit_keys (renamed target context (unit_of a)) u here in
            let none = none_named u xs positive.1 (λ v some same.
            let v_is : v ≡ unit_of a = apart v (unit_of a) (later_held v a xs some) (first_held a xs positive.0) (same ∙ sym is) in
            let gone : held_in v xs ≡ 0 = ap (λ w. held_in w xs) v_is ∙ none_above (unit_of a) xs rising.0 in
            absurd (omega (arith, gone, some))) in
            omega (arith, named u a xs here, none)
            )
        | inr other ↦ omega (arith, not_named u a xs other, rest)
      ]

  positive_renamed : (xs : List Asset) → IsPositive (rows_of xs) → IsPositive (rows_of (renamed_assets target context xs))
  positive_renamed [] positive = tt
  positive_renamed (a ∷ xs) positive = (positive.0, positive_renamed xs positive.1)

  pub renamed_once : (xs : List Asset) → IsHolding xs → StayApart target context (bundle_of xs) → (u : Unit) → occurrences u (renamed_assets target context xs) ≤ 1
  unfolding held_in
  renamed_once xs h apart = named_once xs h.rising h.positive (λ u v u_held v_held same.
      apart u v (subst (λ n. 0 < n) (sym (amount-bundle_of xs u)) u_held) (subst (λ n. 0 < n) (sym (amount-bundle_of xs v)) v_held) same)

  pub landed_holding : (xs new landed : List Asset) → IsHolding xs → StayApart target context (bundle_of xs) → new ≡ renamed_assets target context xs
      → IsPermutation new landed → IsSorted asset_cmp landed → IsHolding landed
  landed_holding xs new landed h apart is moves sorted =
      sorted_holding (renamed_assets target context xs) landed (subst (λ ys. IsPermutation ys landed) is moves) sorted (renamed_once xs h apart) (no_zero_of _ (positive_renamed xs h.positive))

  pub landed_is : (xs new landed : List Asset) → IsHolding xs → new ≡ renamed_assets target context xs → IsPermutation new landed → bundle_of landed ≡ Renamed target context (bundle_of xs)
  landed_is xs new landed h is moves = bundle_of-IsPermutation new landed moves ∙ ap bundle_of is ∙ renamed_is xs h
