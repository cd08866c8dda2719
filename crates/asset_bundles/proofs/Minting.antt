-- Assets in any order, sorted into holding order.
use Rattle.std.proofs.Common.{◌≡◌, ℕ, ◌+◌, ◌≤◌, Bool, true, false, List, [], ◌∷◌, refl, sym, ap, ◌∙◌, arith, inl, inr}
use Rattle.std.proofs.lemmas.Bool.{cases_Bool}
use Rattle.std.proofs.lemmas.List.Sorted.{sum_by-IsPermutation, list_any-IsPermutation}
use Rattle.std.proofs.lemmas.List.Sums.{sum_by-cons}
use Rattle.std.specs.List.{sum_by}
use Rattle.std.specs.List.Sorted.{IsPermutation, IsSorted}
use Rattle.std.specs.Ordering.{eq_by_cmp}
use Rattle.amounts.specs.Rows.{sum_where, amount_if}
use Rattle.asset_lists.specs.declared.units.Asset.{Asset}
use Rattle.asset_lists.specs.Units.{Unit, unit_of, amount_of, unit_cmp, asset_cmp, is_zero}
use Rattle.asset_lists.specs.Lists.{has_zero, is_rising}
use Rattle.asset_lists.specs.Moves.{occurrences}
use Rattle.asset_lists.proofs.Lemmas.{twice_in}
use Rattle.asset_bundles.specs.Bundles.{rows_of, bundle_of, IsHolding}
use Rattle.asset_bundles.proofs.Lemmas.BundleLaws.{same_bundles, amount-bundle_of}
use Rattle.asset_bundles.proofs.Listing.{rising_keys, positive_rows}

counted_in : (Unit → Bool) → Asset → ℕ
counted_in p a = amount_if (p (unit_of a)) (amount_of a)

sum_of_rows : (p : Unit → Bool) (xs : List Asset) → sum_where p (rows_of xs) ≡ sum_by (counted_in p) xs
unfolding counted_in
sum_of_rows p [] = refl
sum_of_rows p (a ∷ xs) = ap (λ n. amount_if (p (unit_of a)) (amount_of a) + n) (sum_of_rows p xs) ∙ sym (sum_by-cons (counted_in p) a xs)

pub bundle_of-IsPermutation : (xs ys : List Asset) → IsPermutation xs ys → bundle_of ys ≡ bundle_of xs
bundle_of-IsPermutation xs ys moves = same_bundles _ _ (λ u.
    amount-bundle_of ys u ∙ sum_of_rows (eq_by_cmp unit_cmp u) ys
    ∙ sum_by-IsPermutation (counted_in (eq_by_cmp unit_cmp u)) xs ys moves
    ∙ sym (sum_of_rows (eq_by_cmp unit_cmp u) xs) ∙ sym (amount-bundle_of xs u))

rises : (xs ys : List Asset) → IsPermutation xs ys → IsSorted asset_cmp ys → ((u : Unit) → occurrences u xs ≤ 1) → is_rising ys ≡ true
rises xs ys moves sorted once =
    elim (cases_Bool (is_rising ys)) [
      | inl up ↦ up
      | inr falls ↦ (let twice = twice_in xs ys moves sorted falls in let at_most = once twice.0 in let more = twice.1 in absurd (omega (arith, at_most, more)))
    ]

pub sorted_holding : (xs ys : List Asset) → IsPermutation xs ys → IsSorted asset_cmp ys → ((u : Unit) → occurrences u xs ≤ 1) → has_zero xs ≡ false → IsHolding ys
sorted_holding xs ys moves sorted once no_zero = record {
  rising = rising_keys ys (rises xs ys moves sorted once);
  positive = positive_rows ys (sym (list_any-IsPermutation is_zero xs ys moves) ∙ no_zero);
}
