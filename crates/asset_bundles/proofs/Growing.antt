-- A list of which each asset grows in place.
use Rattle.std.proofs.Common.{◌≡◌, ℕ, zero, suc, ◌+◌, ◌<◌, ◌≤◌, List, [], ◌∷◌, ◌++◌, length, get_or, refl, sym, ap, ◌∙◌, arith}
use Rattle.std.specs.Prelude.{slice_set, Some, None}
use Rattle.std.proofs.lemmas.List.{append-nil}
use Rattle.amounts.specs.Rows.{IsPositive}
use Rattle.asset_lists.specs.declared.units.Asset.{Asset}
use Rattle.asset_lists.specs.Units.{Unit, unit_of, amount_of}
use Rattle.asset_bundles.specs.Bundles.{rows_of, bundle_of, IsHolding}
use Rattle.asset_bundles.specs.Joins.{Joined, IsListOf}
use Rattle.asset_bundles.specs.Portions.{asset_with, with_remainder, changed, grown_by, new_to, AreWithinMost}
use Rattle.asset_bundles.proofs.Parts.{changed_holding}
use Rattle.asset_bundles.proofs.SumFacts.{joined_is, fits_grown, found_most}

-- an asset with what there is more of it
abbrev pub grown_asset : List Asset → Asset → Asset
grown_asset more a = asset_with a (grown_by more (unit_of a) (amount_of a))

abbrev pub grown_first : List Asset → ℕ → List Asset → List Asset
grown_first more zero xs = xs
grown_first more (suc n) [] = []
grown_first more (suc n) (a ∷ xs) = grown_asset more a ∷ grown_first more n xs

set_first : (more xs : List Asset) (i : ℕ) (d : Asset) → i < length xs
    → slice_set (grown_first more i xs) i (grown_asset more (get_or (grown_first more i xs) i d)) ≡ grown_first more (i + 1) xs
set_first more [] i d inside = absurd (omega (arith, inside))
set_first more (a ∷ xs) zero d inside = refl
set_first more (a ∷ xs) (suc i) d inside =
    let next : suc (i + 1) ≡ suc i + 1 = omega arith in
    ap (λ ys. grown_asset more a ∷ ys) (set_first more xs i d (omega (arith, inside))) ∙ ap (λ n. grown_first more n (a ∷ xs)) next

pub first_more : (more xs now : List Asset) (i : ℕ) (d new : Asset) → i < length xs → now ≡ grown_first more i xs
    → new ≡ grown_asset more (get_or now i d) → slice_set now i new ≡ grown_first more (i + 1) xs
first_more more xs now i d new inside so_far is =
    ap (slice_set now i) is ∙ ap (λ ys. slice_set ys i (grown_asset more (get_or ys i d))) so_far ∙ set_first more xs i d inside

still_some : (u : Unit) (n : ℕ) (more : List Asset) → 0 < n → 0 < grown_by more u n
still_some (id, None) n more some = omega (arith, some)
still_some (id, Some i) n more some = omega (arith, some)

one_kept : (a : Asset) (n : ℕ) (rest : List Asset) → 0 < n → asset_with a n ∷ rest ≡ with_remainder a n rest
one_kept a zero rest some = absurd (omega (arith, some))
one_kept a (suc n) rest some = refl

pub first_all : (more xs : List Asset) (i : ℕ) → length xs ≤ i → IsPositive (rows_of xs) → grown_first more i xs ≡ changed (grown_by more) xs
first_all more [] zero past positive = refl
first_all more [] (suc i) past positive = refl
first_all more (a ∷ xs) zero past positive = absurd (omega (arith, past))
first_all more (a ∷ xs) (suc i) past positive =
    ap (λ ys. grown_asset more a ∷ ys) (first_all more xs i (omega (arith, past)) positive.1)
    ∙ one_kept a (grown_by more (unit_of a) (amount_of a)) (changed (grown_by more) xs) (still_some (unit_of a) (amount_of a) more positive.0)

-- where nothing is new, both lists are the one that grew
pub grown_list : (xs ys : List Asset) → IsHolding xs → IsHolding ys → AreWithinMost ys → changed (new_to xs) ys ≡ []
    → IsListOf (Joined (bundle_of xs) (bundle_of ys)) (changed (grown_by ys) xs)
grown_list xs ys h k within none = record {
  holding = changed_holding (grown_by ys) (fits_grown ys) xs h;
  bundle = ap bundle_of (sym (append-nil (changed (grown_by ys) xs))) ∙ ap (λ zs. bundle_of (changed (grown_by ys) xs ++ zs)) (sym none) ∙ joined_is xs ys h k (found_most ys within);
}
