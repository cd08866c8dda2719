-- Proofs that a reader skips: a bundle and the list of its assets tell the same.
use Rattle.std.specs.Prelude.{◌≡◌, ℕ, zero, suc, Bool, List, [], ◌∷◌, length, take, drop, refl}
use Rattle.std.specs.Ordering.{eq_by_cmp}
use Rattle.std.specs.declared.cmp.Ordering.{Ordering}
use Rattle.std.proofs.Common.{sym, ap, ◌∙◌}
use Rattle.std.specs.List.Sorted.{IsStrictlySortedBy}
use Rattle.amounts.specs.Rows.{rows_at, sum_where}
use Rattle.amounts.proofs.Lemmas.Rows.{is_sorted_of_keys, sum_where-find}
use Rattle.amounts.specs.Amounts.{amount, total, rows, empty, from_rows, map_keys}
use Rattle.amounts.proofs.Lemmas.AmountLaws.{same_amounts, amount-empty}
use Rattle.amounts.proofs.Lemmas.{amount-from_rows, total-from_rows, rows-from_rows}
use Rattle.asset_lists.specs.declared.units.Fun.{Fun}
use Rattle.asset_lists.specs.declared.units.Asset.{Asset}
use Rattle.asset_lists.specs.Units.{Unit, unit_of, amount_of, unit_cmp, instance_in, amount_in}
use Rattle.asset_bundles.specs.Bundles.{Bundle, rows_of, bundle_of, fun_of, assets_of_rows, held_assets, IsHolding, IsGoods, found}
use Rattle.asset_bundles.proofs.Lemmas.Bundles.{unit_keys}

pub same_bundles : (m n : Bundle) → ((u : Unit) → amount m u ≡ amount n u) → m ≡ n
same_bundles = same_amounts unit_keys

pub amount-bundle_of : (xs : List Asset) (u : Unit) → amount (bundle_of xs) u ≡ sum_where (eq_by_cmp unit_cmp u) (rows_of xs)
unfolding bundle_of
amount-bundle_of xs u = amount-from_rows unit_keys (rows_of xs) u

bundle_of-rows : (xs : List Asset) → bundle_of xs ≡ from_rows (rows_of xs)
unfolding bundle_of
bundle_of-rows xs = refl

pub total-bundle_of : (p : Unit → Bool) (xs : List Asset) → total p (bundle_of xs) ≡ sum_where p (rows_of xs)
unfolding bundle_of
total-bundle_of p xs = total-from_rows unit_keys p (rows_of xs)

fun_back : (f : Fun) → fun_of (instance_in f) (amount_in f) ≡ f
fun_back (Fun.Fungible amount) = refl
fun_back (Fun.NonFungible instance) = refl

pub assets_back : (xs : List Asset) → assets_of_rows (rows_of xs) ≡ xs
assets_back [] = refl
assets_back (a ∷ xs) = λ i. record { id = a.id; fun = fun_back a.fun i } ∷ assets_back xs i

-- the rows of a holding's bundle are its assets, and so is the list of the bundle
pub rows-holding : (xs : List Asset) → IsHolding xs → rows (bundle_of xs) ≡ rows_of xs
unfolding bundle_of
rows-holding xs h = rows-from_rows unit_keys (rows_of xs) (is_sorted_of_keys unit_cmp (rows_of xs) h.rising) h.positive

pub held_assets-holding : (xs : List Asset) → IsHolding xs → held_assets (bundle_of xs) ≡ xs
unfolding held_assets
held_assets-holding xs h = ap assets_of_rows (rows-holding xs h) ∙ assets_back xs

pub goods-holding : (xs : List Asset) → IsHolding xs → IsGoods (bundle_of xs)
goods-holding xs h = ap bundle_of (held_assets-holding xs h)

-- what is held of a unit is found at its one index
pub found-holding : (xs : List Asset) (u : Unit) → IsHolding xs → found u xs ≡ amount (bundle_of xs) u
found-holding xs u h = sym (sum_where-find unit_keys u (rows_of xs) (is_sorted_of_keys unit_cmp (rows_of xs) h.rising)) ∙ sym (amount-bundle_of xs u)

pub bundle_of-none : bundle_of [] ≡ empty
bundle_of-none = same_bundles _ _ (λ u. amount-bundle_of [] u ∙ sym (amount-empty unit_keys u))

pub none_held : IsHolding []
unfolding IsStrictlySortedBy
none_held = record { rising = tt; positive = tt }

length-rows_of : (xs : List Asset) → length (rows_of xs) ≡ length xs
length-rows_of [] = refl
length-rows_of (a ∷ xs) = ap (λ n. suc n) (length-rows_of xs)

pub kinds-holding : (xs : List Asset) → IsHolding xs → length xs ≡ length (rows (bundle_of xs))
kinds-holding xs h = sym (length-rows_of xs) ∙ sym (ap length (rows-holding xs h))

-- other keys on the list are other keys on the bundle
pub map_keys-bundle_of : {K : Type 0} {R : K → K → Ordering} (f : Unit → K) (xs : List Asset) → IsHolding xs → from_rows {R = R} (rows_at f (rows_of xs)) ≡ map_keys f (bundle_of xs)
unfolding map_keys
map_keys-bundle_of {R = R} f xs h = ap (λ es. from_rows {R = R} (rows_at f es)) (sym (rows-holding xs h))

-- ---- a part of a list
pub rows_of-take : (n : ℕ) (xs : List Asset) → rows_of (take n xs) ≡ take n (rows_of xs)
rows_of-take zero xs = refl
rows_of-take (suc n) [] = refl
rows_of-take (suc n) (a ∷ xs) = ap (λ es. (unit_of a, amount_of a) ∷ es) (rows_of-take n xs)

pub rows_of-drop : (n : ℕ) (xs : List Asset) → rows_of (drop n xs) ≡ drop n (rows_of xs)
rows_of-drop zero xs = refl
rows_of-drop (suc n) [] = refl
rows_of-drop (suc n) (a ∷ xs) = rows_of-drop n xs

pub rest_holding : (n : ℕ) (xs : List Asset) → IsHolding xs → IsHolding (drop n xs)
unfolding IsStrictlySortedBy
rest_holding zero xs h = h
rest_holding (suc n) [] h = h
rest_holding (suc n) (a ∷ xs) h = rest_holding n xs (record { rising = h.rising.1; positive = h.positive.1 })

-- a part of a holding has that part of the bundle's rows
pub bundle_of-part : (from most : ℕ) (xs : List Asset) → IsHolding xs → bundle_of (take most (drop from xs)) ≡ from_rows (take most (drop from (rows (bundle_of xs))))
bundle_of-part from most xs h =
    bundle_of-rows (take most (drop from xs)) ∙ ap from_rows (rows_of-take most (drop from xs) ∙ ap (take most) (rows_of-drop from xs ∙ ap (drop from) (sym (rows-holding xs h))))
