-- Two lists in holding order joined, as the bundles that they are.
use Rattle.std.proofs.Common.{◌≡◌, ℕ, zero, suc, ◌+◌, ◌-◌, ◌<◌, ◌≤◌, Bool, true, false, ◌&&◌, ◌||◌, cond, List, [], ◌∷◌, ◌++◌, ◌^◌, length, get_or, take, refl, sym, ap, ◌∙◌, subst, arith}
use Rattle.std.specs.Prelude.{if◌then◌else◌, nat_eq, min, unwrap_or, Some, None}
use Rattle.std.specs.FinMap.{find}
use Rattle.std.specs.List.{list_all}
use Rattle.std.proofs.lemmas.List.Folds.{list_all_more}
use Rattle.std.specs.List.Sorted.{IsPermutation, IsSorted, IsStrictlySortedBy}
use Rattle.std.specs.Map.{keys_of}
use Rattle.std.specs.Ordering.{eq_by_cmp, is_lt}
use Rattle.std.proofs.lemmas.Bool.{and_parts, and_from, leb-true, le-leb}
use Rattle.std.proofs.lemmas.List.Sums.{sum_by-cons, sum_by-append}
use Rattle.amounts.specs.Rows.{amount_if, sum_where, IsPositive}
use Rattle.amounts.proofs.Lemmas.Rows.{sum_where-append}
use Rattle.amounts.specs.Amounts.{amount, merge}
use Rattle.amounts.proofs.Lemmas.{key_same}
use Rattle.asset_lists.specs.declared.units.AssetId.{AssetId}
use Rattle.asset_lists.specs.declared.units.Instance.{Instance}
use Rattle.asset_lists.specs.declared.units.Fun.{Fun}
use Rattle.asset_lists.specs.declared.units.Asset.{Asset}
use Rattle.asset_lists.specs.Units.{Unit, unit_of, amount_of, unit_cmp, instance_in, amount_in, asset_cmp}
use Rattle.asset_lists.specs.Lists.{has_zero, is_rising, is_of}
use Rattle.asset_lists.specs.Moves.{occurrences}
use Rattle.asset_lists.proofs.Lemmas.{once_each}
use Rattle.asset_bundles.specs.Bundles.{Bundle, rows_of, bundle_of, held_assets, found, IsHolding}
use Rattle.asset_bundles.proofs.Lemmas.Bundles.{unit_keys}
use Rattle.asset_bundles.proofs.Lemmas.BundleLaws.{same_bundles, amount-bundle_of, held_assets-holding, found-holding}
use Rattle.asset_bundles.proofs.Lemmas.Changed.{amount-with_amounts}
use Rattle.asset_bundles.specs.Joins.{most_of, Joined, Excess, IsWithinMost, IsListOf}
use Rattle.asset_bundles.proofs.Lemmas.{amount-Joined, amount-Excess}
use Rattle.asset_bundles.specs.Portions.{with_remainder, changed, grown_by, above_by, new_to, is_within_most, AreWithinMost}
use Rattle.asset_bundles.proofs.Lemmas.Portions.{FitsInstances}
use Rattle.asset_bundles.proofs.Giving.{eq_turned}
use Rattle.asset_bundles.proofs.Minting.{bundle_of-IsPermutation, sorted_holding}
use Rattle.asset_bundles.proofs.Parts.{bundle_of-changed, changed_holding}
use Rattle.plain_lists.proofs.Lemmas.Facts.{one_at_most as fits_either, positive_not_zero as some_there}

-- ---- what is found of an instance
one_instance : (f : Fun) (i : Instance) → Some i ≡ instance_in f → amount_in f ≤ 1
one_instance (Fun.Fungible amount) i is = absurd (cc)
one_instance (Fun.NonFungible instance) i is = omega arith

one_found : (id : AssetId) (i : Instance) (xs : List Asset) → found (id, Some i) xs ≤ 1
one_found id i [] = omega arith
one_found id i (a ∷ xs) =
    elim (eq_by_cmp unit_cmp (id, Some i) (unit_of a)) as (λ b. eq_by_cmp unit_cmp (id, Some i) (unit_of a) ≡ b → unwrap_or (if b then Some (amount_of a) else find unit_cmp (id, Some i) (rows_of xs)) 0 ≤ 1) [
      | true ↦ λ t. one_instance a.fun i (ap (λ u. u.1) (key_same unit_keys (id, Some i) (unit_of a) t))
      | false ↦ λ t. one_found id i xs
    ] refl

pub found_within : (u : Unit) (n : ℕ) (xs : List Asset) → n < 2 ^ 128 → n ≡ found u xs → found u xs ≤ most_of u.1
found_within (id, None) n xs fits is = omega (arith, fits, is)
found_within (id, Some i) n xs fits is = one_found id i xs

most_fits : (f : Fun) (n : ℕ) → n < 2 ^ 128 → n ≡ amount_in f → amount_in f ≤ most_of (instance_in f)
most_fits (Fun.Fungible amount) n fits is = omega (arith, fits, is)
most_fits (Fun.NonFungible instance) n fits is = omega arith

pub is_most : (a : Asset) (n : ℕ) → n < 2 ^ 128 → n ≡ amount_of a → is_within_most a ≡ true
is_most a n fits is = le-leb (amount_of a) (most_of (unit_of a).1) (most_fits a.fun n fits is)

pub most_more : (xs : List Asset) (i : ℕ) (a : Asset) → i < length xs → a ≡ get_or xs i a → is_within_most a ≡ true
    → AreWithinMost (take i xs) → AreWithinMost (take (i + 1) xs)
most_more xs i a inside is here so_far = list_all_more is_within_most xs i a inside ∙ and_from _ _ so_far (ap is_within_most (sym is) ∙ here)

pub found_most : (xs : List Asset) → AreWithinMost xs → (u : Unit) → found u xs ≤ most_of u.1
found_most [] all u = omega arith
found_most (a ∷ xs) all u =
    let parts = and_parts (is_within_most a) (list_all is_within_most xs) all in
    elim (eq_by_cmp unit_cmp u (unit_of a)) as (λ b. eq_by_cmp unit_cmp u (unit_of a) ≡ b → unwrap_or (if b then Some (amount_of a) else find unit_cmp u (rows_of xs)) 0 ≤ most_of u.1) [
      | true ↦ λ t. subst (λ v. amount_of a ≤ most_of v.1) (sym (key_same unit_keys u (unit_of a) t)) (leb-true (amount_of a) (most_of (unit_of a).1) parts.0)
      | false ↦ λ t. found_most xs parts.1 u
    ] refl

-- ---- what is changed where there is something
some : (Unit → ℕ → ℕ) → Unit → ℕ → ℕ
some f u zero = 0
some f u (suc n) = f u (suc n)

kept_alike : (f : Unit → ℕ → ℕ) (a : Asset) (n : ℕ) → 0 < n → some f (unit_of a) n ≡ f (unit_of a) n
unfolding some
kept_alike f a zero positive = absurd (omega (arith, positive))
kept_alike f a (suc n) positive = refl

changed_some : (f : Unit → ℕ → ℕ) (xs : List Asset) → IsPositive (rows_of xs) → changed f xs ≡ changed (some f) xs
changed_some f [] positive = refl
changed_some f (a ∷ xs) positive = λ i. with_remainder a (sym (kept_alike f a (amount_of a) positive.0) i) (changed_some f xs positive.1 i)

fits_some : (f : Unit → ℕ → ℕ) → FitsInstances f → FitsInstances (some f)
unfolding some
fits_some f fits = fits

some_none : (f : Unit → ℕ → ℕ) (u : Unit) → some f u 0 ≡ 0
unfolding some
some_none f u = refl

amount_changed : (f : Unit → ℕ → ℕ) (fits : FitsInstances f) (xs : List Asset) → IsHolding xs → (u : Unit)
    → amount (bundle_of (changed f xs)) u ≡ some f u (amount (bundle_of xs) u)
amount_changed f fits xs h u =
    ap (λ ys. amount (bundle_of ys) u) (changed_some f xs h.positive)
    ∙ ap (λ b. amount b u) (bundle_of-changed (some f) (fits_some f fits) xs h)
    ∙ amount-with_amounts unit_keys (some f) (some_none f) (bundle_of xs) u

pub fits_grown : (more : List Asset) → FitsInstances (grown_by more)
fits_grown more id i = omega arith

fits_above : (more : List Asset) → FitsInstances (above_by more)
fits_above more id i = let one = one_found id i more in omega (arith, one)

fits_new : (items : List Asset) → FitsInstances (new_to items)
fits_new items id i = fits_either (nat_eq (found (id, Some i) items) 0)

-- ---- what is given up
above_here : (u : Unit) (ys : List Asset) (m n : ℕ) → found u ys ≡ n → n ≤ most_of u.1 → some (above_by ys) u m ≡ (m + n) - most_of u.1
unfolding some
above_here u ys zero n there within = omega (arith, within)
above_here u ys (suc m) n there within = omega (arith, there)

pub excess_is : (xs ys : List Asset) → IsHolding xs → IsHolding ys → ((u : Unit) → found u ys ≤ most_of u.1)
    → bundle_of (changed (above_by ys) xs) ≡ Excess (bundle_of xs) (bundle_of ys)
excess_is xs ys h k within = same_bundles _ _ (λ u.
    amount_changed (above_by ys) (fits_above ys) xs h u
    ∙ above_here u ys (amount (bundle_of xs) u) (amount (bundle_of ys) u) (found-holding ys u k) (subst (λ n. n ≤ most_of u.1) (found-holding ys u k) (within u))
    ∙ sym (amount-Excess (bundle_of xs) (bundle_of ys) u))

-- ---- both lists
rows-append : (xs ys : List Asset) → rows_of (xs ++ ys) ≡ rows_of xs ++ rows_of ys
rows-append [] ys = refl
rows-append (a ∷ xs) ys = ap (λ es. (unit_of a, amount_of a) ∷ es) (rows-append xs ys)

amount-append : (xs ys : List Asset) (u : Unit) → amount (bundle_of (xs ++ ys)) u ≡ amount (bundle_of xs) u + amount (bundle_of ys) u
amount-append xs ys u =
    let all = amount-bundle_of (xs ++ ys) u in
    let rows : sum_where (eq_by_cmp unit_cmp u) (rows_of (xs ++ ys)) ≡ sum_where (eq_by_cmp unit_cmp u) (rows_of xs ++ rows_of ys) = ap (sum_where (eq_by_cmp unit_cmp u)) (rows-append xs ys) in
    let parts = sum_where-append (eq_by_cmp unit_cmp u) (rows_of xs) (rows_of ys) in
    let front = amount-bundle_of xs u in
    let back = amount-bundle_of ys u in
    omega (arith, all, rows, parts, front, back)

none_there : (n : ℕ) → n ≡ 0 → nat_eq n 0 ≡ true
none_there zero is = refl
none_there (suc n) is = absurd (omega (arith, is))

new_here : (u : Unit) (xs : List Asset) (n : ℕ) → found u xs ≡ 0 → some (new_to xs) u n ≡ n
unfolding some
new_here u xs zero none = refl
new_here u xs (suc n) none = ap (λ b. if b then suc n else 0) (none_there (found u xs) none)

not_new : (u : Unit) (xs : List Asset) (n : ℕ) → 0 < found u xs → some (new_to xs) u n ≡ 0
unfolding some
not_new u xs zero there = refl
not_new u xs (suc n) there = ap (λ b. if b then suc n else 0) (some_there (found u xs) there)

both_here : (u : Unit) (xs ys : List Asset) (m n : ℕ) → found u xs ≡ m → found u ys ≡ n → n ≤ most_of u.1
    → some (grown_by ys) u m + some (new_to xs) u n ≡ min (m + n) (most_of u.1)
unfolding some
both_here u xs ys zero n here there within = let new = new_here u xs n here in omega (arith, new, within)
both_here u xs ys (suc m) n here there within = let none = not_new u xs n (omega (arith, here)) in omega (arith, none, there)

pub joined_is : (xs ys : List Asset) → IsHolding xs → IsHolding ys → ((u : Unit) → found u ys ≤ most_of u.1)
    → bundle_of (changed (grown_by ys) xs ++ changed (new_to xs) ys) ≡ Joined (bundle_of xs) (bundle_of ys)
joined_is xs ys h k within = same_bundles _ _ (λ u.
    let both = both_here u xs ys (amount (bundle_of xs) u) (amount (bundle_of ys) u) (found-holding xs u h) (found-holding ys u k) (subst (λ n. n ≤ most_of u.1) (found-holding ys u k) (within u)) in
    let all = amount-append (changed (grown_by ys) xs) (changed (new_to xs) ys) u in
    let front = amount_changed (grown_by ys) (fits_grown ys) xs h u in
    let back = amount_changed (new_to xs) (fits_new xs) ys k u in
    let joined = amount-Joined (bundle_of xs) (bundle_of ys) u in
    omega (arith, both, all, front, back, joined))

-- ---- each unit once
pub is_rising_of : (xs : List Asset) → IsStrictlySortedBy unit_cmp (keys_of (rows_of xs)) → is_rising xs ≡ true
unfolding IsStrictlySortedBy
is_rising_of [] rising = refl
is_rising_of (a ∷ []) rising = refl
is_rising_of (a ∷ b ∷ xs) rising =
    let rest = is_rising_of (b ∷ xs) rising.1 in
    λ i. is_lt (rising.0.0 i) && rest i

one_if : (b : Bool) (n : ℕ) → 0 < n → cond {A = ℕ} b 1 0 ≤ amount_if b n
one_if true n positive = omega (arith, positive)
one_if false n positive = omega arith

counted_at_most : (u : Unit) (xs : List Asset) → IsPositive (rows_of xs) → occurrences u xs ≤ sum_where (eq_by_cmp unit_cmp u) (rows_of xs)
counted_at_most u [] positive = omega arith
counted_at_most u (a ∷ xs) positive =
    let first = sum_by-cons (λ b. cond {A = ℕ} (is_of u b) 1 0) a xs in
    let one = one_if (is_of u a) (amount_of a) positive.0 in
    let same : amount_if (is_of u a) (amount_of a) ≡ amount_if (eq_by_cmp unit_cmp u (unit_of a)) (amount_of a) = ap (λ b. amount_if b (amount_of a)) (eq_turned (unit_of a) u) in
    let rest = counted_at_most u xs positive.1 in
    omega (arith, first, one, same, rest)

pub counted_held : (xs : List Asset) → IsHolding xs → (u : Unit) → (occurrences u xs ≤ amount (bundle_of xs) u) × (occurrences u xs ≤ 1)
counted_held xs h u =
    let most = counted_at_most u xs h.positive in
    let is = amount-bundle_of xs u in
    (omega (arith, most, is), once_each xs (is_rising_of xs h.rising) u)

count-append : (u : Unit) (xs ys : List Asset) → occurrences u (xs ++ ys) ≡ occurrences u xs + occurrences u ys
count-append u xs ys = sum_by-append (λ b. cond {A = ℕ} (is_of u b) 1 0) xs ys

apart_here : (u : Unit) (xs ys : List Asset) (m n a b : ℕ) → found u xs ≡ m → a ≤ some (grown_by ys) u m → b ≤ some (new_to xs) u n → a ≤ 1 → b ≤ 1 → a + b ≤ 1
unfolding some
apart_here u xs ys zero n a b here first second once again = omega (arith, first, again)
apart_here u xs ys (suc m) n a b here first second once again = let none = not_new u xs n (omega (arith, here)) in omega (arith, none, second, once)

pub joined_once : (xs ys : List Asset) → IsHolding xs → IsHolding ys → (u : Unit) → occurrences u (changed (grown_by ys) xs ++ changed (new_to xs) ys) ≤ 1
joined_once xs ys h k u =
    let front = counted_held (changed (grown_by ys) xs) (changed_holding (grown_by ys) (fits_grown ys) xs h) u in
    let back = counted_held (changed (new_to xs) ys) (changed_holding (new_to xs) (fits_new xs) ys k) u in
    subst (λ n. n ≤ 1) (sym (count-append u (changed (grown_by ys) xs) (changed (new_to xs) ys)))
    (apart_here u xs ys (amount (bundle_of xs) u) (amount (bundle_of ys) u) _ _ (found-holding xs u h)
    (subst (λ n. occurrences u (changed (grown_by ys) xs) ≤ n) (amount_changed (grown_by ys) (fits_grown ys) xs h u) front.0)
    (subst (λ n. occurrences u (changed (new_to xs) ys) ≤ n) (amount_changed (new_to xs) (fits_new xs) ys k u) back.0) front.1 back.1)

pub positive_append : (xs ys : List Asset) → IsPositive (rows_of xs) → IsPositive (rows_of ys) → IsPositive (rows_of (xs ++ ys))
positive_append [] ys first second = second
positive_append (a ∷ xs) ys first second = (first.0, positive_append xs ys first.1 second)

pub no_zero_of : (xs : List Asset) → IsPositive (rows_of xs) → has_zero xs ≡ false
no_zero_of [] positive = refl
no_zero_of (a ∷ xs) positive = λ i. some_there (amount_of a) positive.0 i || no_zero_of xs positive.1 i

pub take_whole : (n : ℕ) (xs : List Asset) → length xs ≤ n → take n xs ≡ xs
take_whole zero [] all = refl
take_whole zero (a ∷ xs) all = absurd (omega (arith, all))
take_whole (suc n) [] all = refl
take_whole (suc n) (a ∷ xs) all = ap (λ ys. a ∷ ys) (take_whole n xs (omega (arith, all)))

-- ---- both lists joined and sorted, and what is given up
pub is_together : (xs ys all with_remainder : List Asset) → IsHolding xs → IsHolding ys → AreWithinMost ys
    → all ≡ changed (grown_by ys) xs ++ changed (new_to xs) ys → IsPermutation all with_remainder → IsSorted asset_cmp with_remainder → IsListOf (Joined (bundle_of xs) (bundle_of ys)) with_remainder
is_together xs ys all with_remainder h k most both moves sorted =
    let moved : IsPermutation (changed (grown_by ys) xs ++ changed (new_to xs) ys) with_remainder = subst (λ zs. IsPermutation zs with_remainder) both moves in
    record {
      holding = sorted_holding _ _ moved sorted (joined_once xs ys h k)
          (no_zero_of _ (positive_append _ _ (changed_holding (grown_by ys) (fits_grown ys) xs h).positive (changed_holding (new_to xs) (fits_new xs) ys k).positive));
      bundle = bundle_of-IsPermutation _ _ moved ∙ joined_is xs ys h k (found_most ys most);
    }

pub is_above : (xs ys above : List Asset) → IsHolding xs → IsHolding ys → AreWithinMost ys → above ≡ changed (above_by ys) xs → IsListOf (Excess (bundle_of xs) (bundle_of ys)) above
is_above xs ys above h k most is = record {
  holding = subst IsHolding (sym is) (changed_holding (above_by ys) (fits_above ys) xs h);
  bundle = ap bundle_of is ∙ excess_is xs ys h k (found_most ys most);
}

pub joined_at : (m n o p : Bundle) (xs : List Asset) → IsListOf (Joined m n) xs → m ≡ o → n ≡ p → IsListOf (Joined o p) xs
joined_at m n o p xs list first second = subst (λ b. IsListOf (Joined o b) xs) second (subst (λ b. IsListOf (Joined b n) xs) first list)

pub excess_at : (m n o p : Bundle) (xs : List Asset) → IsListOf (Excess m n) xs → m ≡ o → n ≡ p → IsListOf (Excess o p) xs
excess_at m n o p xs list first second = subst (λ b. IsListOf (Excess o b) xs) second (subst (λ b. IsListOf (Excess b n) xs) first list)

pub list_held : (b : Bundle) (xs : List Asset) → IsListOf b xs → xs ≡ held_assets b
list_held b xs list = sym (held_assets-holding xs list.holding) ∙ ap held_assets list.bundle

-- amounts that are within the most on the list are so in the bundle
pub within_most_of : (b : Bundle) (xs : List Asset) → IsHolding xs → AreWithinMost xs → bundle_of xs ≡ b → IsWithinMost b
within_most_of b xs h most is u = subst (λ n. n ≤ most_of u.1) (found-holding xs u h ∙ ap (λ c. amount c u) is) (found_most xs most u)

-- what is left and what was taken, put together again
pub whole_again : (b m n : Bundle) (left taken : List Asset) → IsListOf m left → IsListOf n taken → merge m n ≡ b → merge (bundle_of left) (bundle_of taken) ≡ b
whole_again b m n left taken l t whole = (λ i. merge (l.bundle i) (t.bundle i)) ∙ whole
