-- Lists with other amounts, as the bundles that they are.
use Rattle.std.proofs.Common.{◌≡◌, ℕ, zero, suc, ◌+◌, ◌<◌, Bool, true, false, List, [], ◌∷◌, ◌++◌, length, get_or, take, refl, sym, ap, ◌∙◌, subst, arith}
use Rattle.std.specs.Prelude.{if◌then◌else◌, Option, Some, None}
use Rattle.std.specs.Ordering.{eq_by_cmp}
use Rattle.std.specs.declared.cmp.Ordering.TheVariants.{Less}
use Rattle.std.specs.List.{AllByRecursion}
use Rattle.std.specs.List.Sorted.{IsStrictlySortedBy}
use Rattle.std.specs.Map.{keys_of}
use Rattle.std.proofs.lemmas.List.{take_more, append_assoc}
use Rattle.amounts.specs.Rows.{sum_where, amount_if, IsPositive}
use Rattle.amounts.specs.Amounts.{amount, rows, from_rows, restriction, difference}
use Rattle.amounts.proofs.Lemmas.AmountLaws.{amount-restriction}
use Rattle.amounts.proofs.Lemmas.{amount-from_rows, amount-difference, amount-lesser}
use Rattle.asset_lists.specs.declared.units.AssetId.{AssetId}
use Rattle.asset_lists.specs.declared.units.Fun.{Fun}
use Rattle.asset_lists.specs.declared.units.Asset.{Asset}
use Rattle.asset_lists.specs.declared.filters.Wild.{Wild}
use Rattle.asset_lists.specs.declared.filters.Filter.{Filter}
use Rattle.asset_lists.specs.Units.{Unit, unit_of, amount_of, unit_cmp, instance_in, amount_in}
use Rattle.asset_bundles.specs.Bundles.{Bundle, rows_of, bundle_of, IsHolding}
use Rattle.asset_bundles.proofs.Lemmas.Bundles.{unit_keys}
use Rattle.asset_bundles.proofs.Lemmas.BundleLaws.{same_bundles, amount-bundle_of, rows-holding, found-holding, rows_of-take}
use Rattle.asset_bundles.specs.Filters.{is_all_of, first_kinds, Taken, Left}
use Rattle.asset_bundles.specs.Joins.{IsListOf}
use Rattle.asset_bundles.specs.Changed.{rows_with, with_amounts}
use Rattle.asset_bundles.proofs.Lemmas.Changed.{amount-with_amounts}
use Rattle.asset_bundles.specs.Portions.{fun_with, asset_with, with_remainder, changed, left_of, wanted, count_of_filter, at_most, chosen, IsListed}
use Rattle.asset_bundles.proofs.Lemmas.Portions.{FitsInstances}
use Rattle.asset_bundles.proofs.Listing.{holding_of_list}
use Rattle.plain_lists.proofs.Lemmas.Facts.{one_at_most as fits_if}

-- ---- one asset
same_instance : (f : Fun) (n : ℕ) → instance_in (fun_with f n) ≡ instance_in f
same_instance (Fun.Fungible amount) n = refl
same_instance (Fun.NonFungible instance) n = refl

pub same_unit : (a : Asset) (n : ℕ) → unit_of (asset_with a n) ≡ unit_of a
same_unit a n = ap (λ i. (a.id, i)) (same_instance a.fun n)

amount_with : (f : Unit → ℕ → ℕ) → FitsInstances f → (id : AssetId) (x : Fun) (n : ℕ) → f (id, instance_in x) (amount_in x) ≡ suc n → amount_in (fun_with x (suc n)) ≡ suc n
amount_with f fits id (Fun.Fungible amount) n is = refl
amount_with f fits id (Fun.NonFungible instance) n is = let one = fits id instance in omega (arith, is, one)

-- ---- rows
module _ (f : Unit → ℕ → ℕ) (fits : FitsInstances f) where
  kept_sum : (p : Unit → Bool) (a : Asset) (rest : List Asset) (n : ℕ) → f (unit_of a) (amount_of a) ≡ n
      → sum_where p (rows_of (with_remainder a n rest)) ≡ amount_if (p (unit_of a)) n + sum_where p (rows_of rest)
  kept_sum p a rest zero is = elim (p (unit_of a)) as (λ b. sum_where p (rows_of rest) ≡ amount_if b 0 + sum_where p (rows_of rest)) [ true ↦ omega arith | false ↦ omega arith ]
  kept_sum p a rest (suc n) is = λ i. amount_if (p (same_unit a (suc n) i)) (amount_with f fits a.id a.fun n is i) + sum_where p (rows_of rest)

  pub changed_sum : (p : Unit → Bool) (xs : List Asset) → sum_where p (rows_of (changed f xs)) ≡ sum_where p (rows_with f (rows_of xs))
  changed_sum p [] = refl
  changed_sum p (a ∷ xs) =
      kept_sum p a (changed f xs) (f (unit_of a) (amount_of a)) refl ∙ ap (λ n. amount_if (p (unit_of a)) (f (unit_of a) (amount_of a)) + n) (changed_sum p xs)

  pub bundle_of-changed : (xs : List Asset) → IsHolding xs → bundle_of (changed f xs) ≡ with_amounts f (bundle_of xs)
  unfolding with_amounts
  bundle_of-changed xs h = same_bundles _ _ (λ u.
      amount-bundle_of (changed f xs) u ∙ changed_sum (eq_by_cmp unit_cmp u) xs
      ∙ ap (λ es. sum_where (eq_by_cmp unit_cmp u) (rows_with f es)) (sym (rows-holding xs h))
      ∙ sym (amount-from_rows unit_keys (rows_with f (rows (bundle_of xs))) u))

  -- ---- holding order
  kept_above : (u : Unit) (a : Asset) (rest : List Asset) (n : ℕ) → unit_cmp u (unit_of a) ≡ Less → AllByRecursion (λ v. unit_cmp u v ≡ Less) (keys_of (rows_of rest))
      → AllByRecursion (λ v. unit_cmp u v ≡ Less) (keys_of (rows_of (with_remainder a n rest)))
  kept_above u a rest zero first all = all
  kept_above u a rest (suc n) first all = (ap (unit_cmp u) (same_unit a (suc n)) ∙ first, all)

  changed_above : (u : Unit) (xs : List Asset) → AllByRecursion (λ v. unit_cmp u v ≡ Less) (keys_of (rows_of xs))
      → AllByRecursion (λ v. unit_cmp u v ≡ Less) (keys_of (rows_of (changed f xs)))
  changed_above u [] all = tt
  changed_above u (a ∷ xs) all = kept_above u a (changed f xs) (f (unit_of a) (amount_of a)) all.0 (changed_above u xs all.1)

  kept_rising : (a : Asset) (rest : List Asset) (n : ℕ) → AllByRecursion (λ v. unit_cmp (unit_of a) v ≡ Less) (keys_of (rows_of rest))
      → IsStrictlySortedBy unit_cmp (keys_of (rows_of rest)) → IsStrictlySortedBy unit_cmp (keys_of (rows_of (with_remainder a n rest)))
  unfolding IsStrictlySortedBy
  kept_rising a rest zero all rising = rising
  kept_rising a rest (suc n) all rising = (subst (λ u. AllByRecursion (λ v. unit_cmp u v ≡ Less) (keys_of (rows_of rest))) (sym (same_unit a (suc n))) all, rising)

  changed_rising : (xs : List Asset) → IsStrictlySortedBy unit_cmp (keys_of (rows_of xs)) → IsStrictlySortedBy unit_cmp (keys_of (rows_of (changed f xs)))
  unfolding IsStrictlySortedBy
  changed_rising [] rising = tt
  changed_rising (a ∷ xs) rising = kept_rising a (changed f xs) (f (unit_of a) (amount_of a)) (changed_above (unit_of a) xs rising.0) (changed_rising xs rising.1)

  kept_positive : (a : Asset) (rest : List Asset) (n : ℕ) → f (unit_of a) (amount_of a) ≡ n → IsPositive (rows_of rest) → IsPositive (rows_of (with_remainder a n rest))
  kept_positive a rest zero is positive = positive
  kept_positive a rest (suc n) is positive = (let e = amount_with f fits a.id a.fun n is in omega (arith, e), positive)

  changed_positive : (xs : List Asset) → IsPositive (rows_of (changed f xs))
  changed_positive [] = tt
  changed_positive (a ∷ xs) = kept_positive a (changed f xs) (f (unit_of a) (amount_of a)) refl (changed_positive xs)

  pub changed_holding : (xs : List Asset) → IsHolding xs → IsHolding (changed f xs)
  changed_holding xs h = record { rising = changed_rising xs h.rising; positive = changed_positive xs }

-- ---- the loops that make such a list
kept_append : (a : Asset) (n : ℕ) (xs ys : List Asset) → with_remainder a n (xs ++ ys) ≡ with_remainder a n xs ++ ys
kept_append a zero xs ys = refl
kept_append a (suc n) xs ys = refl

changed_push : (f : Unit → ℕ → ℕ) (xs : List Asset) (a : Asset) → changed f (xs ++ a ∷ []) ≡ changed f xs ++ with_remainder a (f (unit_of a) (amount_of a)) []
changed_push f [] a = refl
changed_push f (x ∷ xs) a = ap (with_remainder x (f (unit_of x) (amount_of x))) (changed_push f xs a) ∙ kept_append x (f (unit_of x) (amount_of x)) (changed f xs) (with_remainder a (f (unit_of a) (amount_of a)) [])

changed_take : (f : Unit → ℕ → ℕ) (xs : List Asset) (i : ℕ) (a : Asset) → i < length xs → a ≡ get_or xs i a
    → changed f (take (i + 1) xs) ≡ changed f (take i xs) ++ with_remainder a (f (unit_of a) (amount_of a)) []
changed_take f xs i a inside is = ap (changed f) (take_more xs i a inside ∙ ap (λ x. take i xs ++ x ∷ []) (sym is)) ∙ changed_push f (take i xs) a

pub kept_some : (a : Asset) (n : ℕ) → 0 < n → with_remainder a n [] ≡ asset_with a n ∷ []
kept_some a zero some = absurd (omega (arith, some))
kept_some a (suc n) some = refl

append_none : (xs : List Asset) → xs ++ [] ≡ xs
append_none [] = refl
append_none (x ∷ xs) = ap (λ ys. x ∷ ys) (append_none xs)

pub kept_none : (a : Asset) (n : ℕ) (xs : List Asset) → n ≡ 0 → xs ≡ xs ++ with_remainder a n []
kept_none a n xs none = sym (append_none xs) ∙ ap (λ m. xs ++ with_remainder a m []) (sym none)

pub changed_more : (f : Unit → ℕ → ℕ) (xs : List Asset) (i n : ℕ) (a : Asset) (so_far next : List Asset) → i < length xs → a ≡ get_or xs i a → n ≡ f (unit_of a) (amount_of a)
    → next ≡ so_far ++ with_remainder a n [] → so_far ≡ changed f (take i xs) → next ≡ changed f (take (i + 1) xs)
changed_more f xs i n a so_far next inside is amount pushed before =
    pushed ∙ ap (λ ys. ys ++ with_remainder a n []) before ∙ ap (λ m. changed f (take i xs) ++ with_remainder a m []) amount ∙ sym (changed_take f xs i a inside is)

-- after what is there already
pub changed_behind : (f : Unit → ℕ → ℕ) (front xs : List Asset) (i n : ℕ) (a : Asset) (so_far next : List Asset) → i < length xs → a ≡ get_or xs i a → n ≡ f (unit_of a) (amount_of a)
    → next ≡ so_far ++ with_remainder a n [] → so_far ≡ front ++ changed f (take i xs) → next ≡ front ++ changed f (take (i + 1) xs)
changed_behind f front xs i n a so_far next inside is amount pushed before =
    pushed ∙ ap (λ ys. ys ++ with_remainder a n []) before ∙ append_assoc front (changed f (take i xs)) (with_remainder a n [])
    ∙ ap (λ ys. front ++ ys) (changed_more f xs i n a (changed f (take i xs)) (changed f (take i xs) ++ with_remainder a n []) inside is amount refl refl)

-- ---- what is left
fits_left : (taken : List Asset) → FitsInstances (left_of taken)
fits_left taken id instance = omega arith

pub left_holding : (taken xs : List Asset) → IsHolding xs → IsHolding (changed (left_of taken) xs)
left_holding taken xs h = changed_holding (left_of taken) (fits_left taken) xs h

pub left_difference : (taken xs : List Asset) → IsHolding taken → IsHolding xs → bundle_of (changed (left_of taken) xs) ≡ difference (bundle_of xs) (bundle_of taken)
left_difference taken xs t h = bundle_of-changed (left_of taken) (fits_left taken) xs h ∙ same_bundles _ _ (λ u.
    let left = amount-with_amounts unit_keys (left_of taken) (λ k. omega arith) (bundle_of xs) u in
    let there = found-holding taken u t in
    let less = amount-difference unit_keys (bundle_of xs) (bundle_of taken) u in
    omega (arith, left, there, less))

-- ---- what a filter takes
zero_if : (b : Bool) → amount_if b 0 ≡ 0
zero_if true = refl
zero_if false = refl

fits_wanted : (filter : Filter) → FitsInstances (wanted filter)
fits_wanted (Filter.Definite list) id instance = omega arith
fits_wanted (Filter.Wild Wild.All) id instance = omega arith
fits_wanted (Filter.Wild (Wild.AllOf own fun)) id instance = fits_if (is_all_of own fun (id, Some instance))
fits_wanted (Filter.Wild (Wild.AllCounted count)) id instance = omega arith
fits_wanted (Filter.Wild (Wild.AllOfCounted own fun count)) id instance = fits_if (is_all_of own fun (id, Some instance))

restricted : (id : AssetId) (fun : _) (b : Bundle) → with_amounts (λ u n. if is_all_of id fun u then n else 0) b ≡ restriction (is_all_of id fun) b
restricted id fun b = same_bundles _ _ (λ u.
    amount-with_amounts unit_keys (λ u n. if is_all_of id fun u then n else 0) (λ u. zero_if (is_all_of id fun u)) b u ∙ sym (amount-restriction unit_keys (is_all_of id fun) b u))

unchanged : (b : Bundle) → with_amounts (λ u n. n) b ≡ b
unchanged b = same_bundles _ _ (λ u. amount-with_amounts unit_keys (λ u n. n) (λ u. refl) b u)

first_of : (n : ℕ) (xs : List Asset) → IsHolding xs → bundle_of (take n xs) ≡ first_kinds n (bundle_of xs)
unfolding bundle_of first_kinds
first_of n xs h = ap from_rows (rows_of-take n xs) ∙ ap (λ es. from_rows (take n es)) (sym (rows-holding xs h))

pub chosen_taken : (filter : Filter) (xs : List Asset) → IsListed filter → IsHolding xs → bundle_of (chosen filter xs) ≡ Taken filter (bundle_of xs)
unfolding Taken
chosen_taken (Filter.Definite list) xs listed h =
    bundle_of-changed (wanted (Filter.Definite list)) (fits_wanted (Filter.Definite list)) xs h ∙ same_bundles _ _ (λ u.
    let taken = amount-with_amounts unit_keys (wanted (Filter.Definite list)) (λ k. omega arith) (bundle_of xs) u in
    let asked = found-holding list u (holding_of_list list listed) in
    let least = amount-lesser unit_keys (bundle_of list) (bundle_of xs) u in
    omega (arith, taken, asked, least))
chosen_taken (Filter.Wild Wild.All) xs listed h = bundle_of-changed (wanted (Filter.Wild Wild.All)) (fits_wanted (Filter.Wild Wild.All)) xs h ∙ unchanged (bundle_of xs)
chosen_taken (Filter.Wild (Wild.AllOf id fun)) xs listed h =
    bundle_of-changed (wanted (Filter.Wild (Wild.AllOf id fun))) (fits_wanted (Filter.Wild (Wild.AllOf id fun))) xs h ∙ restricted id fun (bundle_of xs)
chosen_taken (Filter.Wild (Wild.AllCounted count)) xs listed h =
    first_of count (changed (wanted (Filter.Wild (Wild.AllCounted count))) xs) (changed_holding (wanted (Filter.Wild (Wild.AllCounted count))) (fits_wanted (Filter.Wild (Wild.AllCounted count))) xs h)
    ∙ ap (first_kinds count) (bundle_of-changed (wanted (Filter.Wild (Wild.AllCounted count))) (fits_wanted (Filter.Wild (Wild.AllCounted count))) xs h ∙ unchanged (bundle_of xs))
chosen_taken (Filter.Wild (Wild.AllOfCounted id fun count)) xs listed h =
    first_of count (changed (wanted (Filter.Wild (Wild.AllOfCounted id fun count))) xs) (changed_holding (wanted (Filter.Wild (Wild.AllOfCounted id fun count))) (fits_wanted (Filter.Wild (Wild.AllOfCounted id fun count))) xs h)
    ∙ ap (first_kinds count) (bundle_of-changed (wanted (Filter.Wild (Wild.AllOfCounted id fun count))) (fits_wanted (Filter.Wild (Wild.AllOfCounted id fun count))) xs h ∙ restricted id fun (bundle_of xs))

-- ---- the first of a list are in holding order too
above_take : (u : Unit) (n : ℕ) (xs : List Asset) → AllByRecursion (λ v. unit_cmp u v ≡ Less) (keys_of (rows_of xs)) → AllByRecursion (λ v. unit_cmp u v ≡ Less) (keys_of (rows_of (take n xs)))
above_take u zero xs all = tt
above_take u (suc n) [] all = tt
above_take u (suc n) (a ∷ xs) all = (all.0, above_take u n xs all.1)

rising_take : (n : ℕ) (xs : List Asset) → IsStrictlySortedBy unit_cmp (keys_of (rows_of xs)) → IsStrictlySortedBy unit_cmp (keys_of (rows_of (take n xs)))
unfolding IsStrictlySortedBy
rising_take zero xs rising = tt
rising_take (suc n) [] rising = tt
rising_take (suc n) (a ∷ xs) rising = (above_take (unit_of a) n xs rising.0, rising_take n xs rising.1)

positive_take : (n : ℕ) (xs : List Asset) → IsPositive (rows_of xs) → IsPositive (rows_of (take n xs))
positive_take zero xs positive = tt
positive_take (suc n) [] positive = tt
positive_take (suc n) (a ∷ xs) positive = (positive.0, positive_take n xs positive.1)

pub first_holding : (n : ℕ) (xs : List Asset) → IsHolding xs → IsHolding (take n xs)
first_holding n xs h = record { rising = rising_take n xs h.rising; positive = positive_take n xs h.positive }

at_most_holding : (n : Option ℕ) (xs : List Asset) → IsHolding xs → IsHolding (at_most n xs)
at_most_holding None xs h = h
at_most_holding (Some n) xs h = first_holding n xs h

pub chosen_holding : (filter : Filter) (xs : List Asset) → IsHolding xs → IsHolding (chosen filter xs)
chosen_holding filter xs h = at_most_holding (count_of_filter filter) (changed (wanted filter) xs) (changed_holding (wanted filter) (fits_wanted filter) xs h)

-- ---- a list that is taken in two
pub taken_list : (filter : Filter) (xs taken : List Asset) → IsListed filter → IsHolding xs → taken ≡ chosen filter xs → IsListOf (Taken filter (bundle_of xs)) taken
taken_list filter xs taken listed h first = record {
  holding = subst IsHolding (sym first) (chosen_holding filter xs h);
  bundle = ap bundle_of first ∙ chosen_taken filter xs listed h;
}

pub rest_list : (xs taken left : List Asset) → IsHolding taken → IsHolding xs → left ≡ changed (left_of taken) xs → IsListOf (difference (bundle_of xs) (bundle_of taken)) left
rest_list xs taken left t h rest = record {
  holding = subst IsHolding (sym rest) (left_holding taken xs h);
  bundle = ap bundle_of rest ∙ left_difference taken xs t h;
}

pub left_list : (filter : Filter) (xs taken left : List Asset) → IsListOf (Taken filter (bundle_of xs)) taken → IsHolding xs → left ≡ changed (left_of taken) xs → IsListOf (Left filter (bundle_of xs)) left
unfolding Left
left_list filter xs taken left part h rest =
    subst (λ b. IsListOf (difference (bundle_of xs) b) left) part.bundle (rest_list xs taken left part.holding h rest)
