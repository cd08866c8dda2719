-- Lists that are taken or joined whole, and one asset taken from a list.
use Rattle.std.proofs.Common.{◌≡◌, ℕ, zero, suc, ◌+◌, ◌-◌, ◌<◌, ◌≤◌, Bool, true, false, List, [], ◌∷◌, length, refl, sym, ap, ◌∙◌, subst, arith}
use Rattle.std.specs.Prelude.{nat_eq, min, take}
use Rattle.std.specs.Ordering.{eq_by_cmp}
use Rattle.std.proofs.lemmas.List.{nil_from_length}
use Rattle.std.specs.List.Sorted.{IsStrictlySortedBy}
use Rattle.amounts.specs.Rows.{IsPositive, amount_if}
use Rattle.amounts.specs.Amounts.{amount, empty, merge, minus, difference, IsWithin}
use Rattle.amounts.proofs.Lemmas.AmountLaws.{amount-empty}
use Rattle.amounts.proofs.Lemmas.{key_same, same_key, amount-minus, amount-difference}
use Rattle.asset_lists.specs.declared.units.Asset.{Asset}
use Rattle.asset_lists.specs.declared.filters.Wild.{Wild}
use Rattle.asset_lists.specs.declared.filters.Filter.{Filter}
use Rattle.asset_lists.specs.Units.{Unit, unit_of, amount_of, unit_cmp, is_zero}
use Rattle.asset_bundles.specs.Bundles.{Bundle, rows_of, bundle_of, found, IsHolding}
use Rattle.asset_bundles.proofs.Lemmas.Bundles.{unit_keys}
use Rattle.asset_bundles.proofs.Lemmas.BundleLaws.{same_bundles, amount-bundle_of, bundle_of-none, found-holding}
use Rattle.asset_bundles.specs.Filters.{Taken, Left}
use Rattle.asset_bundles.specs.Joins.{most_of, Joined, Excess, IsListOf}
use Rattle.asset_bundles.proofs.Lemmas.{amount-Joined, amount-Excess, left_and_taken}
use Rattle.asset_bundles.specs.Portions.{changed, AreWithinMost}
use Rattle.asset_bundles.proofs.Giving.{all_kept}
use Rattle.asset_bundles.proofs.Parts.{taken_list}
use Rattle.asset_bundles.proofs.SumFacts.{take_whole, within_most_of}

-- ---- a filter that takes all
pub all_taken : (filter : Filter) (xs : List Asset) → IsHolding xs → filter ≡ Filter.Wild Wild.All → IsListOf (Taken filter (bundle_of xs)) xs
all_taken filter xs h is =
    subst (λ f. IsListOf (Taken f (bundle_of xs)) xs) (sym is) (taken_list (Filter.Wild Wild.All) xs xs tt h (sym (all_kept xs h.positive)))

pub all_counted : (filter : Filter) (count : ℕ) (xs : List Asset) → IsHolding xs → filter ≡ Filter.Wild (Wild.AllCounted count) → length xs ≤ count → IsListOf (Taken filter (bundle_of xs)) xs
all_counted filter count xs h is few =
    subst (λ f. IsListOf (Taken f (bundle_of xs)) xs) (sym is)
    (taken_list (Filter.Wild (Wild.AllCounted count)) xs xs tt h (sym (ap (take count) (all_kept xs h.positive) ∙ take_whole count xs few)))

-- nothing is left
pub none_left : (filter : Filter) (b : Bundle) (ys : List Asset) → Taken filter b ≡ b → ys ≡ [] → bundle_of ys ≡ Left filter b
unfolding Left
none_left filter b ys all none = ap bundle_of none ∙ bundle_of-none ∙ same_bundles _ _ (λ u.
    let nothing = amount-empty unit_keys u in
    let less = amount-difference unit_keys b (Taken filter b) u in
    let same : amount (Taken filter b) u ≡ amount b u = ap (λ c. amount c u) all in
    omega (arith, nothing, less, same))

pub all_of : (filter : Filter) (zs : List Asset) (b : Bundle) → IsListOf (Taken filter (bundle_of zs)) zs → bundle_of zs ≡ b → Taken filter b ≡ b
all_of filter zs b list same = ap (Taken filter) (sym same) ∙ sym list.bundle ∙ same

pub none_and_all : (filter : Filter) (b : Bundle) (ys xs : List Asset) → Taken filter b ≡ b → ys ≡ [] → bundle_of xs ≡ b → merge (bundle_of ys) (bundle_of xs) ≡ b
none_and_all filter b ys xs all none is = (λ i. merge (none_left filter b ys all none i) ((is ∙ sym all) i)) ∙ left_and_taken filter b

-- ---- joined to nothing
is_none : (n : ℕ) → nat_eq n 0 ≡ true → n ≡ 0
is_none n none = grind (arith, none)

pub no_items : (n : ℕ) (xs : List Asset) → n ≡ length xs → nat_eq n 0 ≡ true → xs ≡ []
no_items n xs is none = nil_from_length xs (sym is ∙ is_none n none)

nothing_in : (xs : List Asset) (m : Bundle) (u : Unit) → xs ≡ [] → bundle_of xs ≡ m → amount m u ≡ 0
nothing_in xs m u none is = ap (λ b. amount b u) (sym is ∙ ap bundle_of none ∙ bundle_of-none) ∙ amount-empty unit_keys u

pub joined_to_none : (xs ys : List Asset) (m n : Bundle) → xs ≡ [] → bundle_of xs ≡ m → IsHolding ys → AreWithinMost ys → bundle_of ys ≡ n → bundle_of ys ≡ Joined m n
joined_to_none xs ys m n none first k most second = same_bundles _ _ (λ u.
    let joined = amount-Joined m n u in
    let left = nothing_in xs m u none first in
    let right : amount (bundle_of ys) u ≡ amount n u = ap (λ b. amount b u) second in
    let within = within_most_of n ys k most second u in
    omega (arith, joined, left, right, within))

pub none_above : (xs ys : List Asset) (m n : Bundle) → xs ≡ [] → bundle_of xs ≡ m → IsHolding ys → AreWithinMost ys → bundle_of ys ≡ n → bundle_of [] ≡ Excess m n
none_above xs ys m n none first k most second = bundle_of-none ∙ same_bundles _ _ (λ u.
    let nothing = amount-empty unit_keys u in
    let excess = amount-Excess m n u in
    let left = nothing_in xs m u none first in
    let within = within_most_of n ys k most second u in
    omega (arith, nothing, excess, left, within))

-- ---- one asset
amount_one : (a : Asset) (u : Unit) → amount (bundle_of (a ∷ [])) u ≡ amount_if (eq_by_cmp unit_cmp u (unit_of a)) (amount_of a)
amount_one a u = let all = amount-bundle_of (a ∷ []) u in omega (arith, all)

pub one_says : (a : Asset) (b : Bundle) → IsWithin (bundle_of (a ∷ [])) b → amount_of a ≤ amount b (unit_of a)
one_says a b within =
    let one = amount_one a (unit_of a) in
    let same : amount_if (eq_by_cmp unit_cmp (unit_of a) (unit_of a)) (amount_of a) ≡ amount_of a = ap (λ (t : Bool). amount_if t (amount_of a)) (same_key unit_keys (unit_of a)) in
    let le = within (unit_of a) in
    omega (arith, one, same, le)

if_within : (b : Bool) (n m : ℕ) → (b ≡ true → n ≤ m) → amount_if b n ≤ m
if_within true n m h = h refl
if_within false n m h = omega arith

pub one_within : (a : Asset) (b : Bundle) → amount_of a ≤ amount b (unit_of a) → IsWithin (bundle_of (a ∷ [])) b
one_within a b le u =
    subst (λ (n : ℕ). n ≤ amount b u) (sym (amount_one a u))
    (if_within (eq_by_cmp unit_cmp u (unit_of a)) (amount_of a) (amount b u) (λ t. subst (λ (v : Unit). amount_of a ≤ amount b v) (sym (key_same unit_keys u (unit_of a) t)) le))

pub found_held : (u : Unit) (zs xs : List Asset) (b : Bundle) (n : ℕ) → n ≡ found u zs → zs ≡ xs → IsHolding xs → bundle_of xs ≡ b → n ≡ amount b u
found_held u zs xs b n is same h bundle = is ∙ ap (found u) same ∙ found-holding xs u h ∙ ap (λ c. amount c u) bundle

pub minus_one : (b : Bundle) (a : Asset) → minus b (unit_of a) (amount_of a) ≡ difference b (bundle_of (a ∷ []))
minus_one b a = same_bundles _ _ (λ u.
    let less = amount-minus unit_keys b (unit_of a) (amount_of a) u in
    let one = amount_one a u in
    let both = amount-difference unit_keys b (bundle_of (a ∷ [])) u in
    omega (arith, less, one, both))

some_amount : (n : ℕ) → nat_eq n 0 ≡ false → 0 < n
some_amount zero is = absurd (cc)
some_amount (suc n) is = omega arith

pub one_holding : (a : Asset) → is_zero a ≡ false → IsHolding (a ∷ [])
unfolding IsStrictlySortedBy
one_holding a some = record { rising = (tt, tt); positive = (some_amount (amount_of a) some, tt) }
