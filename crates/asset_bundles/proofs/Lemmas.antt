-- Proofs that a reader skips: the laws of filters, of joined bundles and of the book, and what they conserve.
-- src/laws.rt says the same.
pub mod Books
pub mod BundleLaws
pub mod Bundles
pub mod Changed
pub mod Portions
use Rattle.std.specs.Prelude.{◌≡◌, ℕ, zero, suc, ◌+◌, ◌-◌, ◌<◌, ◌≤◌, Bool, true, false, IsTrue, ◌||◌, min, take, get_or, List, [], ◌∷◌, refl}
use Rattle.std.specs.Ordering.{eq_by_cmp}
use Rattle.std.specs.List.{list_all, list_any}
use Rattle.std.proofs.lemmas.Bool.{and_parts}
use Rattle.std.proofs.Common.{sym, ap, ◌∙◌, subst, arith}
use Rattle.locations.specs.declared.grammar.Junction.{Junction}
use Rattle.locations.specs.declared.relative.Location.{Location}
use Rattle.amounts.proofs.Lemmas.Keys.{number_keys, keys_by, pair_keys}
use Rattle.amounts.specs.Rows.{amount_if, sum_where, rows_at}
use Rattle.amounts.proofs.Lemmas.Rows.{IsKeyOrder}
use Rattle.amounts.specs.Amounts.{amount, total, rows, empty, single, merge, from_rows, plus_all, map_keys, IsWithin, restriction}
use Rattle.amounts.proofs.Lemmas.AmountLaws.{same_amounts, total-rows, amount-total, amount-empty}
use Rattle.amounts.proofs.Lemmas.{key_same, some_key, amount-map_keys, amount-from_rows, rows-from_rows, amount-merge, amount-difference, total-merge, total-single, total-map_keys, merge-difference, IsWithin-restriction, IsWithin-lesser}
use Rattle.asset_lists.specs.declared.units.Kind.{Kind}
use Rattle.asset_lists.specs.declared.units.Asset.{Asset}
use Rattle.asset_lists.specs.declared.filters.Wild.{Wild}
use Rattle.asset_lists.specs.declared.filters.Filter.{Filter}
use Rattle.asset_lists.specs.Units.{Unit, unit_of, amount_of, unit_cmp}
use Rattle.asset_lists.specs.UnitLaws.{asset_id_total}
use Rattle.asset_lists.proofs.Lemmas.UnitLaws.{asset_id_exact}
use Rattle.asset_bundles.specs.Bundles.{Bundle, rows_of, bundle_of}
use Rattle.asset_bundles.proofs.Lemmas.Bundles.{unit_keys}
use Rattle.asset_bundles.proofs.Lemmas.BundleLaws.{same_bundles, amount-bundle_of}
use Rattle.asset_bundles.specs.Filters.{Taken, Left, first_kinds, is_all_of}
use Rattle.asset_bundles.specs.Changed.{with_amounts}
use Rattle.asset_bundles.proofs.Lemmas.Changed.{amount-with_amounts}
use Rattle.asset_bundles.specs.Joins.{most_of, within_most, above_most, Joined, Excess, IsWithinMost}
use Rattle.asset_bundles.specs.Landing.{renamed, Renamed}
use Rattle.asset_bundles.specs.declared.book.Cause.{Cause}
use Rattle.asset_bundles.specs.Books.{cause_index, Burn, burn_cmp, Burns, Book, most_burned, WithRoom, Booked, AreTotals, AreListed, excess_cause, burned_for, given_up, is_unit_where, is_burn_where}
use Rattle.asset_lists.specs.Listed.{kind_number, Listed, listed_cmp, listed_of, lists}
use Rattle.plain_lists.proofs.Lemmas.Facts.{positive_sum as of_either}

-- ---- filters
take_at_most : (p : Unit → Bool) (n : ℕ) (es : List (Unit × ℕ)) → sum_where p (take n es) ≤ sum_where p es
take_at_most p zero es = omega arith
take_at_most p (suc n) [] = omega arith
take_at_most p (suc n) (e ∷ es) = let rest = take_at_most p n es in omega (arith, rest)

pub first_within : (n : ℕ) (b : Bundle) → IsWithin (first_kinds n b) b
unfolding first_kinds
first_within n b q =
    let some = amount-from_rows unit_keys (take n (rows b)) q in
    let fewer = take_at_most (eq_by_cmp unit_cmp q) n (rows b) in
    let all : sum_where (eq_by_cmp unit_cmp q) (rows b) ≡ amount b q = total-rows (eq_by_cmp unit_cmp q) b ∙ sym (amount-total unit_keys b q) in
    omega (arith, some, fewer, all)

pub Taken-within : (filter : Filter) (b : Bundle) → IsWithin (Taken filter b) b
unfolding Taken
Taken-within (Filter.Definite list) b = (IsWithin-lesser unit_keys (bundle_of list) b).1
Taken-within (Filter.Wild Wild.All) b = λ q. omega arith
Taken-within (Filter.Wild (Wild.AllOf id fun)) b = IsWithin-restriction unit_keys (is_all_of id fun) b
Taken-within (Filter.Wild (Wild.AllCounted count)) b = first_within count b
Taken-within (Filter.Wild (Wild.AllOfCounted id fun count)) b = λ q.
    let first = first_within count (restriction (is_all_of id fun) b) q in
    let of_id = IsWithin-restriction unit_keys (is_all_of id fun) b q in
    omega (arith, first, of_id)

pub left_and_taken : (filter : Filter) (b : Bundle) → merge (Left filter b) (Taken filter b) ≡ b
unfolding Left
left_and_taken filter b = merge-difference unit_keys b (Taken filter b) (Taken-within filter b)

-- what a filter leaves and takes fits back into one bundle
pub fits_again : (filter : Filter) (b : Bundle) → IsWithinMost b → IsWithinMost (merge (Left filter b) (Taken filter b))
fits_again filter b within = subst IsWithinMost (sym (left_and_taken filter b)) within

-- ---- joins
none_within : (unit : Unit) → within_most unit 0 ≡ 0
none_within unit = omega arith

none_above : (unit : Unit) → above_most unit 0 ≡ 0
none_above unit = omega arith

pub amount-Joined : (m n : Bundle) (u : Unit) → amount (Joined m n) u ≡ min (amount m u + amount n u) (most_of u.1)
unfolding Joined
amount-Joined m n u = amount-with_amounts unit_keys within_most none_within (merge m n) u ∙ ap (within_most u) (amount-merge unit_keys m n u)

pub amount-Excess : (m n : Bundle) (u : Unit) → amount (Excess m n) u ≡ (amount m u + amount n u) - most_of u.1
unfolding Excess
amount-Excess m n u = amount-with_amounts unit_keys above_most none_above (merge m n) u ∙ ap (above_most u) (amount-merge unit_keys m n u)

pub joined_whole : (m n : Bundle) → merge (Joined m n) (Excess m n) ≡ merge m n
joined_whole m n = same_bundles _ _ (λ u.
    let whole = amount-merge unit_keys (Joined m n) (Excess m n) u in
    let stands = amount-Joined m n u in
    let rest = amount-Excess m n u in
    let both = amount-merge unit_keys m n u in
    omega (arith, whole, stands, rest, both))

-- ---- the book
kind_of_number : ℕ → Kind
kind_of_number n = get_or (Kind.Fungible ∷ Kind.Class ∷ []) n Kind.Fungible

kind_back : (k : Kind) → kind_of_number (kind_number k) ≡ k
unfolding kind_of_number
kind_back Kind.Fungible = refl
kind_back Kind.Class = refl

cause_of_number : ℕ → Cause
cause_of_number n = get_or (Cause.BurnAsset ∷ Cause.LostTeleport ∷ Cause.Merged ∷ Cause.Saturated ∷ []) n Cause.BurnAsset

cause_back : (c : Cause) → cause_of_number (cause_index c) ≡ c
unfolding cause_of_number
cause_back Cause.BurnAsset = refl
cause_back Cause.LostTeleport = refl
cause_back Cause.Merged = refl
cause_back Cause.Saturated = refl

pub listed_keys : IsKeyOrder listed_cmp
listed_keys = pair_keys (record { total = asset_id_total; exact = asset_id_exact })
    (keys_by kind_number (λ x y h. sym (kind_back x) ∙ ap kind_of_number h ∙ kind_back y) number_keys)

pub burn_keys : IsKeyOrder burn_cmp
burn_keys = pair_keys listed_keys (keys_by cause_index (λ x y h. sym (cause_back x) ∙ ap cause_of_number h ∙ cause_back y) number_keys)

no_room : (burns : Burns) (k : Burn) → min 0 (most_burned - amount burns k) ≡ 0
no_room burns k = omega arith

pub amount-Booked : (book : Book) (more : Burns) (k : Burn) → amount (Booked book more).burns k ≡ amount book.burns k + min (amount more k) (most_burned - amount book.burns k)
unfolding Booked WithRoom
amount-Booked book more k =
    amount-merge burn_keys book.burns (with_amounts (λ j n. min n (most_burned - amount book.burns j)) more) k
    ∙ ap (λ n. amount book.burns k + n) (amount-with_amounts burn_keys (λ j n. min n (most_burned - amount book.burns j)) (no_room book.burns) more k)

pub listed-Booked : (book : Book) (more : Burns) → (Booked book more).listed ≡ book.listed
unfolding Booked
listed-Booked book more = refl

-- two books are one
pub same_books : (b c : Book) → b.listed ≡ c.listed → ((k : Burn) → amount b.burns k ≡ amount c.burns k) → b ≡ c
same_books b c listed burns = λ i. record { listed = listed i; burns = same_amounts burn_keys b.burns c.burns burns i }

room_twice : (a m n end : ℕ) → (a + min m (end - a)) + min n (end - (a + min m (end - a))) ≡ a + min (m + n) (end - a)
room_twice a m n end = omega arith

-- it makes no difference whether burns are booked at once or one after the other
pub booked_again : (book : Book) (m n : Burns) → Booked (Booked book m) n ≡ Booked book (merge m n)
booked_again book m n = same_books _ _ (listed-Booked (Booked book m) n ∙ listed-Booked book m ∙ sym (listed-Booked book (merge m n))) (λ k.
    amount-Booked (Booked book m) n k
    ∙ ap (λ a. a + min (amount n k) (most_burned - a)) (amount-Booked book m k)
    ∙ room_twice (amount book.burns k) (amount m k) (amount n k) most_burned
    ∙ sym (amount-Booked book (merge m n) k ∙ ap (λ a. amount book.burns k + min a (most_burned - amount book.burns k)) (amount-merge burn_keys m n k)))

pub booked_nothing : (book : Book) → Booked book empty ≡ book
booked_nothing book = same_books _ _ (listed-Booked book empty) (λ k.
    let booked = amount-Booked book empty k in
    let none = amount-empty burn_keys k in
    omega (arith, booked, none))

-- totals that don't reach their end
pub booked_below : (book : Book) (more : Burns) → AreTotals (merge book.burns more) → (Booked book more).burns ≡ merge book.burns more
booked_below book more below = same_amounts burn_keys _ _ (λ k.
    let booked = amount-Booked book more k in
    let both = amount-merge burn_keys book.burns more k in
    let le = below k in
    omega (arith, booked, both, le))

pub booked_totals : (book : Book) (more : Burns) → AreTotals book.burns → AreTotals (Booked book more).burns
booked_totals book more totals k =
    let booked = amount-Booked book more k in
    let le = totals k in
    omega (arith, booked, le)

pub booked_least : (book : Book) (more : Burns) (k : Burn) → AreTotals book.burns → amount (Booked book more).burns k ≡ min (amount book.burns k + amount more k) most_burned
booked_least book more k totals =
    let booked = amount-Booked book more k in
    let le = totals k in
    omega (arith, booked, le)

-- ---- joins without excess
pub joined_within : (m n : Bundle) → IsWithinMost (merge m n) → Joined m n ≡ merge m n
joined_within m n within = same_bundles _ _ (λ u.
    let all = amount-Joined m n u in
    let both = amount-merge unit_keys m n u in
    let le = within u in
    omega (arith, all, both, le))

pub excess_within : (m n : Bundle) → IsWithinMost (merge m n) → Excess m n ≡ empty
excess_within m n within = same_bundles _ _ (λ u.
    let above = amount-Excess m n u in
    let both = amount-merge unit_keys m n u in
    let none = amount-empty unit_keys u in
    let le = within u in
    omega (arith, above, both, none, le))

rows-none : rows (empty {R = unit_cmp}) ≡ []
unfolding from_rows plus_all
rows-none = rows-from_rows unit_keys [] tt tt

pub given_up_within : (m n : Bundle) → IsWithinMost (merge m n) → given_up m n ≡ empty
unfolding given_up map_keys from_rows plus_all
given_up_within m n within =
    ap (λ (b : Bundle). map_keys (λ (unit : Unit). (listed_of unit, excess_cause unit.1)) b) (excess_within m n within)
    ∙ ap (λ (es : List (Unit × ℕ)). from_rows {R = burn_cmp} (rows_at (λ (unit : Unit). (listed_of unit, excess_cause unit.1)) es)) rows-none

pub booked_within : (book : Book) (m n : Bundle) → IsWithinMost (merge m n) → Booked book (given_up m n) ≡ book
booked_within book m n within = ap (Booked book) (given_up_within m n within) ∙ booked_nothing book

-- ---- listed assets
pub listed_within : (listed : List Listed) (b c : Bundle) → IsWithin c b → AreListed listed b → AreListed listed c
listed_within listed b c within all u some = let le = within u in all u (omega (arith, le, some))

pub listed_merged : (listed : List Listed) (m n : Bundle) → AreListed listed m → AreListed listed n → AreListed listed (merge m n)
listed_merged listed m n first second u some =
    of_either (lists listed (listed_of u) ≡ true) (amount m u) (amount n u) (first u) (second u) (subst (λ k. 0 < k) (amount-merge unit_keys m n u) some)

joined_at_most : (m n : Bundle) → IsWithin (Joined m n) (merge m n)
joined_at_most m n u = let all = amount-Joined m n u in let both = amount-merge unit_keys m n u in omega (arith, all, both)

excess_at_most : (m n : Bundle) → IsWithin (Excess m n) (merge m n)
excess_at_most m n u = let above = amount-Excess m n u in let both = amount-merge unit_keys m n u in omega (arith, above, both)

pub listed_joined : (listed : List Listed) (m n : Bundle) → AreListed listed m → AreListed listed n → AreListed listed (Joined m n)
listed_joined listed m n first second = listed_within listed (merge m n) (Joined m n) (joined_at_most m n) (listed_merged listed m n first second)

pub listed_excess : (listed : List Listed) (m n : Bundle) → AreListed listed m → AreListed listed n → AreListed listed (Excess m n)
listed_excess listed m n first second = listed_within listed (merge m n) (Excess m n) (excess_at_most m n) (listed_merged listed m n first second)

pub listed_none : (listed : List Listed) (m n : Bundle) → IsWithinMost (merge m n) → AreListed listed (Excess m n)
listed_none listed m n within u some =
    let none : amount (Excess m n) u ≡ 0 = ap (λ (b : Bundle). amount b u) (excess_within m n within) ∙ amount-empty unit_keys u in
    absurd (omega (arith, none, some))

left_at_most : (filter : Filter) (b : Bundle) → IsWithin (Left filter b) b
unfolding Left
left_at_most filter b u = let left = amount-difference unit_keys b (Taken filter b) u in omega (arith, left)

pub listed_taken : (listed : List Listed) (filter : Filter) (b : Bundle) → AreListed listed b → AreListed listed (Taken filter b)
listed_taken listed filter b = listed_within listed b (Taken filter b) (Taken-within filter b)

pub listed_left : (listed : List Listed) (filter : Filter) (b : Bundle) → AreListed listed b → AreListed listed (Left filter b)
listed_left listed filter b = listed_within listed b (Left filter b) (left_at_most filter b)

list_listed : (listed : List Listed) (xs : List Asset) → list_all (λ a. lists listed (listed_of (unit_of a))) xs ≡ true → (u : Unit)
    → 0 < sum_where (eq_by_cmp unit_cmp u) (rows_of xs) → lists listed (listed_of u) ≡ true
list_listed listed [] all u some = absurd (omega (arith, some))
list_listed listed (a ∷ xs) all u some =
    let parts = and_parts (lists listed (listed_of (unit_of a))) (list_all (λ b. lists listed (listed_of (unit_of b))) xs) all in
    elim (eq_by_cmp unit_cmp u (unit_of a)) as (λ b. eq_by_cmp unit_cmp u (unit_of a) ≡ b → 0 < amount_if b (amount_of a) + sum_where (eq_by_cmp unit_cmp u) (rows_of xs) → lists listed (listed_of u) ≡ true) [
      | true ↦ λ t _. ap (λ v. lists listed (listed_of v)) (key_same unit_keys u (unit_of a) t) ∙ parts.0
      | false ↦ λ t more. list_listed listed xs parts.1 u (omega (arith, more))
    ] refl some

in_list : (xs : List Asset) (u : Unit) → 0 < sum_where (eq_by_cmp unit_cmp u) (rows_of xs) → list_any (λ a. eq_by_cmp unit_cmp u (unit_of a)) xs ≡ true
in_list [] u some = absurd (omega (arith, some))
in_list (a ∷ xs) u some =
    elim (eq_by_cmp unit_cmp u (unit_of a)) as (λ b. 0 < amount_if b (amount_of a) + sum_where (eq_by_cmp unit_cmp u) (rows_of xs) → (b || list_any (λ x. eq_by_cmp unit_cmp u (unit_of x)) xs) ≡ true) [
      | true ↦ λ _. refl
      | false ↦ λ more. in_list xs u (omega (arith, more))
    ] some

-- a list of listed assets
pub listed_list : (listed : List Listed) (xs : List Asset) → list_all (λ a. lists listed (listed_of (unit_of a))) xs ≡ true → AreListed listed (bundle_of xs)
listed_list listed xs all u some = list_listed listed xs all u (subst (λ n. 0 < n) (amount-bundle_of xs u) some)

-- an asset of a list for each unit of its bundle
pub asset_of_unit : (xs : List Asset) (u : Unit) → 0 < amount (bundle_of xs) u → IsTrue (list_any (λ a. eq_by_cmp unit_cmp u (unit_of a)) xs)
asset_of_unit xs u some = in_list xs u (subst (λ n. 0 < n) (amount-bundle_of xs u) some)

-- a landed bundle is listed where the new name of each unit is
pub listed_landed : (listed : List Listed) (target : Location) (context : List Junction) (b : Bundle)
    → ((u : Unit) → 0 < amount b u → IsTrue (lists listed (listed_of (renamed target context u)))) → AreListed listed (Renamed target context b)
unfolding Renamed
listed_landed listed target context b named v some =
    let held = some_key unit_keys (λ u. eq_by_cmp unit_cmp v (renamed target context u)) b (subst (λ n. 0 < n) (amount-map_keys {S = unit_cmp} unit_keys (renamed target context) b v) some) in
    ap (λ w. lists listed (listed_of w)) (key_same unit_keys v (renamed target context held.0) held.1) ∙ named held.0 held.2

-- ---- what they conserve
pub joined_total : (p : Unit → Bool) (m n : Bundle) → total p (Joined m n) + total p (Excess m n) ≡ total p m + total p n
joined_total p m n =
    sym (total-merge unit_keys p (Joined m n) (Excess m n)) ∙ ap (total p) (joined_whole m n) ∙ total-merge unit_keys p m n

pub burned_for_total : (test : Listed → Bool) (cause : Cause) (b : Bundle) → total (is_burn_where test) (burned_for cause b) ≡ total (is_unit_where test) b
unfolding burned_for
burned_for_total test cause b = total-map_keys {S = unit_cmp} burn_keys (is_burn_where test) (λ (unit : Unit). (listed_of unit, cause)) b

pub given_up_total : (test : Listed → Bool) (m n : Bundle) → total (is_burn_where test) (given_up m n) ≡ total (is_unit_where test) (Excess m n)
unfolding given_up
given_up_total test m n = total-map_keys {S = unit_cmp} burn_keys (is_burn_where test) (λ (unit : Unit). (listed_of unit, excess_cause unit.1)) (Excess m n)

pub joined_conserves : (test : Listed → Bool) (m n : Bundle) (burns : Burns)
    → total (is_unit_where test) (Joined m n) + total (is_burn_where test) (merge burns (given_up m n))
    ≡ (total (is_unit_where test) m + total (is_unit_where test) n) + total (is_burn_where test) burns
joined_conserves test m n burns =
    let booked = total-merge burn_keys (is_burn_where test) burns (given_up m n) in
    let rest = given_up_total test m n in
    let both = joined_total (is_unit_where test) m n in
    omega (arith, booked, rest, both)

pub burned_conserves : (test : Listed → Bool) (cause : Cause) (b : Bundle) (burns : Burns)
    → total (is_burn_where test) (merge burns (burned_for cause b)) ≡ total (is_unit_where test) b + total (is_burn_where test) burns
burned_conserves test cause b burns =
    let booked = total-merge burn_keys (is_burn_where test) burns (burned_for cause b) in
    let same = burned_for_total test cause b in
    omega (arith, booked, same)

pub added_conserves : (test : Listed → Bool) (k : Listed) (cause : Cause) (n : ℕ) (burns : Burns)
    → total (is_burn_where test) (merge burns (single (k, cause) n)) ≡ amount_if (test k) n + total (is_burn_where test) burns
added_conserves test k cause n burns =
    let booked = total-merge burn_keys (is_burn_where test) burns (single (k, cause) n) in
    let one = total-single burn_keys (is_burn_where test) (k, cause) n in
    omega (arith, booked, one)

pub taken_conserves : (p : Unit → Bool) (filter : Filter) (b : Bundle) → total p (Left filter b) + total p (Taken filter b) ≡ total p b
taken_conserves p filter b = sym (total-merge unit_keys p (Left filter b) (Taken filter b)) ∙ ap (total p) (left_and_taken filter b)

pub landed_conserves : (p : Unit → Bool) (target : Location) (context : List Junction) (b : Bundle)
    → total p (Renamed target context b) ≡ total (λ u. p (renamed target context u)) b
unfolding Renamed
landed_conserves p target context b = total-map_keys {S = unit_cmp} unit_keys p (renamed target context) b
