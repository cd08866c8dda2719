-- All assets of a list, booked one after the other.
use Rattle.std.proofs.Common.{◌≡◌, ℕ, zero, suc, ◌+◌, ◌<◌, ◌≤◌, Bool, true, List, [], ◌∷◌, ◌++◌, length, get_or, take, refl, sym, ap, ◌∙◌, arith}
use Rattle.std.specs.List.{list_all}
use Rattle.std.specs.Ordering.{eq_by_cmp}
use Rattle.std.proofs.lemmas.Bool.{and_from, and_parts}
use Rattle.std.proofs.lemmas.List.{take_more}
use Rattle.amounts.specs.Rows.{rows_at, sum_where, amount_if, IsPositive}
use Rattle.amounts.specs.Amounts.{amount, empty, from_rows, merge, single, map_keys}
use Rattle.amounts.proofs.Lemmas.AmountLaws.{same_amounts, amount-empty}
use Rattle.amounts.proofs.Lemmas.{amount-from_rows, amount-single, from_rows-append, same_key}
use Rattle.asset_lists.specs.declared.units.Asset.{Asset}
use Rattle.asset_lists.specs.declared.units.Kind.{Kind}
use Rattle.asset_lists.specs.Units.{Unit, unit_of, amount_of, unit_cmp, instance_in}
use Rattle.asset_bundles.specs.declared.book.Cause.{Cause}
use Rattle.asset_bundles.specs.Bundles.{Bundle, rows_of, bundle_of, IsHolding}
use Rattle.asset_bundles.proofs.Lemmas.Bundles.{unit_keys}
use Rattle.asset_bundles.proofs.Lemmas.BundleLaws.{amount-bundle_of, map_keys-bundle_of}
use Rattle.asset_bundles.specs.Joins.{Excess}
use Rattle.asset_bundles.specs.Books.{Burn, burn_cmp, Burns, Book, Booked, AreListed, burned_for, given_up, excess_cause}
use Rattle.asset_lists.specs.Listed.{Listed, kind_of, listed_of, lists}
use Rattle.asset_bundles.proofs.Lemmas.{burn_keys, booked_again, booked_nothing}

no_rows : from_rows {R = burn_cmp} [] ≡ empty
no_rows = same_amounts burn_keys _ _ (λ q. amount-from_rows burn_keys [] q ∙ sym (amount-empty burn_keys q))

abbrev pub burn_of : Cause → Unit → Burn
burn_of cause unit = (listed_of unit, cause)

pub booked_none : (book : Book) → book ≡ Booked book (from_rows [])
booked_none book = sym (ap (Booked book) no_rows ∙ booked_nothing book)

one_row : (k : Burn) (n : ℕ) → from_rows {R = burn_cmp} ((k, n) ∷ []) ≡ single k n
one_row k n = same_amounts burn_keys _ _ (λ q. let all = amount-from_rows burn_keys ((k, n) ∷ []) q in let one = amount-single burn_keys k n q in omega (arith, all, one))

booked_push : (book : Book) (es : List (Burn × ℕ)) (k : Burn) (n : ℕ) → Booked (Booked book (from_rows es)) (single k n) ≡ Booked book (from_rows (es ++ (k, n) ∷ []))
booked_push book es k n =
    booked_again book (from_rows es) (single k n)
    ∙ ap (Booked book) (ap (λ m. merge (from_rows es) m) (sym (one_row k n)) ∙ sym (from_rows-append burn_keys es ((k, n) ∷ [])))

rows-push : (burn : Unit → Burn) (xs : List Asset) (a : Asset) → rows_at burn (rows_of (xs ++ a ∷ [])) ≡ rows_at burn (rows_of xs) ++ (burn (unit_of a), amount_of a) ∷ []
rows-push burn [] a = refl
rows-push burn (x ∷ xs) a = ap (λ es. (burn (unit_of x), amount_of x) ∷ es) (rows-push burn xs a)

booked_more : (burn : Unit → Burn) (xs : List Asset) (i : ℕ) (a : Asset) (first before next : Book) → i < length xs → a ≡ get_or xs i a
    → next ≡ Booked before (single (burn (unit_of a)) (amount_of a))
    → before ≡ Booked first (from_rows (rows_at burn (rows_of (take i xs))))
    → next ≡ Booked first (from_rows (rows_at burn (rows_of (take (i + 1) xs))))
booked_more burn xs i a first before next inside is added so_far =
    added ∙ ap (λ b. Booked b (single (burn (unit_of a)) (amount_of a))) so_far
    ∙ booked_push first (rows_at burn (rows_of (take i xs))) (burn (unit_of a)) (amount_of a)
    ∙ ap (λ es. Booked first (from_rows es)) (sym (rows-push burn (take i xs) a))
    ∙ ap (λ ys. Booked first (from_rows (rows_at burn (rows_of ys)))) (ap (λ x. take i xs ++ x ∷ []) is ∙ sym (take_more xs i a inside))

listed_at : (p : Asset → Bool) (xs : List Asset) (i : ℕ) (a : Asset) → list_all p xs ≡ true → i < length xs → a ≡ get_or xs i a → p a ≡ true
listed_at p [] i a all inside is = absurd (omega (arith, inside))
listed_at p (x ∷ xs) zero a all inside is = ap p is ∙ (and_parts (p x) (list_all p xs) all).0
listed_at p (x ∷ xs) (suc i) a all inside is = listed_at p xs i a (and_parts (p x) (list_all p xs) all).1 (omega (arith, inside)) is

-- one asset booked
pub booked_item : (burn : Unit → Burn) (xs : List Asset) (i : ℕ) (a : Asset) (first before next : Book) (kind : Kind) (cause : Cause) (n : ℕ) → i < length xs → a ≡ get_or xs i a
    → next ≡ Booked before (single ((a.id, kind), cause) n) → kind ≡ kind_of (instance_in a.fun) → (listed_of (unit_of a), cause) ≡ burn (unit_of a) → n ≡ amount_of a
    → before ≡ Booked first (from_rows (rows_at burn (rows_of (take i xs))))
    → next ≡ Booked first (from_rows (rows_at burn (rows_of (take (i + 1) xs))))
booked_item burn xs i a first before next kind cause n inside is added kind_is burn_is amount_is so_far =
    booked_more burn xs i a first before next inside is
    (added ∙ ap (λ k. Booked before (single ((a.id, k), cause) n)) kind_is ∙ ap (λ b. Booked before (single b n)) burn_is ∙ ap (λ m. Booked before (single (burn (unit_of a)) m)) amount_is)
    so_far

-- booking leaves the rows as they are
pub listed_item : (xs : List Asset) (i : ℕ) (a : Asset) (first before : Book) (more : Burns) (kind : Kind) → list_all (λ x. lists first.listed (listed_of (unit_of x))) xs ≡ true
    → i < length xs → a ≡ get_or xs i a → kind ≡ kind_of (instance_in a.fun) → before ≡ Booked first more → lists before.listed (a.id, kind) ≡ true
unfolding Booked
listed_item xs i a first before more kind all inside is kind_is so_far =
    ap (λ k. lists before.listed (a.id, k)) kind_is ∙ ap (λ b. lists b.listed (listed_of (unit_of a))) so_far ∙ listed_at (λ x. lists first.listed (listed_of (unit_of x))) xs i a all inside is

listed_up_to : (listed : List Listed) (most : Unit → ℕ) (xs : List Asset) → IsPositive (rows_of xs) → ((u : Unit) → sum_where (eq_by_cmp unit_cmp u) (rows_of xs) ≤ most u)
    → ((u : Unit) → 0 < most u → lists listed (listed_of u) ≡ true) → list_all (λ a. lists listed (listed_of (unit_of a))) xs ≡ true
listed_up_to listed most [] positive within covered = refl
listed_up_to listed most (a ∷ xs) positive within covered =
    let all = within (unit_of a) in
    let some = positive.0 in
    let here : amount_if (eq_by_cmp unit_cmp (unit_of a) (unit_of a)) (amount_of a) ≡ amount_of a = ap (λ b. amount_if b (amount_of a)) (same_key unit_keys (unit_of a)) in
    and_from _ _ (covered (unit_of a) (omega (arith, all, here, some)))
    (listed_up_to listed most xs positive.1 (λ u. let more = within u in omega (arith, more)) covered)

pub all_listed : (book : Book) (xs : List Asset) → IsHolding xs → AreListed book.listed (bundle_of xs) → list_all (λ a. lists book.listed (listed_of (unit_of a))) xs ≡ true
all_listed book xs h covered = listed_up_to book.listed (λ u. amount (bundle_of xs) u) xs h.positive (λ u. let e = amount-bundle_of xs u in omega (arith, e)) covered

pub burned_rows : (cause : Cause) (xs : List Asset) → IsHolding xs → from_rows (rows_at (burn_of cause) (rows_of xs)) ≡ burned_for cause (bundle_of xs)
unfolding burned_for
burned_rows cause xs h = map_keys-bundle_of (burn_of cause) xs h

-- what a join gives up
abbrev pub excess_of : Unit → Burn
excess_of unit = (listed_of unit, excess_cause unit.1)

pub given_up_rows : (m n : Bundle) (xs : List Asset) → IsHolding xs → bundle_of xs ≡ Excess m n → from_rows (rows_at excess_of (rows_of xs)) ≡ given_up m n
unfolding given_up
given_up_rows m n xs h is = map_keys-bundle_of excess_of xs h ∙ ap (map_keys excess_of) is
