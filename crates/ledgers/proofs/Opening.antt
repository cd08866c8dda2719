-- A ledger with nothing, and deposits of what a bundle holds.
use Rattle.std.proofs.Common.{◌≡◌, ℕ, zero, suc, ◌+◌, ◌-◌, ◌^◌, ◌<◌, ◌≤◌, Bool, true, false, ◌&&◌, if◌then◌else◌, List, [], ◌∷◌, length, refl, sym, ap, ◌∙◌, subst, arith, true≢false}
use Rattle.std.specs.Prelude.{Option, None, Some, slice_get, nat_lt}
use Rattle.std.specs.Ordering.{eq_by_cmp}
use Rattle.std.specs.List.{IsDistinct, AllByRecursion, list_all}
use Rattle.std.specs.List.Sorted.{IsStrictlySortedBy}
use Rattle.std.proofs.lemmas.Bool.{and_from}
use Rattle.std.proofs.lemmas.Map.Keys.{any_passes_from_place}
use Rattle.amounts.specs.Rows.{IsPositive, sum_where, amount_if}
use Rattle.amounts.specs.Amounts.{amount, total, empty, rows}
use Rattle.amounts.proofs.Lemmas.AmountLaws.{rows_positive, total-empty, total-rows, amount-total}
use Rattle.amounts.specs.Entries.{from_entries}
use Rattle.amounts.proofs.Lemmas.{same_key, amount_at_most}
use Rattle.asset_lists.specs.declared.units.Kind.{Kind}
use Rattle.asset_lists.specs.declared.units.Fun.{Fun}
use Rattle.asset_lists.specs.declared.units.Asset.{Asset}
use Rattle.asset_lists.specs.Units.{Unit, unit_of, unit_cmp}
use Rattle.asset_bundles.specs.Bundles.{Bundle, assets_of_rows, held_assets}
use Rattle.asset_bundles.proofs.Lemmas.Bundles.{unit_keys}
use Rattle.asset_lists.specs.Listed.{Listed, listed_cmp, listed_of, lists}
use Rattle.asset_bundles.proofs.Lemmas.{listed_keys}
use Rattle.asset_bundles.specs.declared.wide_sum.WideSum.{WideSum}
use Rattle.asset_bundles.specs.Totals.{wide_value}
use Rattle.asset_bundles.specs.Books.{AreListed}
use Rattle.ledgers.specs.Ledgers.{Holder, Held, is_account, is_holding_of, owners_of, number_in, is_barred, is_barred_fun, barred}
use Rattle.ledgers.specs.LedgerRows.{owner_key_cmp, held_in, IsSound}
use Rattle.ledgers.specs.RowState.{may_take}
use Rattle.ledgers.specs.AccountRows.{MayTakeAll}
use Rattle.ledgers.proofs.Lemmas.{holder_keys}
use Rattle.ledgers.proofs.Numbers.{number_at}
use Rattle.ledgers.proofs.Holding.{unit_back}

-- ---- a list without repeats
apart_from_later : (k : Listed) (xs : List Listed) (j : ℕ) → AllByRecursion (λ y. eq_by_cmp listed_cmp k y ≡ false) xs → slice_get xs j ≡ Some k → ⊥
apart_from_later k [] j all at = absurd (cc)
apart_from_later k (x ∷ xs) zero all at = (let same : x ≡ k = cc in true≢false (sym (subst (λ y. eq_by_cmp listed_cmp k y ≡ true) (sym same) (same_key listed_keys k)) ∙ all.0))
apart_from_later k (x ∷ xs) (suc j) all at = apart_from_later k xs j all.1 at

once_place : (xs : List Listed) → IsDistinct (eq_by_cmp listed_cmp) xs → (i j : ℕ) (k : Listed) → slice_get xs i ≡ Some k → slice_get xs j ≡ Some k → i ≡ j
unfolding IsDistinct
once_place [] distinct i j k a b = absurd (cc)
once_place (x ∷ xs) distinct zero zero k a b = refl
once_place (x ∷ xs) distinct zero (suc j) k a b = (let same : x ≡ k = cc in absurd (apart_from_later x xs j distinct.0 (b ∙ ap Some (sym same))))
once_place (x ∷ xs) distinct (suc i) zero k a b = (let same : x ≡ k = cc in absurd (apart_from_later x xs i distinct.0 (a ∙ ap Some (sym same))))
once_place (x ∷ xs) distinct (suc i) (suc j) k a b = ap (λ n. suc n) (once_place xs distinct.1 i j k a b)

pub nothing_held : (listed : List Listed) → held_in listed [] [] ≡ empty
unfolding held_in from_entries
nothing_held listed = refl

no_rows : IsStrictlySortedBy owner_key_cmp []
unfolding IsStrictlySortedBy
no_rows = tt

pub opened : (listed : List Listed) (sums : List WideSum) → IsDistinct (eq_by_cmp listed_cmp) listed → length sums ≡ length listed → ((k : ℕ) (s : WideSum) → slice_get sums k ≡ Some s → wide_value s ≡ 0) → IsSound listed [] [] sums
opened listed sums distinct many zeros = record {
  once = record { place = once_place listed distinct };
  small = tt;
  sorted = no_rows;
  counted = λ n who id at. sym (ap (total (λ h. is_account who h && is_holding_of (id, Kind.Class) h)) (nothing_held listed) ∙ total-empty holder_keys (λ h. is_account who h && is_holding_of (id, Kind.Class) h));
  numbered = λ n who some. absurd (omega (arith, some));
  as_many = many;
  summed = λ n asset s at is. zeros n s is ∙ sym (ap (total (is_holding_of asset)) (nothing_held listed) ∙ total-empty holder_keys (is_holding_of asset));
}

-- ---- what a bundle holds is listed
one_here : (b : Bool) (n m h : ℕ) → amount_if b n + m ≤ h → b ≡ true → 0 < n → 0 < h
one_here true n m h le t some = omega (arith, le, some)
one_here false n m h le t some = absurd (true≢false (sym t))

listed_rows : (listed : List Listed) (goods : Bundle) (es : List (Unit × ℕ)) → AreListed listed goods → IsPositive es → ((u : Unit) → sum_where (eq_by_cmp unit_cmp u) es ≤ amount goods u)
    → list_all (λ a. lists listed (listed_of (unit_of a))) (assets_of_rows es) ≡ true
listed_rows listed goods [] are positive within = refl
listed_rows listed goods (e ∷ es) are positive within =
    let some : 0 < amount goods e.0 = one_here (eq_by_cmp unit_cmp e.0 e.0) e.1 _ _ (within e.0) (same_key unit_keys e.0) positive.0 in
    and_from _ _ (ap (λ u. lists listed (listed_of u)) (unit_back e) ∙ are e.0 some)
    (listed_rows listed goods es are positive.1 (λ u. let le = within u in omega (arith, le)))

pub goods_listed : (listed : List Listed) (goods : Bundle) → AreListed listed goods → list_all (λ a. lists listed (listed_of (unit_of a))) (held_assets goods) ≡ true
unfolding held_assets
goods_listed listed goods are = listed_rows listed goods (rows goods) are (rows_positive goods) (λ u.
    let all : sum_where (eq_by_cmp unit_cmp u) (rows goods) ≡ amount goods u = total-rows (eq_by_cmp unit_cmp u) goods ∙ sym (amount-total unit_keys goods u) in
    omega (arith, all))

-- ---- what isn't barred may be taken in
le_most : (n m : ℕ) → nat_lt n m ≡ false → m ≤ n
le_most n m h = grind (arith, h)

may_fun : (fun : Fun) (held : Held) (who : List ℕ) (unit : Unit) → is_barred_fun fun (amount held (who, unit)) (owners_of unit held) ≡ false → may_take fun who unit held
may_fun (Fun.Fungible n) held who unit free = le_most (2 ^ 128 - 1) (amount held (who, unit) + n) free
may_fun (Fun.NonFungible i) held who unit free = λ w.
    let none = le_most 0 (owners_of unit held) free in
    let most = amount_at_most holder_keys (λ (h : Holder). eq_by_cmp unit_cmp unit h.1) held (w, unit) (same_key unit_keys unit) in
    omega (arith, none, most)

not_found : (b : Bool) (a : Asset) (rest : Option Asset) → (if b then Some a else rest) ≡ None → (b ≡ false) × (rest ≡ None)
not_found true a rest h = absurd (cc)
not_found false a rest h = (refl, h)

pub may_all : (held : Held) (who : List ℕ) (xs : List Asset) → barred held who xs ≡ None → MayTakeAll held who xs
may_all held who [] none = tt
may_all held who (a ∷ xs) none =
    let parts = not_found (is_barred held who a) a (barred held who xs) none in
    (may_fun a.fun held who (unit_of a) parts.0, may_all held who xs parts.1)

-- ---- what has a number is listed
pub listed_by_number : (listed : List Listed) (k : Listed) (n : ℕ) → number_in listed k ≡ Some n → lists listed k ≡ true
listed_by_number listed k n is = any_passes_from_place (eq_by_cmp listed_cmp k) listed n k (number_at listed k n is) (same_key listed_keys k)
