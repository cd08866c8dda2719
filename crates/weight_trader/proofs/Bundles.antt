-- Bundles of what is paid.
use Rattle.std.proofs.Common.{◌≡◌, ℕ, ◌+◌, ◌<◌, ◌≤◌, Bool, true, false, cond, List, [], ◌∷◌, length, get_or, drop, map, None, refl, sym, ap, ◌∙◌, add-one, arith, drop-cons}
use Rattle.std.specs.Prelude.{if◌then◌else◌, ◌&&◌}
use Rattle.std.specs.List.{count_by}
use Rattle.std.specs.Ordering.{eq_by_cmp}
use Rattle.std.specs.Cmp.{eq_by_cmp_equiv}
use Rattle.std.proofs.lemmas.List.{drop_all}
use Rattle.amounts.specs.Rows.{amount_if, sum_where}
use Rattle.amounts.proofs.Lemmas.Rows.{amount_if-zero}
use Rattle.amounts.specs.Amounts.{amount, single, minus}
use Rattle.amounts.proofs.Lemmas.{amount-minus, amount-single, amount-from_rows}
use Rattle.locations.specs.declared.relative.Location.{Location}
use Rattle.asset_lists.specs.declared.units.AssetId.TheVariants.{Concrete}
use Rattle.asset_lists.specs.declared.units.Asset.{Asset}
use Rattle.asset_lists.specs.Units.{Unit, unit_of, amount_of, unit_cmp}
use Rattle.asset_bundles.specs.Bundles.{Bundle, rows_of, bundle_of}
use Rattle.asset_bundles.proofs.Lemmas.Bundles.{unit_keys}
use Rattle.asset_bundles.proofs.Lemmas.BundleLaws.{same_bundles, amount-bundle_of}
use Rattle.weight_trader.specs.Purchases.{Line, coin_of, is_in, AreApart, paid_goods}
use Rattle.weight_trader.specs.Closing.{coins, is_paid, paid_assets}
use Rattle.weight_trader.proofs.Apart.{count-cons, coin_tie}

-- nothing is taken out
pub minus_none : (b : Bundle) (u : Unit) (n : ℕ) → n ≡ 0 → b ≡ minus b u n
minus_none b u n none = same_bundles _ _ (λ q.
    let less = amount-minus unit_keys b u n q in
    let zero : amount_if (eq_by_cmp unit_cmp q u) n ≡ 0 = ap (amount_if (eq_by_cmp unit_cmp q u)) none ∙ amount_if-zero (eq_by_cmp unit_cmp q u) in
    omega (arith, less, zero))

-- ---- one asset, and all that are paid

pub one_bundle : (assets : List Asset) (a : Asset) → assets ≡ a ∷ [] → bundle_of assets ≡ single (unit_of a) (amount_of a)
one_bundle assets a is = ap bundle_of is ∙ same_bundles _ _ (λ q.
    let sum = amount-bundle_of (a ∷ []) q in
    let one = amount-single unit_keys (unit_of a) (amount_of a) q in
    omega (arith, sum, one))

sum_paid : (p : Unit → Bool) (lines : List Line) → sum_where p (rows_of (paid_assets lines)) ≡ sum_where p (map (λ (line : Line). (coin_of line.rate, line.paid)) lines)
sum_paid p [] = refl
sum_paid p (l ∷ ls) =
    let rest = sum_paid p ls in
    elim (is_paid l) as (λ b. is_paid l ≡ b
    → sum_where p (rows_of (if b then coins l.rate l.paid ∷ paid_assets ls else paid_assets ls)) ≡ cond (p (coin_of l.rate)) l.paid 0 + sum_where p (map (λ (line : Line). (coin_of line.rate, line.paid)) ls)) [
      | true ↦ λ e. omega (arith, rest)
      | false ↦ λ e. (let none : l.paid ≡ 0 = grind (arith, e) in let zero_of : cond (p (coin_of l.rate)) l.paid 0 ≡ 0 = ap (amount_if (p (coin_of l.rate))) none ∙ amount_if-zero (p (coin_of l.rate)) in omega (arith, rest, zero_of))
    ] refl

pub paid_bundle : (lines : List Line) (assets : List Asset) → assets ≡ paid_assets lines → bundle_of assets ≡ paid_goods lines
unfolding paid_goods
paid_bundle lines assets is = ap bundle_of is ∙ same_bundles _ _ (λ q.
    amount-bundle_of (paid_assets lines) q ∙ sum_paid (eq_by_cmp unit_cmp q) lines ∙ sym (amount-from_rows unit_keys (map (λ (line : Line). (coin_of line.rate, line.paid)) lines) q))

-- ---- what is paid in one asset

-- at the first line of an asset at which something is, or nothing
abbrev pub paid_in : Location → List Line → ℕ
paid_in asset [] = 0
paid_in asset (l ∷ ls) = cond (is_paid l && is_in asset l.rate) l.paid (paid_in asset ls)

coin_of_line : (asset : Location) (l : Line) → eq_by_cmp unit_cmp (Concrete asset, None) (coin_of l.rate) ≡ is_in asset l.rate
coin_of_line asset l = (eq_by_cmp_equiv unit_keys.total).symm (Concrete asset, None) (coin_of l.rate) ∙ coin_tie l.rate.asset asset

paid_rows : (asset : Location) (lines : List Line) → ℕ
paid_rows asset lines = sum_where (eq_by_cmp unit_cmp (Concrete asset, None)) (map (λ (line : Line). (coin_of line.rate, line.paid)) lines)

nowhere_step : (i : Bool) (c count paid part rest : ℕ) → count ≡ cond i (1 + c) c → count ≡ 0 → part ≡ amount_if i paid → (c ≡ 0 → rest ≡ 0) → part + rest ≡ 0
nowhere_step true c count paid part rest whole none here tail = absurd (omega (arith, whole, none))
nowhere_step false c count paid part rest whole none here tail = let h = tail (omega (arith, whole, none)) in omega (arith, here, h)

first_step : (p i : Bool) (c count paid part rest found : ℕ) → (p ≡ false → paid ≡ 0) → count ≡ cond i (1 + c) c → count ≤ 1 → part ≡ amount_if i paid → (c ≡ 0 → rest ≡ 0) → (c ≤ 1 → found ≡ rest)
    → cond (p && i) paid found ≡ part + rest
first_step true true c count paid part rest found unpaid whole once here none tail = let h = none (omega (arith, whole, once)) in omega (arith, here, h)
first_step true false c count paid part rest found unpaid whole once here none tail = let h = tail (omega (arith, whole, once)) in omega (arith, here, h)
first_step false true c count paid part rest found unpaid whole once here none tail = let h = tail (omega (arith, whole, once)) in let zero = unpaid refl in omega (arith, here, h, zero)
first_step false false c count paid part rest found unpaid whole once here none tail = let h = tail (omega (arith, whole, once)) in omega (arith, here, h)

unpaid_line : (l : Line) → is_paid l ≡ false → l.paid ≡ 0
unpaid_line l e = grind (arith, e)

paid_nowhere : (asset : Location) (lines : List Line) → count_by (λ (line : Line). is_in asset line.rate) lines ≡ 0 → paid_rows asset lines ≡ 0
unfolding paid_rows
paid_nowhere asset [] none = refl
paid_nowhere asset (l ∷ ls) none =
    let whole = count-cons (λ (line : Line). is_in asset line.rate) l ls in
    let here = ap (λ b. amount_if b l.paid) (coin_of_line asset l) in
    nowhere_step (is_in asset l.rate) _ _ _ _ _ whole none here (λ h. paid_nowhere asset ls h)

paid_first : (asset : Location) (lines : List Line) → count_by (λ (line : Line). is_in asset line.rate) lines ≤ 1 → paid_in asset lines ≡ paid_rows asset lines
unfolding paid_rows
paid_first asset [] once = refl
paid_first asset (l ∷ ls) once =
    let whole = count-cons (λ (line : Line). is_in asset line.rate) l ls in
    let here = ap (λ b. amount_if b l.paid) (coin_of_line asset l) in
    first_step (is_paid l) (is_in asset l.rate) _ _ _ _ _ _ (unpaid_line l) whole once here (λ h. paid_nowhere asset ls h) (λ h. paid_first asset ls h)

pub paid_is : (asset : Location) (lines : List Line) → AreApart lines → paid_in asset lines ≡ amount (paid_goods lines) (Concrete asset, None)
unfolding paid_goods paid_rows
paid_is asset lines apart = paid_first asset lines (apart asset) ∙ sym (amount-from_rows unit_keys (map (λ (line : Line). (coin_of line.rate, line.paid)) lines) (Concrete asset, None))

pub paid_next : (asset : Location) (lines : List Line) (k : ℕ) (l : Line) → k < length lines → l ≡ get_or lines k l → (is_paid l && is_in asset l.rate) ≡ false
    → paid_in asset lines ≡ paid_in asset (drop k lines) → paid_in asset lines ≡ paid_in asset (drop (k + 1) lines)
paid_next asset lines k l lt at other so_far =
    let here : paid_in asset (drop k lines) ≡ cond (is_paid (get_or lines k l) && is_in asset (get_or lines k l).rate) (get_or lines k l).paid (paid_in asset (drop (k + 1) lines)) = rw (add-one, drop-cons lines k l) refl in
    so_far ∙ here ∙ ap (λ (m : Line). cond (is_paid m && is_in asset m.rate) m.paid (paid_in asset (drop (k + 1) lines))) (sym at) ∙ ap (λ b. cond b l.paid (paid_in asset (drop (k + 1) lines))) other

pub paid_here : (asset : Location) (lines : List Line) (k : ℕ) (l : Line) → k < length lines → l ≡ get_or lines k l → (is_paid l && is_in asset l.rate) ≡ true
    → paid_in asset lines ≡ paid_in asset (drop k lines) → paid_in asset lines ≡ l.paid
paid_here asset lines k l lt at same so_far =
    let here : paid_in asset (drop k lines) ≡ cond (is_paid (get_or lines k l) && is_in asset (get_or lines k l).rate) (get_or lines k l).paid (paid_in asset (drop (k + 1) lines)) = rw (add-one, drop-cons lines k l) refl in
    so_far ∙ here ∙ ap (λ (m : Line). cond (is_paid m && is_in asset m.rate) m.paid (paid_in asset (drop (k + 1) lines))) (sym at) ∙ ap (λ b. cond b l.paid (paid_in asset (drop (k + 1) lines))) same

pub paid_end : (asset : Location) (lines : List Line) (k : ℕ) → length lines ≤ k → paid_in asset lines ≡ paid_in asset (drop k lines) → paid_in asset lines ≡ 0
paid_end asset lines k past so_far = so_far ∙ ap (paid_in asset) (drop_all k lines past)
