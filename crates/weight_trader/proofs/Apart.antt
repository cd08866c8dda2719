-- The lines of a record are of different assets, and stay so.
use Rattle.std.proofs.Common.{◌≡◌, ℕ, zero, suc, ◌+◌, ◌≤◌, Bool, true, false, cond, ◌||◌, List, [], ◌∷◌, get_or, set, Some, None, ◌⊎◌, inl, inr, refl, sym, ap, ◌∙◌, subst, arith}
use Rattle.std.specs.Prelude.{if◌then◌else◌, nat_eq}
use Rattle.std.specs.List.{count_by}
use Rattle.std.specs.Ordering.{eq_by_cmp, is_eq, ordering_then}
use Rattle.std.specs.declared.cmp.Ordering.{Ordering}
use Rattle.std.specs.declared.cmp.Ordering.TheVariants.{Less, Equal, Greater}
use Rattle.locations.specs.declared.relative.Location.{Location}
use Rattle.locations.specs.Order.{location_cmp}
use Rattle.asset_lists.specs.declared.units.AssetId.TheVariants.{Concrete, Abstract}
use Rattle.asset_lists.specs.declared.units.Asset.{Asset}
use Rattle.asset_lists.specs.Units.{Unit, unit_cmp}
use Rattle.asset_lists.specs.Lists.{is_of, has_zero}
use Rattle.asset_lists.specs.Moves.{occurrences}
use Rattle.weight_trader.specs.declared.rate.Rate.{Rate}
use Rattle.weight_trader.specs.Purchases.{Line, new_line, new_lines, coin_of, is_in, NameEachOnce, AreApart}
use Rattle.weight_trader.specs.Refunds.{Closed}
use Rattle.weight_trader.specs.Closing.{coins, is_paid, paid_assets}
use Rattle.std.proofs.lemmas.List.Sums.{sum_by-cons}

if_count : (b : Bool) (n : ℕ) → cond b 1 0 + n ≡ cond b (1 + n) n
if_count true n = refl
if_count false n = omega arith

pub count-cons : {X : Type 0} (p : X → Bool) (x : X) (xs : List X) → count_by p (x ∷ xs) ≡ cond (p x) (1 + count_by p xs) (count_by p xs)
count-cons p x xs = sum_by-cons (λ y. cond (p y) 1 0) x xs ∙ if_count (p x) (count_by p xs)

-- ---- a change of a line that keeps its rate

count_same : (asset : Location) (l m : Line) (ls ms : List Line) → l.rate ≡ m.rate
    → count_by (λ (line : Line). is_in asset line.rate) ls ≡ count_by (λ (line : Line). is_in asset line.rate) ms
    → count_by (λ (line : Line). is_in asset line.rate) (l ∷ ls) ≡ count_by (λ (line : Line). is_in asset line.rate) (m ∷ ms)
count_same asset l m ls ms rates rest =
    count-cons (λ (line : Line). is_in asset line.rate) l ls
    ∙ ap (λ (r : Rate). cond (is_in asset r) (1 + count_by (λ (line : Line). is_in asset line.rate) ls) (count_by (λ (line : Line). is_in asset line.rate) ls)) rates
    ∙ ap (λ n. cond (is_in asset m.rate) (1 + n) n) rest
    ∙ sym (count-cons (λ (line : Line). is_in asset line.rate) m ms)

count_set : (asset : Location) (lines : List Line) (k : ℕ) (line x : Line) → x ≡ get_or lines k x → line.rate ≡ x.rate
    → count_by (λ (l : Line). is_in asset l.rate) (set lines k line) ≡ count_by (λ (l : Line). is_in asset l.rate) lines
count_set asset [] k line x at same = refl
count_set asset (l ∷ ls) zero line x at same = count_same asset line l ls ls (same ∙ ap (λ (y : Line). y.rate) at) refl
count_set asset (l ∷ ls) (suc k) line x at same = count_same asset l l (set ls k line) ls refl (count_set asset ls k line x at same)

pub apart_set : (lines : List Line) (k : ℕ) (line x : Line) → x ≡ get_or lines k x → line.rate ≡ x.rate → AreApart lines → AreApart (set lines k line)
apart_set lines k line x at same apart asset = subst (λ n. n ≤ 1) (sym (count_set asset lines k line x at same)) (apart asset)

-- ---- the first record, and the closed one

count_new : (asset : Location) (rates : List Rate) → count_by (λ (line : Line). is_in asset line.rate) (new_lines rates) ≡ count_by (is_in asset) rates
count_new asset [] = refl
count_new asset (r ∷ rs) =
    count-cons (λ (line : Line). is_in asset line.rate) (new_line r) (new_lines rs)
    ∙ ap (λ n. cond (is_in asset r) (1 + n) n) (count_new asset rs)
    ∙ sym (count-cons (is_in asset) r rs)

pub apart_new : (rates : List Rate) (lines : List Line) → lines ≡ new_lines rates → NameEachOnce rates → AreApart lines
apart_new rates lines is once asset = subst (λ n. n ≤ 1) (sym (ap (count_by (λ (line : Line). is_in asset line.rate)) is ∙ count_new asset rates)) (once asset)

count_closed : (asset : Location) (lines : List Line) → count_by (λ (line : Line). is_in asset line.rate) (Closed lines) ≡ count_by (λ (line : Line). is_in asset line.rate) lines
count_closed asset [] = refl
count_closed asset (l ∷ ls) = count_same asset (new_line l.rate) l (Closed ls) ls refl (count_closed asset ls)

pub apart_closed : (lines closed : List Line) → closed ≡ Closed lines → AreApart lines → AreApart closed
apart_closed lines closed is apart asset = subst (λ n. n ≤ 1) (sym (ap (count_by (λ (line : Line). is_in asset line.rate)) is ∙ count_closed asset lines)) (apart asset)

-- ---- the assets that are paid are apart

tie_first : (o : Ordering) → is_eq (ordering_then o Equal) ≡ is_eq o
tie_first Less = refl
tie_first Equal = refl
tie_first Greater = refl

pub coin_tie : (a b : Location) → eq_by_cmp unit_cmp (Concrete a, None) (Concrete b, None) ≡ eq_by_cmp location_cmp a b
coin_tie a b = tie_first (location_cmp a b)

-- a unit is the coin of a location, or no rate's
pub coin_or_none : (u : Unit) → ((asset : Location) × (u ≡ (Concrete asset, None))) ⊎ ((rate : Rate) → eq_by_cmp unit_cmp (coin_of rate) u ≡ false)
coin_or_none (Concrete asset, None) = inl (asset, refl)
coin_or_none (Abstract bytes, None) = inr (λ rate. refl)
coin_or_none (id, Some instance) = inr (λ rate. refl)

count_step : (p i : Bool) (u : Unit) (l : Line) (ls : List Line) (whole rest : ℕ) → whole ≡ cond i (1 + rest) rest
    → occurrences u (coins l.rate l.paid ∷ paid_assets ls) ≡ cond i (1 + occurrences u (paid_assets ls)) (occurrences u (paid_assets ls)) → occurrences u (paid_assets ls) ≤ rest
    → occurrences u (if p then coins l.rate l.paid ∷ paid_assets ls else paid_assets ls) ≤ whole
count_step true true u l ls whole rest w paid le = omega (arith, w, paid, le)
count_step true false u l ls whole rest w paid le = omega (arith, w, paid, le)
count_step false true u l ls whole rest w paid le = omega (arith, w, le)
count_step false false u l ls whole rest w paid le = omega (arith, w, le)

count_coins : (u : Unit) (asset : Location) → u ≡ (Concrete asset, None) → (lines : List Line) → occurrences u (paid_assets lines) ≤ count_by (λ (line : Line). is_in asset line.rate) lines
count_coins u asset is [] = omega arith
count_coins u asset is (l ∷ ls) =
    let rest = count_coins u asset is ls in
    let here : is_of u (coins l.rate l.paid) ≡ is_in asset l.rate = ap (λ v. eq_by_cmp unit_cmp (coin_of l.rate) v) is ∙ coin_tie l.rate.asset asset in
    let whole = count-cons (λ (line : Line). is_in asset line.rate) l ls in
    let paid = count-cons (is_of u) (coins l.rate l.paid) (paid_assets ls) ∙ ap (λ b. cond b (1 + occurrences u (paid_assets ls)) (occurrences u (paid_assets ls))) here in
    count_step (is_paid l) (is_in asset l.rate) u l ls _ _ whole paid rest

count_none : (u : Unit) → ((rate : Rate) → eq_by_cmp unit_cmp (coin_of rate) u ≡ false) → (lines : List Line) → occurrences u (paid_assets lines) ≡ 0
count_none u none [] = refl
count_none u none (l ∷ ls) =
    let rest = count_none u none ls in
    let paid = count-cons (is_of u) (coins l.rate l.paid) (paid_assets ls) ∙ ap (λ b. cond b (1 + occurrences u (paid_assets ls)) (occurrences u (paid_assets ls))) (none l.rate) in
    elim (is_paid l) as (λ b. occurrences u (if b then coins l.rate l.paid ∷ paid_assets ls else paid_assets ls) ≡ 0) [
      | true ↦ paid ∙ rest
      | false ↦ rest
    ]

pub once_paid : (lines : List Line) (assets : List Asset) → assets ≡ paid_assets lines → AreApart lines → (u : Unit) → occurrences u assets ≤ 1
once_paid lines assets is apart u =
    let e = ap (occurrences u) is in
    elim (coin_or_none u) [
      | inl coin ↦ (let most = count_coins u coin.0 coin.1 lines in let one = apart coin.0 in omega (arith, e, most, one))
      | inr none ↦ (let zero_of = count_none u none lines in omega (arith, e, zero_of))
    ]

none_zero_paid : (lines : List Line) → has_zero (paid_assets lines) ≡ false
none_zero_paid [] = refl
none_zero_paid (l ∷ ls) =
    elim (is_paid l) as (λ b. is_paid l ≡ b → has_zero (if b then coins l.rate l.paid ∷ paid_assets ls else paid_assets ls) ≡ false) [
      | true ↦ λ e. (let some : nat_eq l.paid 0 ≡ false = grind (arith, e) in ap (λ b. b || has_zero (paid_assets ls)) some ∙ none_zero_paid ls)
      | false ↦ λ e. none_zero_paid ls
    ] refl

pub no_zero_paid : (lines : List Line) (assets : List Asset) → assets ≡ paid_assets lines → has_zero assets ≡ false
no_zero_paid lines assets is = ap has_zero is ∙ none_zero_paid lines
