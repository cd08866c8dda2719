-- One asset given up in place, as the bundle that is left.
use Rattle.std.proofs.Common.{◌≡◌, ℕ, zero, suc, ◌+◌, ◌-◌, ◌<◌, ◌≤◌, Bool, true, false, List, [], ◌∷◌, length, get_or, drop, refl, sym, ap, ◌∙◌, subst, arith}
use Rattle.std.specs.Prelude.{if◌then◌else◌, not, Some, slice_set, remove}
use Rattle.std.specs.List.{prefix_len, AllByRecursion}
use Rattle.std.specs.List.Sorted.{IsStrictlySortedBy}
use Rattle.std.specs.Map.{keys_of}
use Rattle.std.specs.Ordering.{eq_by_cmp, is_eq}
use Rattle.std.specs.declared.cmp.Ordering.{Ordering}
use Rattle.std.specs.declared.cmp.Ordering.TheVariants.{Less}
use Rattle.std.proofs.lemmas.List.Sums.{prefix_len-drop_yes, prefix_len-drop_no}
use Rattle.amounts.specs.Rows.{IsPositive, amount_if}
use Rattle.amounts.specs.Amounts.{amount, minus}
use Rattle.amounts.proofs.Lemmas.{amount-minus, key_same}
use Rattle.asset_lists.specs.declared.units.Fun.{Fun}
use Rattle.asset_lists.specs.declared.units.Asset.{Asset}
use Rattle.std.specs.Cmp.{eq_by_cmp_equiv}
use Rattle.asset_lists.specs.UnitLaws.{unit_total}
use Rattle.asset_lists.specs.Units.{Unit, unit_of, amount_of, unit_cmp, amount_in}
use Rattle.asset_bundles.specs.Bundles.{rows_of, bundle_of, IsHolding}
use Rattle.asset_bundles.proofs.Lemmas.Bundles.{unit_keys}
use Rattle.asset_bundles.proofs.Lemmas.BundleLaws.{same_bundles}
use Rattle.asset_bundles.proofs.Lemmas.Changed.{amount-with_amounts}
use Rattle.asset_bundles.specs.Portions.{fun_with, asset_with, with_remainder, changed, spent, is_other}
use Rattle.asset_bundles.proofs.Lemmas.Portions.{FitsInstances}
use Rattle.asset_bundles.proofs.Parts.{bundle_of-changed, changed_holding}

-- ---- the index
pub place_more : (u : Unit) (xs : List Asset) (k : ℕ) (b : Asset) → k < length xs → b ≡ get_or xs k b → is_other u b ≡ true
    → prefix_len (is_other u) xs ≡ k + prefix_len (is_other u) (drop k xs) → prefix_len (is_other u) xs ≡ (k + 1) + prefix_len (is_other u) (drop (k + 1) xs)
place_more u xs k b inside at_k other so_far =
    let next = prefix_len-drop_yes (is_other u) xs k b inside (ap (is_other u) (sym at_k) ∙ other) in
    omega (arith, so_far, next)

pub place_stops : (u : Unit) (xs : List Asset) (k : ℕ) (b : Asset) → k < length xs → b ≡ get_or xs k b → is_other u b ≡ false
    → prefix_len (is_other u) xs ≡ k + prefix_len (is_other u) (drop k xs) → k ≡ prefix_len (is_other u) xs
place_stops u xs k b inside at_k here so_far =
    let none = prefix_len-drop_no (is_other u) xs k b inside (ap (is_other u) (sym at_k) ∙ here) in
    omega (arith, so_far, none)

-- ---- the list that is left
less_at : Unit → ℕ → Unit → ℕ → ℕ
less_at u n v m = if eq_by_cmp unit_cmp u v then m - n else m

less_fits : (b : Bool) (n : ℕ) → (if b then 1 - n else 1) ≤ 1
less_fits true n = omega arith
less_fits false n = omega arith

fits_less : (u : Unit) (n : ℕ) → FitsInstances (less_at u n)
unfolding less_at
fits_less u n id instance = less_fits (eq_by_cmp unit_cmp u (id, Some instance)) n

less_none : (b : Bool) (n : ℕ) → (if b then 0 - n else 0) ≡ 0
less_none true n = omega arith
less_none false n = refl

same_fun : (f : Fun) → fun_with f (amount_in f) ≡ f
same_fun (Fun.Fungible amount) = refl
same_fun (Fun.NonFungible instance) = refl

whole_asset : (a : Asset) → asset_with a (amount_of a) ≡ a
whole_asset a i = record { id = a.id; fun = same_fun a.fun i }

kept_at : (a : Asset) (n : ℕ) (rest : List Asset) → 0 < n → n ≡ amount_of a → with_remainder a n rest ≡ a ∷ rest
kept_at a zero rest some is = absurd (omega (arith, some))
kept_at a (suc n) rest some is = ap (λ m. asset_with a m ∷ rest) is ∙ ap (λ b. b ∷ rest) (whole_asset a)

pub all_kept : (xs : List Asset) → IsPositive (rows_of xs) → changed (λ u n. n) xs ≡ xs
all_kept [] positive = refl
all_kept (a ∷ xs) positive = kept_at a (amount_of a) (changed (λ u n. n) xs) positive.0 refl ∙ ap (λ ys. a ∷ ys) (all_kept xs positive.1)

not_less : (r : Ordering) → r ≡ Less → is_eq r ≡ false
not_less r is = ap is_eq is

idle : (u : Unit) (n : ℕ) (xs : List Asset) → AllByRecursion (λ v. unit_cmp u v ≡ Less) (keys_of (rows_of xs)) → IsPositive (rows_of xs) → changed (less_at u n) xs ≡ xs
unfolding less_at
idle u n [] above positive = refl
idle u n (a ∷ xs) above positive =
    let same : less_at u n (unit_of a) (amount_of a) ≡ amount_of a = ap (λ b. if b then amount_of a - n else amount_of a) (not_less (unit_cmp u (unit_of a)) above.0) in
    ap (λ m. with_remainder a m (changed (less_at u n) xs)) same ∙ kept_at a (amount_of a) (changed (less_at u n) xs) positive.0 refl ∙ ap (λ ys. a ∷ ys) (idle u n xs above.1 positive.1)

spent_changed : (u : Unit) (n : ℕ) (xs : List Asset) → IsStrictlySortedBy unit_cmp (keys_of (rows_of xs)) → IsPositive (rows_of xs) → spent u n xs ≡ changed (less_at u n) xs
unfolding less_at IsStrictlySortedBy
spent_changed u n [] rising positive = refl
spent_changed u n (a ∷ xs) rising positive =
    elim (eq_by_cmp unit_cmp u (unit_of a)) as (λ b. eq_by_cmp unit_cmp u (unit_of a) ≡ b
    → (if b then with_remainder a (amount_of a - n) xs else (a ∷ spent u n xs)) ≡ with_remainder a (if b then amount_of a - n else amount_of a) (changed (less_at u n) xs)) [
      | true ↦ λ t. ap (with_remainder a (amount_of a - n)) (sym (idle u n xs (subst (λ v. AllByRecursion (λ w. unit_cmp v w ≡ Less) (keys_of (rows_of xs))) (sym (key_same unit_keys u (unit_of a) t)) rising.0) positive.1))
      | false ↦ λ t. ap (λ ys. a ∷ ys) (spent_changed u n xs rising.1 positive.1) ∙ sym (kept_at a (amount_of a) (changed (less_at u n) xs) positive.0 refl)
    ] refl

pub spent_holding : (u : Unit) (n : ℕ) (xs : List Asset) → IsHolding xs → IsHolding (spent u n xs)
spent_holding u n xs h = subst IsHolding (sym (spent_changed u n xs h.rising h.positive)) (changed_holding (less_at u n) (fits_less u n) xs h)

if_minus : (b : Bool) (m n : ℕ) → (if b then m - n else m) ≡ m - amount_if b n
if_minus true m n = refl
if_minus false m n = omega arith

pub eq_turned : (u v : Unit) → eq_by_cmp unit_cmp u v ≡ eq_by_cmp unit_cmp v u
eq_turned u v = (eq_by_cmp_equiv unit_total).symm u v

pub spent_minus : (u : Unit) (n : ℕ) (xs : List Asset) → IsHolding xs → bundle_of (spent u n xs) ≡ minus (bundle_of xs) u n
unfolding less_at
spent_minus u n xs h =
    ap bundle_of (spent_changed u n xs h.rising h.positive) ∙ bundle_of-changed (less_at u n) (fits_less u n) xs h
    ∙ same_bundles _ _ (λ v.
    amount-with_amounts unit_keys (less_at u n) (λ k. less_none (eq_by_cmp unit_cmp u k) n) (bundle_of xs) v
    ∙ if_minus (eq_by_cmp unit_cmp u v) (amount (bundle_of xs) v) n
    ∙ ap (λ b. amount (bundle_of xs) v - amount_if b n) (eq_turned u v)
    ∙ sym (amount-minus unit_keys (bundle_of xs) u n v))

-- ---- the three ways of the code
pub spent_nowhere : (u : Unit) (n : ℕ) (xs : List Asset) → length xs ≤ prefix_len (is_other u) xs → xs ≡ spent u n xs
spent_nowhere u n [] past = refl
spent_nowhere u n (a ∷ xs) past =
    elim (eq_by_cmp unit_cmp u (unit_of a)) as (λ b. length (a ∷ xs) ≤ (if not b then 1 + prefix_len (is_other u) xs else 0) → (a ∷ xs) ≡ (if b then with_remainder a (amount_of a - n) xs else (a ∷ spent u n xs))) [
      | true ↦ λ p. absurd (omega (arith, p))
      | false ↦ λ p. ap (λ ys. a ∷ ys) (spent_nowhere u n xs (omega (arith, p)))
    ] past

pub spent_removed : (u : Unit) (n : ℕ) (xs : List Asset) (k : ℕ) (b : Asset) → k ≡ prefix_len (is_other u) xs → k < length xs → b ≡ get_or xs k b → amount_of b - n ≡ 0 → remove xs k ≡ spent u n xs
spent_removed u n [] k b place inside at_k none = absurd (omega (arith, inside))
spent_removed u n (a ∷ xs) zero b place inside at_k none =
    elim (eq_by_cmp unit_cmp u (unit_of a)) as (λ t. 0 ≡ (if not t then 1 + prefix_len (is_other u) xs else 0) → xs ≡ (if t then with_remainder a (amount_of a - n) xs else (a ∷ spent u n xs))) [
      | true ↦ λ p. ap (λ m. with_remainder a m xs) (sym none ∙ ap (λ x. amount_of x - n) at_k)
      | false ↦ λ p. absurd (omega (arith, p))
    ] place
spent_removed u n (a ∷ xs) (suc k) b place inside at_k none =
    elim (eq_by_cmp unit_cmp u (unit_of a)) as (λ t. suc k ≡ (if not t then 1 + prefix_len (is_other u) xs else 0) → (a ∷ remove xs k) ≡ (if t then with_remainder a (amount_of a - n) xs else (a ∷ spent u n xs))) [
      | true ↦ λ p. absurd (omega (arith, p))
      | false ↦ λ p. ap (λ ys. a ∷ ys) (spent_removed u n xs k b (omega (arith, p)) (omega (arith, inside)) at_k none)
    ] place

kept_front : (a : Asset) (n : ℕ) (rest : List Asset) → 0 < n → with_remainder a n rest ≡ asset_with a n ∷ rest
kept_front a zero rest some = absurd (omega (arith, some))
kept_front a (suc n) rest some = refl

pub spent_set : (u : Unit) (n : ℕ) (xs : List Asset) (k : ℕ) (b : Asset) → k ≡ prefix_len (is_other u) xs → k < length xs → b ≡ get_or xs k b → 0 < amount_of b - n
    → slice_set xs k (asset_with b (amount_of b - n)) ≡ spent u n xs
spent_set u n [] k b place inside at_k some = absurd (omega (arith, inside))
spent_set u n (a ∷ xs) zero b place inside at_k some =
    elim (eq_by_cmp unit_cmp u (unit_of a)) as (λ t. 0 ≡ (if not t then 1 + prefix_len (is_other u) xs else 0) → (asset_with b (amount_of b - n) ∷ xs) ≡ (if t then with_remainder a (amount_of a - n) xs else (a ∷ spent u n xs))) [
      | true ↦ λ p. sym (kept_front b (amount_of b - n) xs some) ∙ ap (λ x. with_remainder x (amount_of x - n) xs) at_k
      | false ↦ λ p. absurd (omega (arith, p))
    ] place
spent_set u n (a ∷ xs) (suc k) b place inside at_k some =
    elim (eq_by_cmp unit_cmp u (unit_of a)) as (λ t. suc k ≡ (if not t then 1 + prefix_len (is_other u) xs else 0) → (a ∷ slice_set xs k (asset_with b (amount_of b - n))) ≡ (if t then with_remainder a (amount_of a - n) xs else (a ∷ spent u n xs))) [
      | true ↦ λ p. absurd (omega (arith, p))
      | false ↦ λ p. ap (λ ys. a ∷ ys) (spent_set u n xs k b (omega (arith, p)) (omega (arith, inside)) at_k some)
    ] place
