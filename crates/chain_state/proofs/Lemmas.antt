-- Proofs that a reader skips: what rows in order keep, lists changed in place, and the rows of a bundle whose assets all have one.
pub mod Facts
pub mod Fees
pub mod Known
pub mod Mapped
use Rattle.std.specs.Prelude.{◌≡◌, ℕ, zero, suc, ◌+◌, ◌-◌, ◌<◌, min, Bool, true, false, nat_lt, if◌then◌else◌, List, [], ◌∷◌, ◌++◌, map, length, get_or, Option, Some, None, is_some, unwrap_or, refl}
use Rattle.std.specs.Option.{option_map}
use Rattle.std.specs.List.{AllByRecursion, filter}
use Rattle.std.specs.List.Sorted.{IsStrictlySortedBy}
use Rattle.std.specs.Map.{keys_of}
use Rattle.std.specs.Ordering.{eq_by_cmp, is_eq}
use Rattle.std.specs.declared.cmp.Ordering.TheVariants.{Less}
use Rattle.std.specs.Cmp.{eq_by_cmp_equiv}
use Rattle.std.specs.FinMap.{find}
use Rattle.std.proofs.Common.{sym, ap, ◌∙◌, subst, arith, true≢false}
use Rattle.std.proofs.lemmas.List.Kept.{IsStrictlySortedBy-filter}
use Rattle.amounts.specs.Rows.{IsPositive}
use Rattle.amounts.proofs.Lemmas.Rows.{sum_where-find, is_sorted_of_keys}
use Rattle.amounts.specs.Amounts.{amount, rows, empty, from_rows}
use Rattle.amounts.proofs.Lemmas.AmountLaws.{amount-empty}
use Rattle.amounts.proofs.Lemmas.{same_key, key_same, amount-from_rows, amount-merge, rows-from_rows}
use Rattle.asset_lists.specs.Units.{Unit, unit_cmp}
use Rattle.asset_bundles.specs.Bundles.{Bundle}
use Rattle.asset_bundles.proofs.Lemmas.Bundles.{unit_keys}
use Rattle.asset_bundles.proofs.Lemmas.BundleLaws.{same_bundles}
use Rattle.asset_bundles.specs.Books.{most_burned}
use Rattle.asset_bundles.proofs.Lemmas.Changed.{amount-with_amounts}
use Rattle.chain_state.specs.Fees.{Fee, kept_goods, has_row, HaveRowsFor, saturated_fees, raised_fee, cleared}
use Rattle.chain_state.proofs.Lemmas.Fees.{some_rows}

-- ---- one row of a unit
not_later : (x y : Unit) → unit_cmp x y ≡ Less → eq_by_cmp unit_cmp y x ≡ false
not_later x y less = (eq_by_cmp_equiv unit_keys.total).symm y x ∙ ap is_eq less

later : (x : Unit) (fees : List Fee) (i : ℕ) (fee : Fee) → AllByRecursion (λ y. unit_cmp x y ≡ Less) (keys_of fees) → i < length fees → fee ≡ get_or fees i fee → unit_cmp x fee.0 ≡ Less
later x [] i fee all inside at = absurd (omega (arith, inside))
later x (e ∷ es) zero fee all inside at = ap (λ (y : Fee). unit_cmp x y.0) at ∙ all.0
later x (e ∷ es) (suc i) fee all inside at = later x es i fee all.1 (omega (arith, inside)) at

find_at : (fees : List Fee) (i : ℕ) (fee : Fee) → IsStrictlySortedBy unit_cmp (keys_of fees) → i < length fees → fee ≡ get_or fees i fee → find unit_cmp fee.0 fees ≡ Some fee.1
unfolding IsStrictlySortedBy
find_at [] i fee rising inside at = absurd (omega (arith, inside))
find_at (e ∷ es) zero fee rising inside at =
    ap (λ (x : Fee). find unit_cmp x.0 (e ∷ es)) at ∙ ap (λ b. if b then Some e.1 else find unit_cmp e.0 es) (same_key unit_keys e.0) ∙ ap (λ (x : Fee). Some x.1) (sym at)
find_at (e ∷ es) (suc i) fee rising inside at =
    let inner : i < length es = omega (arith, inside) in
    ap (λ b. if b then Some e.1 else find unit_cmp fee.0 es) (not_later e.0 fee.0 (later e.0 es i fee rising.0 inner at)) ∙ find_at es i fee rising.1 inner at

-- what is kept of a unit is found in its row
pub kept_at : (fees : List Fee) (u : Unit) → IsStrictlySortedBy unit_cmp (keys_of fees) → amount (kept_goods fees) u ≡ unwrap_or (find unit_cmp u fees) 0
unfolding kept_goods
kept_at fees u rising = amount-from_rows unit_keys fees u ∙ sum_where-find unit_keys u fees (is_sorted_of_keys unit_cmp fees rising)

-- a row has what is kept of its unit, and its unit has a row
pub row_kept : (fees : List Fee) (i : ℕ) (fee : Fee) → IsStrictlySortedBy unit_cmp (keys_of fees) → i < length fees → fee ≡ get_or fees i fee → fee.1 ≡ amount (kept_goods fees) fee.0
row_kept fees i fee rising inside at = sym (kept_at fees fee.0 rising ∙ ap (λ o. unwrap_or o 0) (find_at fees i fee rising inside at))

pub row_there : (fees : List Fee) (i : ℕ) (fee : Fee) → IsStrictlySortedBy unit_cmp (keys_of fees) → i < length fees → fee ≡ get_or fees i fee → has_row fees fee.0 ≡ true
row_there fees i fee rising inside at = ap (λ o. is_some o) (find_at fees i fee rising inside at)

-- ---- rows with other sums
module _ (f : Unit → ℕ → ℕ) where
  abbrev pub changed : Fee → Fee
  changed e = (e.0, f e.0 e.1)

  find_changed : (u : Unit) (fees : List Fee) → find unit_cmp u (map changed fees) ≡ option_map (f u) (find unit_cmp u fees)
  find_changed u [] = refl
  find_changed u (e ∷ es) =
      elim (eq_by_cmp unit_cmp u e.0) as (λ b. eq_by_cmp unit_cmp u e.0 ≡ b → (if b then Some (f e.0 e.1) else find unit_cmp u (map changed es)) ≡ option_map (f u) (if b then Some e.1 else find unit_cmp u es)) [
        | true ↦ λ t. ap (λ k. Some (f k e.1)) (sym (key_same unit_keys u e.0 t))
        | false ↦ λ t. find_changed u es
      ] refl

  keys_changed : (fees : List Fee) → keys_of (map changed fees) ≡ keys_of fees
  keys_changed [] = refl
  keys_changed (e ∷ es) = ap (λ ks. e.0 ∷ ks) (keys_changed es)

  still_some : (o : Option ℕ) (u : Unit) → is_some (option_map (f u) o) ≡ is_some o
  still_some None u = refl
  still_some (Some n) u = refl

  pub rows_changed : (fees : List Fee) (u : Unit) → has_row (map changed fees) u ≡ has_row fees u
  rows_changed fees u = ap (λ o. is_some o) (find_changed u fees) ∙ still_some (find unit_cmp u fees) u

  pub rising_changed : (fees : List Fee) → IsStrictlySortedBy unit_cmp (keys_of fees) → IsStrictlySortedBy unit_cmp (keys_of (map changed fees))
  rising_changed fees rising = subst (IsStrictlySortedBy unit_cmp) (sym (keys_changed fees)) rising

  pub kept_changed : (fees : List Fee) (u : Unit) → IsStrictlySortedBy unit_cmp (keys_of fees) → amount (kept_goods (map changed fees)) u ≡ unwrap_or (option_map (f u) (find unit_cmp u fees)) 0
  kept_changed fees u rising = kept_at (map changed fees) u (rising_changed fees rising) ∙ ap (λ o. unwrap_or o 0) (find_changed u fees)

no_room : (fees : Bundle) (u : Unit) → min 0 (most_burned - amount fees u) ≡ 0
no_room fees u = omega arith

pub amount-Kept : (fees more : Bundle) (u : Unit) → amount (saturated_fees fees more) u ≡ amount fees u + min (amount more u) (most_burned - amount fees u)
unfolding saturated_fees
amount-Kept fees more u =
    amount-merge unit_keys fees _ u ∙ ap (λ n. amount fees u + n) (amount-with_amounts unit_keys (λ (unit : Unit) n. min n (most_burned - amount fees unit)) (no_room fees) more u)

at_row : (o : Option ℕ) (goods most : ℕ) → (0 < goods → is_some o ≡ true) → unwrap_or (option_map (λ n. n + min goods (most - n)) o) 0 ≡ unwrap_or o 0 + min goods (most - unwrap_or o 0)
at_row None zero most rowed = omega arith
at_row None (suc n) most rowed = absurd (true≢false (sym (rowed (omega arith))))
at_row (Some n) goods most rowed = refl

-- goods are added
pub kept_raised : (fees : List Fee) (goods : Bundle) → IsStrictlySortedBy unit_cmp (keys_of fees) → HaveRowsFor fees goods → kept_goods (map (raised_fee goods) fees) ≡ saturated_fees (kept_goods fees) goods
kept_raised fees goods rising rowed = same_bundles _ _ (λ u.
    kept_changed (λ (unit : Unit) n. n + min (amount goods unit) (most_burned - n)) fees u rising
    ∙ at_row (find unit_cmp u fees) (amount goods u) most_burned (rowed u)
    ∙ ap (λ n. n + min (amount goods u) (most_burned - n)) (sym (kept_at fees u rising))
    ∙ sym (amount-Kept (kept_goods fees) goods u))

none_left : (o : Option ℕ) → unwrap_or (option_map (λ (n : ℕ). zero) o) 0 ≡ zero
none_left None = refl
none_left (Some n) = refl

-- nothing is kept
pub kept_cleared : (fees : List Fee) → IsStrictlySortedBy unit_cmp (keys_of fees) → kept_goods (map cleared fees) ≡ empty
kept_cleared fees rising = same_bundles _ _ (λ u. kept_changed (λ (unit : Unit) n. 0) fees u rising ∙ none_left (find unit_cmp u fees) ∙ sym (amount-empty unit_keys u))

-- ---- the rows of a bundle
module _ (f : Unit → ℕ) where
  keys_some : (fees : List Fee) → keys_of (some_rows f fees) ≡ filter (λ u. nat_lt 0 (f u)) (keys_of fees)
  keys_some [] = refl
  keys_some (e ∷ es) =
      elim (nat_lt 0 (f e.0)) as (λ b. keys_of ((if b then (e.0, f e.0) ∷ [] else []) ++ some_rows f es) ≡ (if b then e.0 ∷ filter (λ u. nat_lt 0 (f u)) (keys_of es) else filter (λ u. nat_lt 0 (f u)) (keys_of es))) [
        | true ↦ ap (λ ks. e.0 ∷ ks) (keys_some es)
        | false ↦ keys_some es
      ]

  pub some_rising : (fees : List Fee) → IsStrictlySortedBy unit_cmp (keys_of fees) → IsStrictlySortedBy unit_cmp (keys_of (some_rows f fees))
  some_rising fees rising = subst (IsStrictlySortedBy unit_cmp) (sym (keys_some fees)) (IsStrictlySortedBy-filter unit_cmp (λ u. nat_lt 0 (f u)) (keys_of fees) rising)

  more_than_none : (n : ℕ) → nat_lt 0 n ≡ true → 0 < n
  more_than_none n h = grind (arith, h)

  none_at_all : (n : ℕ) → nat_lt 0 n ≡ false → n ≡ 0
  none_at_all n h = grind (arith, h)

  pub some_positive : (fees : List Fee) → IsPositive (some_rows f fees)
  some_positive [] = tt
  some_positive (e ∷ es) =
      elim (nat_lt 0 (f e.0)) as (λ b. nat_lt 0 (f e.0) ≡ b → IsPositive ((if b then (e.0, f e.0) ∷ [] else []) ++ some_rows f es)) [
        | true ↦ λ t. (more_than_none (f e.0) t, some_positive es)
        | false ↦ λ t. some_positive es
      ] refl

  nothing_there : (b : Bool) (n : ℕ) → n ≡ 0 → (if b then n else 0) ≡ n
  nothing_there true n none = refl
  nothing_there false n none = sym none

  some_find : (u : Unit) (fees : List Fee) → unwrap_or (find unit_cmp u (some_rows f fees)) 0 ≡ (if has_row fees u then f u else 0)
  some_find u [] = refl
  some_find u (e ∷ es) =
      elim (nat_lt 0 (f e.0)) as (λ b. nat_lt 0 (f e.0) ≡ b → unwrap_or (find unit_cmp u ((if b then (e.0, f e.0) ∷ [] else []) ++ some_rows f es)) 0 ≡ (if has_row (e ∷ es) u then f u else 0)) [
        | true ↦ λ t. elim (eq_by_cmp unit_cmp u e.0) as (λ c. eq_by_cmp unit_cmp u e.0 ≡ c
            → unwrap_or (if c then Some (f e.0) else find unit_cmp u (some_rows f es)) 0 ≡ (if is_some (if c then Some e.1 else find unit_cmp u es) then f u else 0)) [
              | true ↦ λ s. ap f (sym (key_same unit_keys u e.0 s))
              | false ↦ λ s. some_find u es
            ] refl
        | false ↦ λ t. elim (eq_by_cmp unit_cmp u e.0) as (λ c. eq_by_cmp unit_cmp u e.0 ≡ c
            → unwrap_or (find unit_cmp u (some_rows f es)) 0 ≡ (if is_some (if c then Some e.1 else find unit_cmp u es) then f u else 0)) [
              | true ↦ λ s. some_find u es ∙ nothing_there (has_row es u) (f u) (ap f (key_same unit_keys u e.0 s) ∙ none_at_all (f e.0) t)
              | false ↦ λ s. some_find u es
            ] refl
      ] refl

row_or_none : (b : Bool) (n : ℕ) → (0 < n → b ≡ true) → (if b then n else 0) ≡ n
row_or_none true n rowed = refl
row_or_none false zero rowed = refl
row_or_none false (suc n) rowed = absurd (true≢false (sym (rowed (omega arith))))

-- a bundle whose assets all have a row has the amounts of these rows' units that aren't 0
pub rows_are : (goods : Bundle) (fees : List Fee) → IsStrictlySortedBy unit_cmp (keys_of fees) → HaveRowsFor fees goods → rows goods ≡ some_rows (amount goods) fees
rows_are goods fees rising rowed =
    let list = some_rows (amount goods) fees in
    let in_order = is_sorted_of_keys unit_cmp list (some_rising (amount goods) fees rising) in
    let same : from_rows list ≡ goods = same_bundles _ _ (λ u.
    amount-from_rows unit_keys list u ∙ sum_where-find unit_keys u list in_order ∙ some_find (amount goods) u fees ∙ row_or_none (has_row fees u) (amount goods u) (rowed u)) in
    ap rows (sym same) ∙ rows-from_rows unit_keys list in_order (some_positive (amount goods) fees)
