-- What the fee account gets of each asset, and what would pass 2^128-1 there.
use Rattle.std.proofs.Common.{◌≡◌, ℕ, zero, suc, ◌+◌, ◌-◌, ◌^◌, ◌<◌, ◌≤◌, Bool, true, false, ◌||◌, List, [], ◌∷◌, ◌++◌, map, length, get_or, drop, refl, sym, ap, ◌∙◌, subst, arith, T, true≢false, add-one, drop-cons, append_assoc}
use Rattle.std.specs.Prelude.{None, Some, Result, Ok, Err, OnOk, OnErr, is_some, is_none, if◌then◌else◌, nat_lt, unwrap_or}
use Rattle.std.specs.Ordering.{eq_by_cmp}
use Rattle.std.specs.FinMap as entries
use Rattle.std.specs.Map.{keys_of}
use Rattle.std.specs.List.Sorted.{IsStrictlySortedBy}
use Rattle.std.proofs.lemmas.Bool.{and_parts, and_from}
use Rattle.std.proofs.lemmas.List.{drop_all, append-nil}
use Rattle.amounts.specs.Rows.{IsPositive, amount_if, sum_where}
use Rattle.amounts.proofs.Lemmas.Rows.{sum_where-find, keys_rising}
use Rattle.amounts.specs.Amounts.{amount, empty, rows, from_rows}
use Rattle.amounts.proofs.Lemmas.AmountLaws.{amount-empty, rows_sorted, rows_positive, find-rows}
use Rattle.amounts.proofs.Lemmas.{same_key, key_same, amount-from_rows, amount-merge, amount-difference, from_rows-rows, amount-rows}
use Rattle.asset_lists.specs.declared.units.AssetId.{AssetId}
use Rattle.asset_lists.specs.declared.units.AssetId.TheVariants.{Abstract}
use Rattle.asset_lists.specs.declared.units.Asset.{Asset}
use Rattle.asset_lists.specs.declared.units.Fun.{Fun}
use Rattle.asset_lists.specs.Units.{Unit, unit_of, unit_cmp, amount_of}
use Rattle.asset_lists.specs.Lists.{has_zero}
use Rattle.asset_lists.specs.Listed.{Listed, listed_of, lists}
use Rattle.asset_bundles.specs.Bundles.{Bundle, rows_of, bundle_of, IsHolding}
use Rattle.asset_bundles.proofs.Lemmas.Bundles.{unit_keys}
use Rattle.asset_bundles.specs.Books.{AreListed}
use Rattle.asset_bundles.proofs.Lemmas.BundleLaws.{amount-bundle_of}
use Rattle.asset_bundles.specs.Changed.{rows_with, with_amounts}
use Rattle.asset_bundles.proofs.Lemmas.Changed.{is_sorted-rows_with}
use Rattle.trust_tables.specs.Trust.{listing}
use Rattle.ledgers.specs.Ledgers.{Held, Accounts, Deposited, is_barred, barred}
use Rattle.weight_trader.specs.Purchases.{Line, coin_of, paid_goods}
use Rattle.chain_state.specs.Fees.{Fee, kept_goods, has_row, is_coin, HaveRows, HaveRowsFor, some_row}
use Rattle.chain_state.proofs.Lemmas.Fees.{some_rows}
use Rattle.chain_state.proofs.Lemmas.{rows_are}
use Rattle.exec_base.specs.Part.{ChainPart}
use Rattle.exec_base.specs.Host.{all_fees, fees_above, fees_within}
use Rattle.network_steps.specs.Tests.{is_rate_listed, are_rates_listed}
use Rattle.chain_state.specs.Settling.{are_units_listed, some_coins}
use Rattle.plain_lists.proofs.Lemmas.Facts.{positive_not_zero as not_zero, positive_sum as either}

-- ---- amounts that are changed, at one unit
module _ (f : Unit → ℕ → ℕ) (u : Unit) where
  find_with : f u 0 ≡ 0 → (es : List (Unit × ℕ)) → unwrap_or (entries.find unit_cmp u (rows_with f es)) 0 ≡ f u (unwrap_or (entries.find unit_cmp u es) 0)
  find_with none [] = sym none
  find_with none (e ∷ es) =
      elim (eq_by_cmp unit_cmp u e.0) as (λ b. eq_by_cmp unit_cmp u e.0 ≡ b
      → unwrap_or (if b then Some (f e.0 e.1) else entries.find unit_cmp u (rows_with f es)) 0 ≡ f u (unwrap_or (if b then Some e.1 else entries.find unit_cmp u es) 0)) [
        | true ↦ λ t. ap (λ x. f x e.1) (sym (key_same unit_keys u e.0 t))
        | false ↦ λ t. find_with none es
      ] refl

  nothing_with : (es : List (Unit × ℕ)) → IsPositive es → unwrap_or (entries.find unit_cmp u es) 0 ≡ 0 → unwrap_or (entries.find unit_cmp u (rows_with f es)) 0 ≡ 0
  nothing_with [] positive none = refl
  nothing_with (e ∷ es) positive none =
      elim (eq_by_cmp unit_cmp u e.0) as (λ b. unwrap_or (if b then Some e.1 else entries.find unit_cmp u es) 0 ≡ 0 → unwrap_or (if b then Some (f e.0 e.1) else entries.find unit_cmp u (rows_with f es)) 0 ≡ 0) [
        | true ↦ λ h. (let some = positive.0 in absurd (omega (arith, some, h)))
        | false ↦ λ h. nothing_with es positive.1 h
      ] none

  found_with : (m : Bundle) → amount (with_amounts f m) u ≡ unwrap_or (entries.find unit_cmp u (rows_with f (rows m))) 0
  unfolding with_amounts
  found_with m = amount-from_rows unit_keys (rows_with f (rows m)) u ∙ sum_where-find unit_keys u (rows_with f (rows m)) (subst T (sym (is_sorted-rows_with unit_cmp f (rows m))) (rows_sorted m))

  amount_with_at : f u 0 ≡ 0 → (m : Bundle) → amount (with_amounts f m) u ≡ f u (amount m u)
  amount_with_at none m = found_with m ∙ find_with none (rows m) ∙ ap (f u) (find-rows m u)

  nothing_at : (m : Bundle) → amount m u ≡ 0 → amount (with_amounts f m) u ≡ 0
  nothing_at m none = found_with m ∙ nothing_with (rows m) (rows_positive m) (find-rows m u ∙ none)

-- ---- the fees of one asset
pub all_at : (p : ChainPart) (u : Unit) → amount (all_fees p) u ≡ amount (paid_goods p.lines) u + amount p.fees u
all_at p u = amount-merge unit_keys (paid_goods p.lines) p.fees u

above_least : (held most : ℕ) → held ≤ most → (held + 0) - most ≡ 0
above_least held most fits = omega (arith, fits)

above_at : (p : ChainPart) (u : Unit) → amount p.held (p.fee_account, u) ≤ 2 ^ 128 - 1 → amount (fees_above p) u ≡ (amount p.held (p.fee_account, u) + amount (all_fees p) u) - (2 ^ 128 - 1)
above_at p u fits = amount_with_at (λ (unit : Unit) n. (amount p.held (p.fee_account, unit) + n) - (2 ^ 128 - 1)) u (above_least (amount p.held (p.fee_account, u)) (2 ^ 128 - 1) fits) (all_fees p)

nothing_above : (p : ChainPart) (u : Unit) → amount (all_fees p) u ≡ 0 → amount (fees_above p) u ≡ 0
nothing_above p u none = nothing_at (λ (unit : Unit) n. (amount p.held (p.fee_account, unit) + n) - (2 ^ 128 - 1)) u (all_fees p) none

within_at : (p : ChainPart) (u : Unit) → amount (fees_within p) u ≡ amount (all_fees p) u - amount (fees_above p) u
within_at p u = amount-difference unit_keys (all_fees p) (fees_above p) u

-- what is parted is what is within and above
pub share_above : (p : ChainPart) (u : Unit) (held paid kept above : ℕ) → held ≡ amount p.held (p.fee_account, u) → held < 2 ^ 128 → paid ≡ amount (paid_goods p.lines) u → kept ≡ amount p.fees u
    → above ≡ (held + (paid + kept)) - (2 ^ 128 - 1) → above ≡ amount (fees_above p) u
share_above p u held paid kept above held_is fits paid_is kept_is is =
    is ∙ (λ i. (held_is i + (paid_is i + kept_is i)) - (2 ^ 128 - 1)) ∙ ap (λ n. (amount p.held (p.fee_account, u) + n) - (2 ^ 128 - 1)) (sym (all_at p u))
    ∙ sym (above_at p u (subst (λ n. n ≤ 2 ^ 128 - 1) held_is (omega (arith, fits))))

pub share_within : (p : ChainPart) (u : Unit) (paid kept above fits : ℕ) → paid ≡ amount (paid_goods p.lines) u → kept ≡ amount p.fees u → above ≡ amount (fees_above p) u → fits + above ≡ paid + kept → fits ≡ amount (fees_within p) u
share_within p u paid kept above fits paid_is kept_is above_is both =
    let whole = all_at p u in
    let within = within_at p u in
    omega (arith, paid_is, kept_is, above_is, both, whole, within)

-- the account takes it in
pub share_free : (held paid kept above fits most : ℕ) → held ≤ most → above ≡ (held + (paid + kept)) - most → fits + above ≡ paid + kept → held + fits ≤ most
share_free held paid kept above fits most small is both = omega (arith, small, is, both)

-- ---- each asset with fees has a row
paid_row : (listed : List Listed) (lines : List Line) (u : Unit) → are_rates_listed listed lines ≡ true → 0 < sum_where (eq_by_cmp unit_cmp u) (map (λ (line : Line). (coin_of line.rate, line.paid)) lines) → is_coin listed u ≡ true
paid_row listed [] u all some = absurd (omega (arith, some))
paid_row listed (l ∷ ls) u all some =
    let parts = and_parts (is_rate_listed listed l) (are_rates_listed listed ls) all in
    elim (eq_by_cmp unit_cmp u (coin_of l.rate)) as (λ b. eq_by_cmp unit_cmp u (coin_of l.rate) ≡ b
    → 0 < amount_if b l.paid + sum_where (eq_by_cmp unit_cmp u) (map (λ (line : Line). (coin_of line.rate, line.paid)) ls) → is_coin listed u ≡ true) [
      | true ↦ λ t _. ap (is_coin listed) (key_same unit_keys u (coin_of l.rate) t) ∙ parts.0
      | false ↦ λ t more. paid_row listed ls u parts.1 (omega (arith, more))
    ] refl some

paid_coin : (listed : List Listed) (lines : List Line) (u : Unit) → are_rates_listed listed lines ≡ true → 0 < amount (paid_goods lines) u → is_coin listed u ≡ true
unfolding paid_goods
paid_coin listed lines u all some = paid_row listed lines u all (subst (λ n. 0 < n) (amount-from_rows unit_keys (map (λ (line : Line). (coin_of line.rate, line.paid)) lines) u) some)

found_row : (fees : List Fee) (u : Unit) → 0 < sum_where (eq_by_cmp unit_cmp u) fees → has_row fees u ≡ true
found_row [] u some = absurd (omega (arith, some))
found_row (e ∷ es) u some =
    elim (eq_by_cmp unit_cmp u e.0) as (λ b. 0 < amount_if b e.1 + sum_where (eq_by_cmp unit_cmp u) es → is_some (if b then Some e.1 else entries.find unit_cmp u es) ≡ true) [
      | true ↦ λ more. refl
      | false ↦ λ more. found_row es u (omega (arith, more))
    ] some

kept_row : (fees : List Fee) (u : Unit) → 0 < amount (kept_goods fees) u → has_row fees u ≡ true
unfolding kept_goods
kept_row fees u some = found_row fees u (subst (λ n. 0 < n) (amount-from_rows unit_keys fees u) some)

-- where all fees have rows, so has what fits and what would pass the maximum
module _ (p : ChainPart) (fees : List Fee) (rowed : HaveRowsFor fees (all_fees p)) where
  pub fits_rowed : HaveRowsFor fees (fees_within p)
  fits_rowed u some = (let is = within_at p u in rowed u (omega (arith, is, some)))

  some_of : (m n : ℕ) → (n ≡ 0 → m ≡ 0) → 0 < m → 0 < n
  some_of m zero none some = (let h = none refl in absurd (omega (arith, h, some)))
  some_of m (suc n) none some = omega arith

  pub rest_rowed : HaveRowsFor fees (fees_above p)
  rest_rowed u some = rowed u (some_of (amount (fees_above p) u) (amount (all_fees p) u) (nothing_above p u) some)

module _ (p : ChainPart) (fees : List Fee) (kept : p.fees ≡ kept_goods fees) (have : HaveRows (listing p.rows) fees) (rates : are_rates_listed (listing p.rows) p.lines ≡ true) where
  all_rowed : HaveRowsFor fees (all_fees p)
  all_rowed u some =
      either (has_row fees u ≡ true) (amount (paid_goods p.lines) u) (amount p.fees u) (λ h. have u ∙ paid_coin (listing p.rows) p.lines u rates h) (λ h. kept_row fees u (subst (λ (b : Bundle). 0 < amount b u) kept h))
      (subst (λ n. 0 < n) (all_at p u) some)

  pub within_rowed : HaveRowsFor fees (fees_within p)
  within_rowed = fits_rowed p fees all_rowed

  pub above_rowed : HaveRowsFor fees (fees_above p)
  above_rowed = rest_rowed p fees all_rowed

-- ---- nothing is kept: what was paid is all
rising_none : (keys : List Unit) → length keys ≤ 1 → IsStrictlySortedBy unit_cmp keys
unfolding IsStrictlySortedBy
rising_none [] few = tt
rising_none (key ∷ []) few = (tt, tt)
rising_none (key ∷ next ∷ keys) few = absurd (omega (arith, few))

module _ (p : ChainPart) (payments : List Asset) (few : length (keys_of (rows_of payments)) ≤ 1) (paid : bundle_of payments ≡ paid_goods p.lines) (clear : p.fees ≡ empty) where
  none_kept : (u : Unit) → amount p.fees u ≡ 0
  none_kept u = ap (λ (b : Bundle). amount b u) clear ∙ amount-empty unit_keys u

  payments_at : (u : Unit) → amount (paid_goods p.lines) u ≡ sum_where (eq_by_cmp unit_cmp u) (rows_of payments)
  payments_at u = ap (λ (b : Bundle). amount b u) (sym paid) ∙ amount-bundle_of payments u

  payments_rowed : HaveRowsFor (rows_of payments) (all_fees p)
  payments_rowed u some =
      let all = all_at p u in
      let none = none_kept u in
      let is = payments_at u in
      found_row (rows_of payments) u (omega (arith, some, all, none, is))

  -- the rows of what fits, and of what would pass the maximum, are at most the one of what was paid
  pub payments_within : rows (fees_within p) ≡ some_rows (amount (fees_within p)) (rows_of payments)
  payments_within = rows_are (fees_within p) (rows_of payments) (rising_none (keys_of (rows_of payments)) few) (fits_rowed p (rows_of payments) payments_rowed)

  pub payments_above : rows (fees_above p) ≡ some_rows (amount (fees_above p)) (rows_of payments)
  payments_above = rows_are (fees_above p) (rows_of payments) (rising_none (keys_of (rows_of payments)) few) (rest_rowed p (rows_of payments) payments_rowed)

-- what has a row is listed
pub rowed_listed : (listed : List Listed) (fees : List Fee) (goods : Bundle) → HaveRows listed fees → HaveRowsFor fees goods → AreListed listed goods
rowed_listed listed fees goods have rowed u some = (and_parts (is_none u.1) (lists listed (listed_of u)) (sym (have u) ∙ rowed u some)).1

one_here : (b : Bool) (n m h : ℕ) → amount_if b n + m ≤ h → b ≡ true → 0 < n → 0 < h
one_here true n m h le t some = omega (arith, le, some)
one_here false n m h le t some = absurd (true≢false (sym t))

each_listed : (listed : List Listed) (goods : Bundle) (es : List (Unit × ℕ)) → AreListed listed goods → IsPositive es → ((u : Unit) → sum_where (eq_by_cmp unit_cmp u) es ≤ amount goods u) → are_units_listed listed es ≡ true
each_listed listed goods [] are positive within = refl
each_listed listed goods (e ∷ es) are positive within =
    and_from _ _ (are e.0 (one_here (eq_by_cmp unit_cmp e.0 e.0) e.1 _ _ (within e.0) (same_key unit_keys e.0) positive.0))
    (each_listed listed goods es are positive.1 (λ u. let le = within u in omega (arith, le)))

pub units_listed : (listed : List Listed) (goods : Bundle) → AreListed listed goods → are_units_listed listed (rows goods) ≡ true
units_listed listed goods are = each_listed listed goods (rows goods) are (rows_positive goods) (λ u. let all = amount-rows unit_keys goods u in omega (arith, all))

-- ---- the list of what the account gets
pub coins_more : (xs : List Asset) (id : AssetId) (n : ℕ) → rows_of (xs ++ some_coins id n) ≡ rows_of xs ++ some_row (id, None) n
coins_more [] id n = elim (nat_lt 0 n) as (λ b. rows_of (if b then (record { id = id; fun = Fun.Fungible n }) ∷ [] else []) ≡ (if b then ((id, None), n) ∷ [] else [])) [ true ↦ refl | false ↦ refl ]
coins_more (x ∷ xs) id n = ap (λ es. (unit_of x, amount_of x) ∷ es) (coins_more xs id n)

not_above : (n most : ℕ) → n ≤ most → nat_lt most n ≡ false
not_above n most small = grind (arith, small)

pub barred_coins : (held : Held) (who : List ℕ) (id : AssetId) (n : ℕ) → amount held (who, (id, None)) + n ≤ 2 ^ 128 - 1 → barred held who (some_coins id n) ≡ None
barred_coins held who id n small =
    elim (nat_lt 0 n) as (λ b. barred held who (if b then (record { id = id; fun = Fun.Fungible n }) ∷ [] else []) ≡ None) [
      | true ↦ ap (λ c. if c then Some (record { id = id; fun = Fun.Fungible n }) else None) (not_above (amount held (who, (id, None)) + n) (2 ^ 128 - 1) small)
      | false ↦ refl
    ]

pub barred_more : (held : Held) (who : List ℕ) (xs more : List Asset) → barred held who more ≡ None → barred held who xs ≡ None → barred held who (xs ++ more) ≡ None
barred_more held who [] more fits free = fits
barred_more held who (x ∷ xs) more fits free =
    elim (is_barred held who x) as (λ b. (if b then Some x else barred held who xs) ≡ None → (if b then Some x else barred held who (xs ++ more)) ≡ None) [
      | true ↦ λ h. absurd (cc)
      | false ↦ λ h. barred_more held who xs more fits h
    ] free

-- nothing was paid
pub none_within : (p : ChainPart) (payments : List Asset) → length payments < 1 → bundle_of payments ≡ paid_goods p.lines → p.fees ≡ empty → [] ≡ rows (fees_within p)
none_within p [] none paid clear = sym (payments_within p [] (omega arith) paid clear)
none_within p (x ∷ xs) none paid clear = absurd (omega (arith, none))

pub none_above : (p : ChainPart) (payments : List Asset) → length payments < 1 → bundle_of payments ≡ paid_goods p.lines → p.fees ≡ empty → [] ≡ rows (fees_above p)
none_above p [] none paid clear = sym (payments_above p [] (omega arith) paid clear)
none_above p (x ∷ xs) none paid clear = absurd (omega (arith, none))

-- one asset was paid in
module _ (p : ChainPart) (id : AssetId) (n : ℕ) (paid : bundle_of (record { id = id; fun = Fun.Fungible n } ∷ []) ≡ paid_goods p.lines) (clear : p.fees ≡ empty) where
  pub lone_paid : n ≡ amount (paid_goods p.lines) (id, None)
  lone_paid =
      let is = payments_at p (record { id = id; fun = Fun.Fungible n } ∷ []) (omega arith) paid clear (id, None) in
      sym (is ∙ ap (λ b. amount_if b n + 0) (same_key unit_keys (id, None)) ∙ omega arith)

  pub lone_kept : 0 ≡ amount p.fees (id, None)
  lone_kept = sym (ap (λ (b : Bundle). amount b (id, None)) clear ∙ amount-empty unit_keys (id, None))

  -- so much of it is the one row of what fits, or of what would pass the maximum
  pub lone_within : (fits : ℕ) → fits ≡ amount (fees_within p) (id, None) → rows_of (some_coins id fits) ≡ rows (fees_within p)
  lone_within fits is =
      coins_more [] id fits ∙ ap (some_row (id, None)) is ∙ sym (append-nil (some_row (id, None) (amount (fees_within p) (id, None))))
      ∙ sym (payments_within p (record { id = id; fun = Fun.Fungible n } ∷ []) (omega arith) paid clear)

  pub lone_above : (above : ℕ) → above ≡ amount (fees_above p) (id, None) → some_row (id, None) above ≡ rows (fees_above p)
  lone_above above is =
      ap (some_row (id, None)) is ∙ sym (append-nil (some_row (id, None) (amount (fees_above p) (id, None))))
      ∙ sym (payments_above p (record { id = id; fun = Fun.Fungible n } ∷ []) (omega arith) paid clear)

-- ---- nothing came in of an asset
pub none_in : (p : ChainPart) (u : Unit) (paid kept : ℕ) → paid ≡ amount (paid_goods p.lines) u → kept ≡ amount p.fees u → paid ≡ 0 → kept ≡ 0 → (0 ≡ amount (fees_within p) u) × (0 ≡ amount (fees_above p) u)
none_in p u paid kept paid_is kept_is no_paid no_kept =
    let whole = all_at p u in
    let none : amount (all_fees p) u ≡ 0 = omega (arith, whole, paid_is, kept_is, no_paid, no_kept) in
    let within = within_at p u in
    (omega (arith, within, none), sym (nothing_above p u none))

-- the rows of a bundle are assets in holding order
pub rows_holding : (xs : List Asset) (goods : Bundle) → rows_of xs ≡ rows goods → IsHolding xs
rows_holding xs goods is = record {
  rising = subst (λ (es : List (Unit × ℕ)). IsStrictlySortedBy unit_cmp (keys_of es)) (sym is) (keys_rising unit_cmp (rows goods) (rows_sorted goods));
  positive = subst (λ (es : List (Unit × ℕ)). IsPositive es) (sym is) (rows_positive goods);
}

pub rows_bundle : (xs : List Asset) (goods : Bundle) → rows_of xs ≡ rows goods → bundle_of xs ≡ goods
unfolding bundle_of
rows_bundle xs goods is = ap from_rows is ∙ from_rows-rows unit_keys goods

pub no_zero : (xs : List Asset) → IsPositive (rows_of xs) → has_zero xs ≡ false
no_zero [] positive = refl
no_zero (x ∷ xs) positive = ap (λ b. b || has_zero xs) (not_zero (amount_of x) positive.0) ∙ no_zero xs positive.1

-- an id that names no location pays no rate
pub no_place : (bytes : List ℕ) (lines : List Line) → 0 ≡ amount (paid_goods lines) (Abstract bytes, None)
unfolding paid_goods
no_place bytes lines = sym (amount-from_rows unit_keys (map (λ (line : Line). (coin_of line.rate, line.paid)) lines) (Abstract bytes, None) ∙ none_paid lines) where
  none_paid : (ls : List Line) → sum_where (eq_by_cmp unit_cmp (Abstract bytes, None)) (map (λ (line : Line). (coin_of line.rate, line.paid)) ls) ≡ 0
  none_paid [] = refl
  none_paid (l ∷ ls) = (let rest = none_paid ls in omega (arith, rest))

-- ---- row by row
pub row_next : (f : Unit → ℕ) (fees : List Fee) (i : ℕ) (fee : Fee) (done more whole : List Fee) → i < length fees → fee ≡ get_or fees i fee → more ≡ done ++ some_row fee.0 (f fee.0)
    → done ++ some_rows f (drop i fees) ≡ whole → more ++ some_rows f (drop (i + 1) fees) ≡ whole
row_next f fees i fee done more whole inside at grown so_far =
    let here : drop i fees ≡ fee ∷ drop (i + 1) fees = rw (add-one, drop-cons fees i fee) (ap (λ (x : Fee). x ∷ drop (suc i) fees) (sym at)) in
    ap (λ es. es ++ some_rows f (drop (i + 1) fees)) grown ∙ append_assoc done (some_row fee.0 (f fee.0)) (some_rows f (drop (i + 1) fees))
    ∙ ap (λ (es : List Fee). done ++ some_rows f es) (sym here) ∙ so_far

pub rows_end : (f : Unit → ℕ) (fees : List Fee) (i : ℕ) (done : List Fee) → length fees ≤ i → done ++ some_rows f (drop i fees) ≡ some_rows f fees → done ≡ some_rows f fees
rows_end f fees i done past so_far = sym (ap (λ (es : List Fee). done ++ some_rows f es) (drop_all i fees past) ∙ append-nil done) ∙ so_far

-- a deposit, made or refused, changes no row of the ledger
pub ledger_after : {A E : Type 0} (who : List ℕ) (goods : Bundle) (old new : Accounts) (r : Result A E) → OnOk r (new ≡ Deposited who goods old) → OnErr r (new ≡ old) → new.listed ≡ old.listed
ledger_after who goods old new (Ok done) made kept = ap (λ (l : Accounts). l.listed) made
ledger_after who goods old new (Err fault) made kept = ap (λ (l : Accounts). l.listed) kept
