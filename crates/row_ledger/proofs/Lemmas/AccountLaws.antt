-- Lemmas on the definitions of `specs/AccountLaws.antt`: what proofs cite.
use Rattle.std.proofs.Common.{eq-eqb, ◌≡◌, ◌≢◌, ◌⊎◌, inl, inr, ℕ, zero, suc, ◌==◌, ◌||◌, ◌+◌, ◌<◌, ◌≤◌, Bool, true, false, not, ◌&&◌, List, [], ◌∷◌, get_or, cond, Option, Some, None, refl, sym, ap, ◌∙◌, subst, arith}
use Rattle.std.specs.Prelude.{is_some, unwrap_or, slice_get, if◌then◌else◌, nat_lt, length}
use Rattle.std.specs.List.{AllByRecursion, IsDistinct, position_or_len}
use Rattle.std.specs.Ordering.{eq_by_cmp}
use Rattle.std.proofs.lemmas.Bool.{cases_Bool, ne_eqb}
use Rattle.std.proofs.lemmas.List.Quantifiers.{position-Some}
use Rattle.std.proofs.lemmas.Option.{slice_get-get_or}
use Rattle.amounts.specs.Rows.{amount_if}
use Rattle.amounts.specs.Amounts.{amount, total, minus, merge, difference, restriction, map_keys}
use Rattle.amounts.proofs.Lemmas.AmountLaws.{same_amounts, total_alike, amount-restriction, total-restriction, amount-total}
use Rattle.amounts.proofs.Lemmas.{amount_at_most, key_same, same_key, amount-plus, amount-minus, amount-merge, amount-difference, amount-map_keys, total-plus, total-minus, total-merge, total-map_keys, total_alike_held}
use Rattle.asset_lists.specs.declared.units.AssetId.TheVariants.{Concrete}
use Rattle.asset_lists.specs.declared.units.Instance.{Instance}
use Rattle.asset_lists.specs.declared.units.Kind.{Kind}
use Rattle.asset_lists.specs.declared.units.Kind.TheVariants.{Fungible, Class}
use Rattle.asset_lists.specs.declared.units.Asset.{Asset}
use Rattle.asset_lists.specs.Units.{Unit, unit_of, amount_of}
use Rattle.asset_bundles.specs.Bundles.{bundle_of}
use Rattle.asset_lists.specs.Listed.{Listed, listed_cmp}
use Rattle.asset_bundles.proofs.Lemmas.{listed_keys}
use Rattle.asset_bundles.proofs.Lemmas.BundleLaws.{total-bundle_of}
use Rattle.trust_tables.specs.declared.rows.AssetRow.{AssetRow}
use Rattle.trust_tables.specs.Trust.{listed_row, listing}
use Rattle.ledgers.specs.Ledgers.{Holder, holder_cmp, Held, Accounts, held_by, Transferred, number_in}
use Rattle.ledgers.proofs.Lemmas.{holder_keys, held_by_total}
use Rattle.call_dispatch.specs.declared.call.Call.TheVariants.{Batch}
use Rattle.call_dispatch.specs.declared.end.CallEnd.TheVariants.{Error}
use Rattle.call_dispatch.specs.Spelling.{AnyCall}
use Rattle.call_dispatch.specs.Shifts.{AccountRow, account_row_cmp, RowAmounts, Floors, is_listed_row, shifted}
use Rattle.call_dispatch.specs.Dispatches.{Done, dispatch}
use Rattle.call_dispatch.proofs.Lemmas.ShiftLaws.{account_row_keys, amount-shifted}
use Rattle.call_dispatch.proofs.Lemmas.DispatchLaws.{total-dispatch, total_others, floor_stays, total_interrupted, total_others_interrupted, error_stays}
use Rattle.row_ledger.specs.RowAccounts.{is_fungible_kind, is_fungible, is_fungible_row, fungible_from, fungible_rows, row_of_unit, has_row_number, numbered, unit_of_row, unit_at, holder_at, row_amounts, held_aside, with_row_amounts}
use Rattle.row_ledger.specs.Calls.{call_end, held_called, IsHeldInPart}
use Rattle.row_ledger.specs.AccountLaws.{moved_between}
use Rattle.plain_lists.proofs.Lemmas.Facts.{found_some}

-- ---- rows and units
row_says : (rows : List AssetRow) (r : ℕ) (k : Listed) → slice_get (listing rows) r ≡ Some k → unit_of_row (slice_get rows r) ≡ (k.0, None)
row_says [] r k e = absurd cc
row_says (x ∷ xs) zero k e = (let same : listed_row x ≡ k = cc in ap (λ (l : Listed). (l.0, None)) same)
row_says (x ∷ xs) (suc r) k e = row_says xs r k e

-- what is at the number of an asset is that asset
number_at : (listed : List Listed) (k : Listed) (r : ℕ) → number_in listed k ≡ Some r → slice_get listed r ≡ Some k
number_at listed k r e =
    let p = position-Some (eq_by_cmp listed_cmp k) listed r k e in
    slice_get-get_or listed r k p.0 ∙ ap Some (sym (key_same listed_keys k (get_or listed r k) p.1))

-- the row of a unit has that unit
pub unit_found : (rows : List AssetRow) (u : Unit) (r : ℕ) → row_of_unit rows u ≡ Some r → unit_at rows r ≡ u
unfolding row_of_unit unit_at
unit_found rows (id, None) r e = row_says rows r (id, Fungible) (number_at (listing rows) (id, Fungible) r e)
unit_found rows (id, Some instance) r e = absurd cc

-- and is fungible
fungible_at : (rows : List AssetRow) (r : ℕ) (k : Listed) → slice_get (listing rows) r ≡ Some k → is_fungible_kind k.1 ≡ true → is_fungible_row (slice_get rows r) ≡ true
fungible_at [] r k e kind = absurd cc
fungible_at (x ∷ xs) zero k e kind = (let same : listed_row x ≡ k = cc in ap (λ (l : Listed). is_fungible_kind l.1) same ∙ kind)
fungible_at (x ∷ xs) (suc r) k e kind = fungible_at xs r k e kind

pub fungible_found : (rows : List AssetRow) (u : Unit) (r : ℕ) → row_of_unit rows u ≡ Some r → is_fungible_row (slice_get rows r) ≡ true
unfolding row_of_unit
fungible_found rows (id, None) r e = fungible_at rows r (id, Fungible) (number_at (listing rows) (id, Fungible) r e) refl
fungible_found rows (id, Some instance) r e = absurd cc

-- a fungible row is the one of its unit, where no asset is listed twice
kind_is : (k : Kind) → is_fungible_kind k ≡ true → k ≡ Fungible
kind_is Fungible e = refl
kind_is Class e = absurd cc

listed_there : (rows : List AssetRow) (r : ℕ) → is_fungible_row (slice_get rows r) ≡ true → slice_get (listing rows) r ≡ Some ((unit_of_row (slice_get rows r)).0, Fungible)
listed_there [] r e = absurd cc
listed_there (x ∷ xs) zero e = ap (λ (k : Kind). Some (Concrete x.id, k)) (kind_is x.kind e)
listed_there (x ∷ xs) (suc r) e = listed_there xs r e

-- it is an amount
no_instance : (o : Option AssetRow) → (unit_of_row o).1 ≡ None
no_instance None = refl
no_instance (Some row) = refl

-- an asset that isn't listed twice is found at its index
all_at : (e : Listed → Bool) (xs : List Listed) (r : ℕ) (k : Listed) → AllByRecursion (λ (x : Listed). e x ≡ false) xs → slice_get xs r ≡ Some k → e k ≡ false
all_at e [] r k all at = absurd cc
all_at e (x ∷ xs) zero k all at = (let same : x ≡ k = cc in subst (λ (y : Listed). e y ≡ false) same all.0)
all_at e (x ∷ xs) (suc r) k all at = all_at e xs r k all.1 at

apart : (k x : Listed) → eq_by_cmp listed_cmp x k ≡ false → eq_by_cmp listed_cmp k x ≡ false
apart k x other =
    elim (cases_Bool (eq_by_cmp listed_cmp k x)) [
      | inl same ↦ absurd (let keys : k ≡ x = key_same listed_keys k x same in
          let here : eq_by_cmp listed_cmp x k ≡ true = ap (eq_by_cmp listed_cmp x) keys ∙ same_key listed_keys x in cc)
      | inr is ↦ is
    ]

stands_at : (listed : List Listed) (r : ℕ) (k : Listed) → IsDistinct (eq_by_cmp listed_cmp) listed → slice_get listed r ≡ Some k → (position_or_len (eq_by_cmp listed_cmp k) listed ≡ r) × (r < length listed)
unfolding IsDistinct
stands_at [] r k once at = absurd cc
stands_at (x ∷ xs) zero k once at =
    let same : x ≡ k = cc in
    let passes : eq_by_cmp listed_cmp k x ≡ true = ap (eq_by_cmp listed_cmp k) same ∙ same_key listed_keys k in
    (ap (λ (b : Bool). cond {A = ℕ} (not b) (1 + position_or_len (eq_by_cmp listed_cmp k) xs) 0) passes, omega arith)
stands_at (x ∷ xs) (suc r) k once at =
    let rest = stands_at xs r k once.1 at in
    let fails : eq_by_cmp listed_cmp k x ≡ false = apart k x (all_at (eq_by_cmp listed_cmp x) xs r k once.0 at) in
    let here : cond {A = ℕ} (not (eq_by_cmp listed_cmp k x)) (1 + position_or_len (eq_by_cmp listed_cmp k) xs) 0 ≡ 1 + position_or_len (eq_by_cmp listed_cmp k) xs = ap (λ (b : Bool). cond {A = ℕ} (not b) (1 + position_or_len (eq_by_cmp listed_cmp k) xs) 0) fails in
    let place = rest.0 in
    let few = rest.1 in
    (omega (arith, here, place), omega (arith, few))

number_of_place : (listed : List Listed) (r : ℕ) (k : Listed) → IsDistinct (eq_by_cmp listed_cmp) listed → slice_get listed r ≡ Some k → number_in listed k ≡ Some r
number_of_place listed r k once at =
    let place = stands_at listed r k once at in
    ap (λ (n : ℕ). cond (nat_lt n (length listed)) (Some n) None) place.0 ∙ found_some r (length listed) place.1

-- so the row of the unit of a fungible row is that row
pub found_by_number : (rows : List AssetRow) → IsDistinct (eq_by_cmp listed_cmp) (listing rows) → (r : ℕ) → is_fungible_row (slice_get rows r) ≡ true → row_of_unit rows (unit_at rows r) ≡ Some r
unfolding row_of_unit unit_at
found_by_number rows once r e =
    ap (row_of_unit rows) (let pair : unit_of_row (slice_get rows r) ≡ ((unit_of_row (slice_get rows r)).0, None) = ap (λ (i : Option Instance). ((unit_of_row (slice_get rows r)).0, i)) (no_instance (slice_get rows r)) in pair)
    ∙ number_of_place (listing rows) r ((unit_of_row (slice_get rows r)).0, Fungible) once (listed_there rows r e)

by_number : (rows : List AssetRow) (u : Unit) (o : Option ℕ) → row_of_unit rows u ≡ o → is_some o ≡ true → unit_at rows (unwrap_or o 0) ≡ u
by_number rows u None e some = absurd cc
by_number rows u (Some r) e some = unit_found rows u r e

-- by the number of its row a holder is found again
pub holder_back : (rows : List AssetRow) (h : Holder) → has_row_number rows h ≡ true → holder_at rows (numbered rows h) ≡ h
holder_back rows h some = ap (λ (u : Unit). (h.0, u)) (by_number rows h.1 (row_of_unit rows h.1) refl some)

-- ---- which rows are there and fungible
past_first : (n r : ℕ) → n ≢ r → (b : Bool) → ((n == r) || b) ≡ b
past_first n r other b = ap (λ (a : Bool). a || b) (ne_eqb n r other)

none_below : (n r : ℕ) (rows : List AssetRow) → r < n → is_listed_row (fungible_from n rows) r ≡ false
none_below n r [] lt = refl
none_below n r (row ∷ rows) lt =
    elim (is_fungible row) as (λ b. is_listed_row (if b then n ∷ fungible_from (suc n) rows else fungible_from (suc n) rows) r ≡ false) [
      | true ↦ past_first n r (let other : n ≢ r = omega (arith, lt) in other) _ ∙ none_below (suc n) r rows (omega (arith, lt))
      | false ↦ none_below (suc n) r rows (omega (arith, lt))
    ]

there_from : (n k : ℕ) (rows : List AssetRow) → is_listed_row (fungible_from n rows) (n + k) ≡ is_fungible_row (slice_get rows k)
there_from n k [] = refl
there_from n zero (row ∷ rows) =
    let at : n + 0 ≡ n = omega arith in
    ap (is_listed_row (fungible_from n (row ∷ rows))) at
    ∙ elim (is_fungible row) as (λ b. is_listed_row (if b then n ∷ fungible_from (suc n) rows else fungible_from (suc n) rows) n ≡ b) [
      | true ↦ ap (λ (a : Bool). a || is_listed_row (fungible_from (suc n) rows) n) (eq-eqb n n refl)
      | false ↦ none_below (suc n) n rows (omega arith)
    ]
there_from n (suc k) (row ∷ rows) =
    let at : n + suc k ≡ suc n + k = omega arith in
    ap (is_listed_row (fungible_from n (row ∷ rows))) at
    ∙ elim (is_fungible row) as (λ b. is_listed_row (if b then n ∷ fungible_from (suc n) rows else fungible_from (suc n) rows) (suc n + k) ≡ is_fungible_row (slice_get rows k)) [
      | true ↦ past_first n (suc n + k) (let other : n ≢ suc n + k = omega arith in other) _ ∙ there_from (suc n) k rows
      | false ↦ there_from (suc n) k rows
    ]

-- a row is among them exactly where it is there and fungible
pub fungible_there : (rows : List AssetRow) (row : ℕ) → is_listed_row (fungible_rows rows) row ≡ is_fungible_row (slice_get rows row)
fungible_there rows row = let at : 0 + row ≡ row = omega arith in ap (is_listed_row (fungible_rows rows)) (sym at) ∙ there_from 0 row rows

-- ---- amounts by rows are amounts
module _ (rows : List AssetRow) where
  restricted_some : (held : Held) (h : Holder) → 0 < amount (restriction (has_row_number rows) held) h → has_row_number rows h ≡ true
  restricted_some held h some =
      elim (cases_Bool (has_row_number rows h)) [
        | inl here ↦ here
        | inr apart ↦ absurd (let is : amount (restriction (has_row_number rows) held) h ≡ 0 = amount-restriction holder_keys (has_row_number rows) held h ∙ ap (λ (b : Bool). amount_if b (amount held h)) apart in omega (arith, some, is))
      ]

  -- a sum over rows, by holders
  pub total-row_amounts : (t : AccountRow → Bool) (held : Held) → total t (row_amounts rows held) ≡ total (λ (h : Holder). has_row_number rows h && t (numbered rows h)) held
  unfolding row_amounts
  total-row_amounts t held =
      total-map_keys {S = holder_cmp} account_row_keys t (numbered rows) (restriction (has_row_number rows) held)
      ∙ total-restriction holder_keys (λ (h : Holder). t (numbered rows h)) (has_row_number rows) held

  amount-back : (held : Held) (q : Holder) → amount (map_keys {S = account_row_cmp} {R = holder_cmp} (holder_at rows) (row_amounts rows held)) q ≡ amount (restriction (has_row_number rows) held) q
  unfolding row_amounts
  amount-back held q =
      amount-map_keys {S = account_row_cmp} holder_keys (holder_at rows) (row_amounts rows held) q
      ∙ total-map_keys {S = holder_cmp} account_row_keys (λ (k : AccountRow). eq_by_cmp holder_cmp q (holder_at rows k)) (numbered rows) (restriction (has_row_number rows) held)
      ∙ total_alike_held holder_keys (λ (h : Holder). eq_by_cmp holder_cmp q (holder_at rows (numbered rows h))) (eq_by_cmp holder_cmp q) (restriction (has_row_number rows) held)
      (λ h some. ap (eq_by_cmp holder_cmp q) (holder_back rows h (restricted_some held h some)))
      ∙ sym (amount-total holder_keys (restriction (has_row_number rows) held) q)

  either : (b : Bool) (n : ℕ) → amount_if (not b) n + amount_if b n ≡ n
  either true n = omega arith
  either false n = omega arith

  -- what is held is what is held of fungible rows, and the rest
  pub held_again : (held : Held) → with_row_amounts rows held (row_amounts rows held) ≡ held
  unfolding with_row_amounts held_aside
  held_again held = same_amounts holder_keys _ _ by_key
    where
      by_key : (q : Holder) → amount (merge (restriction (λ (h : Holder). not (has_row_number rows h)) held) (map_keys (holder_at rows) (row_amounts rows held))) q ≡ amount held q
      by_key q =
          let sum = amount-merge holder_keys (restriction (λ (h : Holder). not (has_row_number rows h)) held) (map_keys (holder_at rows) (row_amounts rows held)) q in
          let aside = amount-restriction holder_keys (λ (h : Holder). not (has_row_number rows h)) held q in
          let back = amount-back held q in
          let within = amount-restriction holder_keys (has_row_number rows) held q in
          let all = either (has_row_number rows q) (amount held q) in
          omega (arith, sum, aside, back, within, all)

  -- so what is held is known by both
  pub known_by_rows : (held now : Held) (m : RowAmounts) → held_aside rows now ≡ held_aside rows held → row_amounts rows now ≡ m → now ≡ with_row_amounts rows held m
  unfolding with_row_amounts
  known_by_rows held now m aside amounts = sym (held_again now) ∙ ap (λ (x : Held). merge x (map_keys (holder_at rows) (row_amounts rows now))) aside ∙ ap (λ (x : RowAmounts). merge (held_aside rows held) (map_keys (holder_at rows) x)) amounts

  pub total-with_rows : (t : Holder → Bool) (held : Held) (m : RowAmounts) → total t (with_row_amounts rows held m) ≡ total t (held_aside rows held) + total (λ (k : AccountRow). t (holder_at rows k)) m
  unfolding with_row_amounts
  total-with_rows t held m =
      total-merge holder_keys t (held_aside rows held) (map_keys (holder_at rows) m)
      ∙ ap (λ n. total t (held_aside rows held) + n) (total-map_keys {S = account_row_cmp} holder_keys t (holder_at rows) m)

  -- sums over what is held follow sums over rows
  pub total_same : (t : Holder → Bool) (held : Held) (m : RowAmounts) → total (λ (k : AccountRow). t (holder_at rows k)) m ≡ total (λ (k : AccountRow). t (holder_at rows k)) (row_amounts rows held)
      → total t (with_row_amounts rows held m) ≡ total t held
  total_same t held m same =
      let now = total-with_rows t held m in
      let was = total-with_rows t held (row_amounts rows held) in
      let again : total t (with_row_amounts rows held (row_amounts rows held)) ≡ total t held = ap (total t) (held_again held) in
      omega (arith, now, was, again, same)

  pub total_more : (t : Holder → Bool) (held : Held) (m : RowAmounts) → total (λ (k : AccountRow). t (holder_at rows k)) (row_amounts rows held) ≤ total (λ (k : AccountRow). t (holder_at rows k)) m
      → total t held ≤ total t (with_row_amounts rows held m)
  total_more t held m more =
      let now = total-with_rows t held m in
      let was = total-with_rows t held (row_amounts rows held) in
      let again : total t (with_row_amounts rows held (row_amounts rows held)) ≡ total t held = ap (total t) (held_again held) in
      omega (arith, now, was, again, more)

-- ---- calls
module _ (rows : List AssetRow) (held : Held) (floors : Floors) (who : List ℕ) (c : AnyCall) where
  -- a sum over all accounts stays
  pub total_called : (t : Holder → Bool) → ((a b : List ℕ) (u : Unit) → t (a, u) ≡ t (b, u)) → total t (held_called rows held floors who c) ≡ total t held
  unfolding held_called
  total_called t alike = total_same rows t held _ (total-dispatch (row_amounts rows held) floors (fungible_rows rows) who c (λ (k : AccountRow). t (holder_at rows k)) (λ a b row. alike a b (unit_at rows row)))

  -- a sum without the caller doesn't fall
  pub more_called : (t : Holder → Bool) → ((u : Unit) → t (who, u) ≡ false) → total t held ≤ total t (held_called rows held floors who c)
  unfolding held_called
  more_called t without = total_more rows t held _ (total_others (row_amounts rows held) floors (fungible_rows rows) who c (λ (k : AccountRow). t (holder_at rows k)) (λ row. without (unit_at rows row)))

  -- a call that fails changes nothing
  pub error_called : (code : ℕ) → call_end rows held floors who c ≡ Error code → held_called rows held floors who c ≡ held
  unfolding held_called
  error_called code e = ap (with_row_amounts rows held) (error_stays floors (fungible_rows rows) who (row_amounts rows held) c code e) ∙ held_again rows held

  module _ (now : Held) (h : IsHeldInPart rows held floors who c now) where
    -- what is left is what a batch of that prefix would leave
    pub front_called : now ≡ held_called rows held floors who (Batch h.interrupted.front)
    unfolding held_called dispatch
    front_called = h.is ∙ ap (λ (d : Done). with_row_amounts rows held d.0) (sym h.interrupted.done)

    pub total_in_part : (t : Holder → Bool) → ((a b : List ℕ) (u : Unit) → t (a, u) ≡ t (b, u)) → total t now ≡ total t held
    total_in_part t alike =
        ap (total t) h.is
        ∙ total_same rows t held h.amounts (total_interrupted (row_amounts rows held) floors (fungible_rows rows) who c h.amounts h.interrupted (λ (k : AccountRow). t (holder_at rows k)) (λ a b row. alike a b (unit_at rows row)))

    pub more_in_part : (t : Holder → Bool) → ((u : Unit) → t (who, u) ≡ false) → total t held ≤ total t now
    more_in_part t without = subst (λ (x : Held). total t held ≤ total t x) (sym h.is)
        (total_more rows t held h.amounts (total_others_interrupted (row_amounts rows held) floors (fungible_rows rows) who c h.amounts h.interrupted (λ (k : AccountRow). t (holder_at rows k)) (λ row. without (unit_at rows row))))

module _ (rows : List AssetRow) (u : Unit) (row : ℕ) (is : row_of_unit rows u ≡ Some row) where
  has : (who : List ℕ) → has_row_number rows (who, u) ≡ true
  has who = ap (λ (o : Option ℕ). is_some o) is

  number : (who : List ℕ) → numbered rows (who, u) ≡ (who, row)
  number who = ap (λ (o : Option ℕ). (who, unwrap_or o 0)) is

  -- the test of an amount of the row, by holders
  at_row : (q : AccountRow) (who : List ℕ) → (has_row_number rows (who, u) && eq_by_cmp account_row_cmp q (numbered rows (who, u))) ≡ eq_by_cmp account_row_cmp q (who, row)
  at_row q who = ap (λ (b : Bool). b && eq_by_cmp account_row_cmp q (numbered rows (who, u))) (has who) ∙ ap (eq_by_cmp account_row_cmp q) (number who)

  amount-row_amounts : (held : Held) (q : AccountRow) → amount (row_amounts rows held) q ≡ total (λ (h : Holder). has_row_number rows h && eq_by_cmp account_row_cmp q (numbered rows h)) held
  amount-row_amounts held q = amount-total account_row_keys (row_amounts rows held) q ∙ total-row_amounts rows (eq_by_cmp account_row_cmp q) held

  same_test : (who : List ℕ) (h : Holder) → (has_row_number rows h && eq_by_cmp account_row_cmp (who, row) (numbered rows h)) ≡ eq_by_cmp holder_cmp (who, u) h
  same_test who h = by_case (cases_Bool (eq_by_cmp holder_cmp (who, u) h)) (cases_Bool (has_row_number rows h)) (cases_Bool (eq_by_cmp account_row_cmp (who, row) (numbered rows h)))
    where
      by_case : (eq_by_cmp holder_cmp (who, u) h ≡ true) ⊎ (eq_by_cmp holder_cmp (who, u) h ≡ false) → (has_row_number rows h ≡ true) ⊎ (has_row_number rows h ≡ false)
          → (eq_by_cmp account_row_cmp (who, row) (numbered rows h) ≡ true) ⊎ (eq_by_cmp account_row_cmp (who, row) (numbered rows h) ≡ false)
          → (has_row_number rows h && eq_by_cmp account_row_cmp (who, row) (numbered rows h)) ≡ eq_by_cmp holder_cmp (who, u) h
      by_case (inl here) listed same =
          let key : (who, u) ≡ h = key_same holder_keys (who, u) h here in
          subst (λ (g : Holder). (has_row_number rows g && eq_by_cmp account_row_cmp (who, row) (numbered rows g)) ≡ eq_by_cmp holder_cmp (who, u) g) key
          (at_row (who, row) who ∙ same_key account_row_keys (who, row) ∙ sym (same_key holder_keys (who, u)))
      by_case (inr apart) (inr unlisted) same = ap (λ (b : Bool). b && eq_by_cmp account_row_cmp (who, row) (numbered rows h)) unlisted ∙ sym apart
      by_case (inr apart) (inl listed) (inr other) = ap (λ (b : Bool). b && eq_by_cmp account_row_cmp (who, row) (numbered rows h)) listed ∙ other ∙ sym apart
      by_case (inr apart) (inl listed) (inl same) =
          let key : (who, row) ≡ numbered rows h = key_same account_row_keys (who, row) (numbered rows h) same in
          let back : (who, u) ≡ h = ap (λ (v : Unit). (who, v)) (sym (unit_found rows u row is)) ∙ ap (holder_at rows) key ∙ holder_back rows h listed in
          let here : eq_by_cmp holder_cmp (who, u) h ≡ true = ap (eq_by_cmp holder_cmp (who, u)) (sym back) ∙ same_key holder_keys (who, u) in
          absurd cc

  -- what an account has of the row is what it holds of the unit
  pub amount_of_row : (held : Held) (who : List ℕ) → amount (row_amounts rows held) (who, row) ≡ amount held (who, u)
  amount_of_row held who = amount-row_amounts held (who, row) ∙ total_alike _ (eq_by_cmp holder_cmp (who, u)) held (same_test who) ∙ sym (amount-total holder_keys held (who, u))

  -- the amounts of rows follow a move
  pub row_amounts-moved : (held : Held) (from to : List ℕ) (n : ℕ) → n ≤ amount held (from, u) → row_amounts rows (moved_between held u from to n) ≡ shifted (row_amounts rows held) row from to n
  row_amounts-moved held from to n le = same_amounts account_row_keys _ _ (λ q.
      let now = amount-row_amounts (moved_between held u from to n) q in
      let was = amount-row_amounts held q in
      let more = total-plus holder_keys (λ (h : Holder). has_row_number rows h && eq_by_cmp account_row_cmp q (numbered rows h)) (minus held (from, u) n) (to, u) n in
      let less = total-minus holder_keys (λ (h : Holder). has_row_number rows h && eq_by_cmp account_row_cmp q (numbered rows h)) held (from, u) n le in
      let got = ap (λ (b : Bool). amount_if b n) (at_row q to) in
      let given = ap (λ (b : Bool). amount_if b n) (at_row q from) in
      let is = amount-shifted (row_amounts rows held) row from to n q in
      omega (arith, now, was, more, less, got, given, is))

  -- and all else stays
  pub held_aside-moved : (held : Held) (from to : List ℕ) (n : ℕ) → held_aside rows (moved_between held u from to n) ≡ held_aside rows held
  unfolding held_aside
  held_aside-moved held from to n = same_amounts holder_keys _ _ (λ q. by_case q (cases_Bool (has_row_number rows q)))
    where
      differ : (q : Holder) (who : List ℕ) → has_row_number rows q ≡ false → eq_by_cmp holder_cmp q (who, u) ≡ false
      differ q who unlisted =
          elim (cases_Bool (eq_by_cmp holder_cmp q (who, u))) [
            | inl same ↦ absurd (let listed : has_row_number rows q ≡ true = ap (has_row_number rows) (key_same holder_keys q (who, u) same) ∙ has who in cc)
            | inr apart ↦ apart
          ]

      by_case : (q : Holder) → (has_row_number rows q ≡ true) ⊎ (has_row_number rows q ≡ false)
          → amount (restriction (λ (h : Holder). not (has_row_number rows h)) (moved_between held u from to n)) q ≡ amount (restriction (λ (h : Holder). not (has_row_number rows h)) held) q
      by_case q (inl listed) =
          amount-restriction holder_keys (λ (h : Holder). not (has_row_number rows h)) (moved_between held u from to n) q
          ∙ ap (λ (b : Bool). amount_if (not b) (amount (moved_between held u from to n) q)) listed
          ∙ sym (amount-restriction holder_keys (λ (h : Holder). not (has_row_number rows h)) held q ∙ ap (λ (b : Bool). amount_if (not b) (amount held q)) listed)
      by_case q (inr unlisted) =
          let more = amount-plus holder_keys (minus held (from, u) n) (to, u) n q in
          let less = amount-minus holder_keys held (from, u) n q in
          let got : amount_if (eq_by_cmp holder_cmp q (to, u)) n ≡ 0 = ap (λ (b : Bool). amount_if b n) (differ q to unlisted) in
          let given : amount_if (eq_by_cmp holder_cmp q (from, u)) n ≡ 0 = ap (λ (b : Bool). amount_if b n) (differ q from unlisted) in
          let same : amount (moved_between held u from to n) q ≡ amount held q = omega (arith, more, less, got, given) in
          amount-restriction holder_keys (λ (h : Holder). not (has_row_number rows h)) (moved_between held u from to n) q
          ∙ ap (λ (x : ℕ). amount_if (not (has_row_number rows q)) x) same
          ∙ sym (amount-restriction holder_keys (λ (h : Holder). not (has_row_number rows h)) held q)

-- ---- the ledger's transfer of one asset
pub one_held : (who : List ℕ) (a : Asset) (q : Holder) → amount (held_by who (bundle_of (a ∷ []))) q ≡ amount_if (eq_by_cmp holder_cmp q (who, unit_of a)) (amount_of a)
one_held who a q =
    amount-total holder_keys (held_by who (bundle_of (a ∷ []))) q
    ∙ held_by_total (eq_by_cmp holder_cmp q) who (bundle_of (a ∷ []))
    ∙ total-bundle_of (λ (u : Unit). eq_by_cmp holder_cmp q (who, u)) (a ∷ [])
    ∙ (let e : amount_if (eq_by_cmp holder_cmp q (who, unit_of a)) (amount_of a) + 0 ≡ amount_if (eq_by_cmp holder_cmp q (who, unit_of a)) (amount_of a) = omega arith in e)

pub transferred_one : (ledger : Accounts) (from to : List ℕ) (a : Asset) → (Transferred from to (a ∷ []) ledger).held ≡ moved_between ledger.held (unit_of a) from to (amount_of a)
transferred_one ledger from to a = same_amounts holder_keys _ _ (λ q.
    let sum = amount-merge holder_keys (difference ledger.held (held_by from (bundle_of (a ∷ [])))) (held_by to (bundle_of (a ∷ []))) q in
    let left = amount-difference holder_keys ledger.held (held_by from (bundle_of (a ∷ []))) q in
    let given = one_held from a q in
    let got = one_held to a q in
    let more = amount-plus holder_keys (minus ledger.held (from, unit_of a) (amount_of a)) (to, unit_of a) (amount_of a) q in
    let less = amount-minus holder_keys ledger.held (from, unit_of a) (amount_of a) q in
    omega (arith, sum, left, given, got, more, less))

-- ---- what an account keeps
module _ (rows : List AssetRow) (held : Held) (m : RowAmounts) where
  row_at_most : (u : Unit) (row : ℕ) → row_of_unit rows u ≡ Some row → (one : List ℕ) → amount m (one, row) ≤ amount (with_row_amounts rows held m) (one, u)
  unfolding with_row_amounts
  row_at_most u row is one =
      let sum = amount-merge holder_keys (held_aside rows held) (map_keys (holder_at rows) m) (one, u) in
      let of_rows = amount-map_keys {S = account_row_cmp} holder_keys (holder_at rows) m (one, u) in
      let here : eq_by_cmp holder_cmp (one, u) (holder_at rows (one, row)) ≡ true = ap (λ (v : Unit). eq_by_cmp holder_cmp (one, u) (one, v)) (unit_found rows u row is) ∙ same_key holder_keys (one, u) in
      let most = amount_at_most account_row_keys (λ (k : AccountRow). eq_by_cmp holder_cmp (one, u) (holder_at rows k)) m (one, row) here in
      omega (arith, sum, of_rows, most)

  aside_at_most : (h : Holder) → has_row_number rows h ≡ false → amount held h ≤ amount (with_row_amounts rows held m) h
  unfolding with_row_amounts held_aside
  aside_at_most h unlisted =
      let sum = amount-merge holder_keys (held_aside rows held) (map_keys (holder_at rows) m) h in
      let aside = amount-restriction holder_keys (λ (g : Holder). not (has_row_number rows g)) held h ∙ ap (λ (b : Bool). amount_if (not b) (amount held h)) unlisted in
      omega (arith, sum, aside)

  -- an account has at least so much of a unit, where it has as much of its row now, if there is one, and had as much
  pub enough_with_rows : (one : List ℕ) (u : Unit) (n : ℕ) → ((row : ℕ) → row_of_unit rows u ≡ Some row → n ≤ amount m (one, row)) → n ≤ amount held (one, u)
      → n ≤ amount (with_row_amounts rows held m) (one, u)
  enough_with_rows one u n has low = by_row (row_of_unit rows u) refl
    where
      by_row : (o : Option ℕ) → row_of_unit rows u ≡ o → n ≤ amount (with_row_amounts rows held m) (one, u)
      by_row None e = let more = aside_at_most (one, u) (ap (λ (o : Option ℕ). is_some o) e) in omega (arith, low, more)
      by_row (Some row) e = let there = has row e in let more = row_at_most u row e one in omega (arith, there, more)

-- a call leaves an account what is its floor of the unit's row, if there is one
pub floor_called : (rows : List AssetRow) (held : Held) (floors : Floors) (who : List ℕ) (c : AnyCall) (one : List ℕ) (u : Unit) (n : ℕ)
    → ((row : ℕ) → row_of_unit rows u ≡ Some row → floors (one, row) ≡ n) → n ≤ amount held (one, u) → n ≤ amount (held_called rows held floors who c) (one, u)
unfolding held_called
floor_called rows held floors who c one u n says low =
    enough_with_rows rows held (dispatch (row_amounts rows held) floors (fungible_rows rows) who c).0 one u n
    (λ row e.
    let has = amount_of_row rows u row e held one in
    let is = says row e in
    let stays = floor_stays (row_amounts rows held) floors (fungible_rows rows) who c (one, row) (omega (arith, low, has, is)) in
    omega (arith, is, stays))
    low
