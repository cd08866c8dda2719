-- Lemmas on the definitions of `specs/Laws.antt`: what proofs cite.
pub mod AccountLaws
use Rattle.std.proofs.Common.{◌≡◌, ◌⊎◌, inl, inr, ℕ, zero, suc, ◌+◌, ◌-◌, ◌^◌, ◌<◌, ◌≤◌, ◌||◌, Bool, true, false, ltb, leb, List, [], ◌∷◌, length, get_or, Option, Some, None, Result, Ok, Err, refl, sym, ap, ◌∙◌, arith}
use Rattle.std.specs.Prelude.{if◌then◌else◌, slice_get, IsSomeAnd, IfOk, OnOk, OnErr}
use Rattle.std.specs.Ordering.{eq_by_cmp}
use Rattle.std.specs.List.{IsDistinct}
use Rattle.std.proofs.lemmas.Bool.{cases_Bool, ltb-true, ltb-false, leb-true, le-leb, lt-leb}
use Rattle.std.proofs.lemmas.Option.{slice_get-get_or}
use Rattle.amounts.specs.Rows.{amount_if}
use Rattle.amounts.specs.Amounts.{amount, minus}
use Rattle.amounts.proofs.Lemmas.AmountLaws.{same_amounts}
use Rattle.amounts.proofs.Lemmas.{key_same, same_key, amount-plus, amount-minus, amount-difference}
use Rattle.asset_lists.specs.declared.units.AssetId.{AssetId}
use Rattle.asset_lists.specs.declared.units.AssetId.TheVariants.{Concrete}
use Rattle.asset_lists.specs.declared.units.Kind.{Kind}
use Rattle.asset_lists.specs.declared.units.Fun.TheVariants.{Fungible}
use Rattle.asset_lists.specs.declared.units.Asset.{Asset}
use Rattle.asset_lists.specs.Units.{Unit}
use Rattle.asset_lists.specs.Listed.{Listed, listed_cmp}
use Rattle.asset_bundles.specs.Bundles.{bundle_of}
use Rattle.trust_tables.specs.declared.rows.AssetRow.{AssetRow}
use Rattle.trust_tables.specs.Trust.{listing}
use Rattle.ledgers.specs.Ledgers.{Holder, holder_cmp, Held, Accounts, held_by, Withdrawn, Transferred, shortage, barred}
use Rattle.ledgers.proofs.Lemmas.{account_keys, holder_keys}
use Rattle.ledgers.specs.LedgerFaults.{IsTransferable}
use Rattle.call_dispatch.specs.declared.faults.ShiftFault.{ShiftFault}
use Rattle.call_dispatch.specs.declared.faults.ShiftFault.TheVariants.{NoRow, NotEnough, Overflow, Memory}
use Rattle.call_dispatch.specs.declared.end.CallEnd.{CallEnd}
use Rattle.call_dispatch.specs.Spelling.{AnyCall}
use Rattle.call_dispatch.specs.Dispatches.{Done, IsInterrupted}
use Rattle.call_dispatch.specs.Shifts.{RowAmounts, is_same_account, shift_fault, shifted, Shifts}
use Rattle.row_ledger.specs.RowAccounts.{is_fungible_kind, is_fungible_row, fungible_rows, row_of_unit, unit_of_row, unit_at, row_amounts, held_aside, with_row_amounts, no_floors}
use Rattle.row_ledger.specs.Calls.{called, held_called, IsHeldInPart}
use Rattle.row_ledger.specs.AccountLaws.{moved_between}
use Rattle.row_ledger.proofs.Lemmas.AccountLaws.{found_by_number, known_by_rows, one_held, transferred_one, fungible_there, amount_of_row, row_amounts-moved, held_aside-moved}
use Rattle.row_ledger.specs.Nothing.{Nothing}
use Rattle.row_ledger.specs.Moves.{unit_fault, moved_unit, MovesUnit}

-- ---- an amount of one asset, in the ledger's words
abbrev pub some_of : AssetId → ℕ → Asset
some_of id n = record { id = id; fun = Fungible n }

tests_pass : (enough same few : Bool) (have has : ℕ) → (if enough then (if same || few then None else Some (Overflow has)) else Some (NotEnough have)) ≡ None → (enough ≡ true) × ((same ≡ true) ⊎ (few ≡ true))
tests_pass true true few have has e = (refl, inl refl)
tests_pass true false true have has e = (refl, inr refl)
tests_pass true false false have has e = absurd cc
tests_pass false same few have has e = absurd cc

never_no_row : (enough room : Bool) (have has : ℕ) → (if enough then (if room then None else Some (Overflow has)) else Some (NotEnough have)) ≡ Some NoRow → ⊥
never_no_row true true have has e = cc
never_no_row true false have has e = cc
never_no_row false room have has e = cc

never_memory : (enough room : Bool) (have has : ℕ) → (if enough then (if room then None else Some (Overflow has)) else Some (NotEnough have)) ≡ Some Memory → ⊥
never_memory true true have has e = cc
never_memory true false have has e = cc
never_memory false room have has e = cc

module _ (ledger : Accounts) (id : AssetId) (from to : List ℕ) (n : ℕ) where
  apart : is_same_account from to ≡ false → eq_by_cmp holder_cmp (to, (id, None)) (from, (id, None)) ≡ false
  apart other =
      elim (cases_Bool (eq_by_cmp holder_cmp (to, (id, None)) (from, (id, None)))) [
        | inl same ↦ absurd (let keys : (to, (id, None)) ≡ (from, (id, None)) = key_same holder_keys (to, (id, None)) (from, (id, None)) same in
            let e : is_same_account from to ≡ true = ap (λ (h : Holder). is_same_account from h.0) keys ∙ same_key account_keys from in cc)
        | inr is ↦ is
      ]

  -- what the receiver has once the giver gave
  once_given : amount (Withdrawn from (some_of id n ∷ []) ledger).held (to, (id, None)) ≡ amount ledger.held (to, (id, None)) - amount_if (eq_by_cmp holder_cmp (to, (id, None)) (from, (id, None))) n
  once_given =
      amount-difference holder_keys ledger.held (held_by from (bundle_of (some_of id n ∷ []))) (to, (id, None))
      ∙ ap (λ (m : ℕ). amount ledger.held (to, (id, None)) - m) (one_held from (some_of id n) (to, (id, None)))

  other_given : is_same_account from to ≡ false → amount (Withdrawn from (some_of id n ∷ []) ledger).held (to, (id, None)) ≡ amount ledger.held (to, (id, None))
  other_given other =
      let same : amount_if (eq_by_cmp holder_cmp (to, (id, None)) (from, (id, None))) n ≡ 0 = ap (λ (b : Bool). amount_if b n) (apart other) in
      omega (arith, once_given, same)

  self_given : is_same_account from to ≡ true → amount (Withdrawn from (some_of id n ∷ []) ledger).held (to, (id, None)) ≡ amount ledger.held (from, (id, None)) - n
  self_given same =
      let keys : from ≡ to = key_same account_keys from to same in
      let here : eq_by_cmp holder_cmp (to, (id, None)) (from, (id, None)) ≡ true = ap (λ (who : List ℕ). eq_by_cmp holder_cmp (who, (id, None)) (from, (id, None))) (sym keys) ∙ same_key holder_keys (from, (id, None)) in
      once_given ∙ ap (λ (b : Bool). amount ledger.held (to, (id, None)) - amount_if b n) here ∙ ap (λ (who : List ℕ). amount ledger.held (who, (id, None)) - n) (sym keys)

  -- the ledger can move it
  no_shortage : n ≤ amount ledger.held (from, (id, None)) → shortage ledger.held from (some_of id n ∷ []) ≡ None
  no_shortage enough =
      elim (cases_Bool (ltb (amount ledger.held (from, (id, None))) n)) [
        | inl less ↦ absurd (let is = ltb-true _ _ less in omega (arith, is, enough))
        | inr is ↦ ap (λ (b : Bool). if b then Some (amount ledger.held (from, (id, None))) else None) is
      ]

  none_barred : amount (Withdrawn from (some_of id n ∷ []) ledger).held (to, (id, None)) + n ≤ 2 ^ 128 - 1
      → barred (Withdrawn from (some_of id n ∷ []) ledger).held to (some_of id n ∷ []) ≡ None
  none_barred few =
      elim (cases_Bool (ltb (2 ^ 128 - 1) (amount (Withdrawn from (some_of id n ∷ []) ledger).held (to, (id, None)) + n))) [
        | inl more ↦ absurd (let is = ltb-true _ _ more in omega (arith, is, few))
        | inr is ↦ ap (λ (b : Bool). if b then Some (some_of id n) else None) is
      ]

  allowed : unit_fault ledger.held (id, None) from to n ≡ None → (leb n (amount ledger.held (from, (id, None))) ≡ true) × ((is_same_account from to ≡ true) ⊎ (leb (amount ledger.held (to, (id, None)) + n) (2 ^ 128 - 1) ≡ true))
  unfolding unit_fault
  allowed = tests_pass (leb n (amount ledger.held (from, (id, None)))) (is_same_account from to) (leb (amount ledger.held (to, (id, None)) + n) (2 ^ 128 - 1)) (amount ledger.held (from, (id, None))) (amount ledger.held (to, (id, None)))

  pub is_transferable : amount ledger.held (from, (id, None)) < 2 ^ 128 → unit_fault ledger.held (id, None) from to n ≡ None → IsTransferable ledger from to (some_of id n ∷ [])
  is_transferable number none =
      let enough : n ≤ amount ledger.held (from, (id, None)) = leb-true _ _ (allowed none).0 in
      record {
        enough = no_shortage enough;
        free = none_barred (elim (cases_Bool (is_same_account from to)) [
          | inl same ↦ (let is = self_given same in omega (arith, is, enough, number))
          | inr other ↦ (let is = other_given other in elim ((allowed none).1) [
            | inl same ↦ absurd (let no : true ≡ false = sym same ∙ other in cc)
            | inr few ↦ (let less = leb-true _ _ few in omega (arith, is, less))
          ])
        ]);
      }

  pub moved_as : Transferred from to (some_of id n ∷ []) ledger ≡ moved_unit ledger (id, None) from to n
  moved_as = ap (λ (h : Held). record { listed = ledger.listed; held = h }) (transferred_one ledger from to (some_of id n))

  -- or it is refused
  pub is_refused : (fault : ShiftFault) → unit_fault ledger.held (id, None) from to n ≡ Some fault → MovesUnit (unit_fault ledger.held (id, None) from to n) (moved_unit ledger (id, None) from to n) ledger (Err fault) ledger
  unfolding unit_fault
  is_refused NoRow e = absurd (never_no_row (leb n (amount ledger.held (from, (id, None)))) (is_same_account from to || leb (amount ledger.held (to, (id, None)) + n) (2 ^ 128 - 1)) _ _ e)
  is_refused (NotEnough have) e = (e, refl)
  is_refused (Overflow have) e = (e, refl)
  is_refused Memory e = absurd (never_memory (leb n (amount ledger.held (from, (id, None)))) (is_same_account from to || leb (amount ledger.held (to, (id, None)) + n) (2 ^ 128 - 1)) _ _ e)

  -- nothing is moved
  none_if : (b : Bool) → amount_if b 0 ≡ 0
  none_if true = refl
  none_if false = refl

  pub nothing_moved : n ≡ 0 → moved_unit ledger (id, None) from to n ≡ ledger
  nothing_moved is_none =
      ap (λ (h : Held). record { listed = ledger.listed; held = h })
      (ap (moved_between ledger.held (id, None) from to) is_none
      ∙ same_amounts holder_keys _ _ (λ q.
      let more = amount-plus holder_keys (minus ledger.held (from, (id, None)) 0) (to, (id, None)) 0 q in
      let less = amount-minus holder_keys ledger.held (from, (id, None)) 0 q in
      let got = none_if (eq_by_cmp holder_cmp q (to, (id, None))) in
      let given = none_if (eq_by_cmp holder_cmp q (from, (id, None))) in
      omega (arith, more, less, got, given)))

-- ---- a move of a unit as a move of its row
abbrev fault_by : List ℕ → List ℕ → ℕ → Bool → ℕ → ℕ → Option ShiftFault
fault_by from to n there spare has =
    if there
    then (if leb n spare
    then (if is_same_account from to || leb (has + n) (2 ^ 128 - 1) then None else Some (Overflow has))
    else Some (NotEnough spare))
    else Some NoRow

pub no_row : (rows : List AssetRow) (m : RowAmounts) (row : ℕ) (from to : List ℕ) (n : ℕ) → is_fungible_row (slice_get rows row) ≡ false → shift_fault m no_floors (fungible_rows rows) row from to n ≡ Some NoRow
unfolding shift_fault
no_row rows m row from to n other = ap (λ (b : Bool). fault_by from to n b (amount m (from, row) - 0) (amount m (to, row))) (fungible_there rows row ∙ other)

module _ (rows : List AssetRow) (u : Unit) (row : ℕ) (there : is_fungible_row (slice_get rows row) ≡ true) (is : row_of_unit rows u ≡ Some row) (ledger : Accounts) (from to : List ℕ) (n : ℕ) where
  same_fault : shift_fault (row_amounts rows ledger.held) no_floors (fungible_rows rows) row from to n ≡ unit_fault ledger.held u from to n
  unfolding shift_fault unit_fault
  same_fault =
      let gives : amount (row_amounts rows ledger.held) (from, row) - 0 ≡ amount ledger.held (from, u) = (let e = amount_of_row rows u row is ledger.held from in omega (arith, e)) in
      ap (λ (b : Bool). fault_by from to n b (amount (row_amounts rows ledger.held) (from, row) - 0) (amount (row_amounts rows ledger.held) (to, row))) (fungible_there rows row ∙ there)
      ∙ ap (λ (x : ℕ). fault_by from to n true x (amount (row_amounts rows ledger.held) (to, row))) gives
      ∙ ap (λ (x : ℕ). fault_by from to n true (amount ledger.held (from, u)) x) (amount_of_row rows u row is ledger.held to)

  enough_held : unit_fault ledger.held u from to n ≡ None → n ≤ amount ledger.held (from, u)
  unfolding unit_fault
  enough_held e =
      elim (cases_Bool (leb n (amount ledger.held (from, u)))) [
        | inl enough ↦ leb-true _ _ enough
        | inr short ↦ absurd (let some : Some (NotEnough (amount ledger.held (from, u))) ≡ None = sym (ap (λ (b : Bool). if b then (if is_same_account from to || leb (amount ledger.held (to, u) + n) (2 ^ 128 - 1) then None else Some (Overflow (amount ledger.held (to, u)))) else Some (NotEnough (amount ledger.held (from, u)))) short) ∙ e in cc)
      ]

  pub shifts : (result : Result Nothing ShiftFault) (now : Accounts) → MovesUnit (unit_fault ledger.held u from to n) (moved_unit ledger u from to n) ledger result now
      → Shifts (shift_fault (row_amounts rows ledger.held) no_floors (fungible_rows rows) row from to n) (shifted (row_amounts rows ledger.held) row from to n) (row_amounts rows ledger.held) result (row_amounts rows now.held)
  shifts (Ok _) now h = (same_fault ∙ h.0, ap (λ (l : Accounts). row_amounts rows l.held) h.1 ∙ row_amounts-moved rows u row is ledger.held from to n (enough_held h.0))
  shifts (Err NoRow) now h = absurd h
  shifts (Err (NotEnough have)) now h = (same_fault ∙ h.0, ap (λ (l : Accounts). row_amounts rows l.held) h.1)
  shifts (Err (Overflow have)) now h = (same_fault ∙ h.0, ap (λ (l : Accounts). row_amounts rows l.held) h.1)
  shifts (Err Memory) now h = (same_fault ∙ h.0, ap (λ (l : Accounts). row_amounts rows l.held) h.1)

  pub aside_stays : (result : Result Nothing ShiftFault) (now : Accounts) → MovesUnit (unit_fault ledger.held u from to n) (moved_unit ledger u from to n) ledger result now
      → (now.listed ≡ ledger.listed) × (held_aside rows now.held ≡ held_aside rows ledger.held)
  aside_stays (Ok _) now h = (ap (λ (l : Accounts). l.listed) h.1, ap (λ (l : Accounts). held_aside rows l.held) h.1 ∙ held_aside-moved rows u row is ledger.held from to n)
  aside_stays (Err NoRow) now h = absurd h
  aside_stays (Err (NotEnough have)) now h = (ap (λ (l : Accounts). l.listed) h.1, ap (λ (l : Accounts). held_aside rows l.held) h.1)
  aside_stays (Err (Overflow have)) now h = (ap (λ (l : Accounts). l.listed) h.1, ap (λ (l : Accounts). held_aside rows l.held) h.1)
  aside_stays (Err Memory) now h = (ap (λ (l : Accounts). l.listed) h.1, ap (λ (l : Accounts). held_aside rows l.held) h.1)

-- ---- what is read of the table
pub past : (rows : List AssetRow) (row : ℕ) → ltb row (length rows) ≡ false → slice_get rows row ≡ None
past [] row e = refl
past (x ∷ xs) zero e = absurd (let far = ltb-false zero (suc (length xs)) e in omega (arith, far))
past (x ∷ xs) (suc row) e = past xs row (let far = ltb-false (suc row) (suc (length xs)) e in ge_ltb row (length xs) (omega (arith, far)))
  where
    ge_ltb : (a b : ℕ) → b ≤ a → ltb a b ≡ false
    ge_ltb a b h = elim (cases_Bool (ltb a b)) [ inl less ↦ absurd (let is = ltb-true a b less in omega (arith, is, h)) | inr is ↦ is ]

pub stands : (rows : List AssetRow) (row : ℕ) (found : AssetRow) → true ≡ ltb row (length rows) → found ≡ get_or rows row found → slice_get rows row ≡ Some found
stands rows row found e is = slice_get-get_or rows row found (ltb-true _ _ (sym e)) ∙ ap Some (sym is)

pub is_fungible_at : (rows : List AssetRow) (row : ℕ) (found : AssetRow) (kind : Kind) → slice_get rows row ≡ Some found → found.kind ≡ kind → is_fungible_row (slice_get rows row) ≡ is_fungible_kind kind
is_fungible_at rows row found kind at is = ap is_fungible_row at ∙ ap is_fungible_kind is

pub number_is : (rows : List AssetRow) (row : ℕ) (found : AssetRow) → IsDistinct (eq_by_cmp listed_cmp) (listing rows) → slice_get rows row ≡ Some found → is_fungible_row (slice_get rows row) ≡ true
    → row_of_unit rows (Concrete found.id, None) ≡ Some row
unfolding unit_at
number_is rows row found apart at there = ap (row_of_unit rows) (sym (ap unit_of_row at)) ∙ found_by_number rows apart row there

-- ---- what is held, by what a call says of rows and of all else
abbrev Beside : Type 0
Beside = List AssetRow × List Listed × Held

module _ (rows new_rows : List AssetRow) (listed new_listed : List Listed) (held now : Held)
    (other : (let before : Beside = (rows, listed, held_aside rows held) in let after : Beside = (new_rows, new_listed, held_aside new_rows now) in after ≡ before)) where
  pub rows_stay : new_rows ≡ rows
  rows_stay = ap (λ (b : Beside). b.0) other

  pub listed_stays : new_listed ≡ listed
  listed_stays = ap (λ (b : Beside). b.1) other

  pub held_by_rows : (m : RowAmounts) → row_amounts new_rows now ≡ m → now ≡ with_row_amounts rows held m
  held_by_rows m is =
      known_by_rows rows held now m
      (ap (λ (r : List AssetRow). held_aside r now) (sym rows_stay) ∙ ap (λ (b : Beside). b.2) other)
      (ap (λ (r : List AssetRow). row_amounts r now) (sym rows_stay) ∙ is)

  module _ (who : List ℕ) (c : AnyCall) where
    pub held_after : {E : Type 0} (result : Result CallEnd E) → IfOk result (λ end. (row_amounts new_rows now, end) ≡ called rows held no_floors who c) → OnOk result (now ≡ held_called rows held no_floors who c)
    unfolding held_called
    held_after (Ok end) ok = held_by_rows (called rows held no_floors who c).0 (ap (λ (d : Done). d.0) ok)
    held_after (Err e) ok = tt

    pub held_in_part : {E : Type 0} (result : Result CallEnd E) → OnErr result (IsInterrupted (row_amounts rows held) no_floors (fungible_rows rows) who c (row_amounts new_rows now))
        → OnErr result (IsHeldInPart rows held no_floors who c now)
    held_in_part (Ok end) h = tt
    held_in_part (Err e) h = record { amounts = row_amounts new_rows now; interrupted = h; is = held_by_rows (row_amounts new_rows now) refl }
