-- What is refused to an account, and where there is none.
use Rattle.std.proofs.Common.{◌≡◌, ℕ, ◌+◌, ◌<◌, zero, suc, Bool, true, false, ◌||◌, if◌then◌else◌, List, [], ◌∷◌, length, get_or, drop, refl, sym, ap, ◌∙◌, arith, true≢false}
use Rattle.std.specs.Prelude.{Option, None, Some, is_some, IsSomeAnd, slice_get, nat_lt, ◌==◌, Result, Ok, Err}
use Rattle.std.specs.List.{list_all}
use Rattle.std.proofs.lemmas.Bool.{and_from, and_parts}
use Rattle.std.proofs.lemmas.List.{drop_more}
use Rattle.amounts.specs.Amounts.{amount}
use Rattle.asset_lists.specs.declared.units.Asset.{Asset}
use Rattle.asset_lists.specs.Units.{unit_of, amount_of}
use Rattle.asset_lists.specs.Listed.{Listed, listed_of, lists}
use Rattle.trust_tables.specs.declared.rows.AssetRow.{AssetRow}
use Rattle.trust_tables.specs.Trust.{row_of, listed_row}
use Rattle.trust_tables.proofs.Lemmas.TrustLaws.{row_found}
use Rattle.ledgers.specs.Ledgers.{Held, Accounts, Withdrawn, shortage, barred, is_barred}
use Rattle.ledgers.specs.LedgerFaults.{IsBarred, IsFirstBarred}
use Rattle.ledgers.specs.declared.faults.DepositFault.{DepositFault}
use Rattle.transactors.specs.Floors.{UnitFloors}
use Rattle.transactors.specs.declared.faults.MoveFault.{MoveFault}
use Rattle.transactors.specs.declared.faults.MoveFault.TheVariants.{NotHandled, NoAccount, Refused, Memory}
use Rattle.transactors.specs.Checks.{accepted, is_unhandled, is_short_of, account_fault, move_fault, check_in, check_out}
use Rattle.transactors.specs.Moves.{earlier_fault, first_move_fault, withdraw_fault, transfer_fault, ledger_at_account, after_withdrawal, are_listed, Moves}
use Rattle.plain_lists.proofs.Lemmas.Facts.{none_if}

-- ---- answers
fault_told : Result (Unit {0}) MoveFault → Option MoveFault
fault_told (Ok done) = None
fault_told (Err fault) = Some fault

told_back : (o : Option MoveFault) → fault_told (accepted o) ≡ o
unfolding fault_told
told_back None = refl
told_back (Some fault) = refl

pub fault_is : (o : Option MoveFault) (fault : MoveFault) → Err fault ≡ accepted o → o ≡ Some fault
unfolding fault_told
fault_is o fault is = sym (told_back o) ∙ ap fault_told (sym is)

-- a list that isn't moved
pub refuses : {A : Type 0} (o : Option MoveFault) (answer : A) (after before : Accounts) (fault : MoveFault) → o ≡ Some fault → Moves o answer after before (Err fault) before
refuses o answer after before NotHandled h = (h, refl)
refuses o answer after before NoAccount h = (h, refl)
refuses o answer after before Refused h = (h, refl)
refuses o answer after before Memory h = refl

-- ---- the first fault
pub both_none : (x rest : Option MoveFault) → earlier_fault x rest ≡ None → (x ≡ None) × (rest ≡ None)
both_none None rest h = (refl, h)
both_none (Some fault) rest h = absurd (cc)

passed_first : (x rest : Option MoveFault) → x ≡ None → earlier_fault x rest ≡ rest
passed_first x rest h = ap (λ r. earlier_fault r rest) h

pub refused_first : (x rest : Option MoveFault) (fault : MoveFault) → x ≡ Some fault → earlier_fault x rest ≡ Some fault
refused_first x rest fault h = ap (λ r. earlier_fault r rest) h

handled_and : (b : Bool) (account : Option (List ℕ)) (refused : List ℕ → Bool) → move_fault b account refused ≡ None → (b ≡ true) × (account_fault account refused ≡ None)
handled_and true account refused h = (refl, h)
handled_and false account refused h = absurd (cc)

nobody : (account : Option (List ℕ)) (refused : List ℕ → Bool) → account ≡ None → account_fault account refused ≡ None → ⊥
nobody account refused none h = (let e : Some NoAccount ≡ None = ap (λ o. account_fault o refused) (sym none) ∙ h in absurd (cc))

-- without an account only nothing is moved
pub nobody_gives : (rows : List AssetRow) (floors : UnitFloors) (held : Held) (who : Option (List ℕ)) (list : List Asset) → who ≡ None → first_move_fault (check_out rows floors held who) list ≡ None → list ≡ []
nobody_gives rows floors held who [] none h = refl
nobody_gives rows floors held who (a ∷ rest) none h =
    absurd (nobody who (λ account. is_short_of floors held account a) none (handled_and (is_some (row_of rows a)) who (λ account. is_short_of floors held account a) (both_none _ _ h).0).1)

pub nobody_takes : (rows : List AssetRow) (held : Held) (who : Option (List ℕ)) (list : List Asset) → who ≡ None → first_move_fault (check_in rows held who) list ≡ None → list ≡ []
nobody_takes rows held who [] none h = refl
nobody_takes rows held who (a ∷ rest) none h =
    absurd (nobody who (λ account. is_barred held account a) none (handled_and (is_some (row_of rows a)) who (λ account. is_barred held account a) (both_none _ _ h).0).1)

-- without an account no asset that is handled is taken
nobody_takes_any : (rows : List AssetRow) (held : Held) (who : Option (List ℕ)) (list : List Asset) → who ≡ None → list_all (λ a. is_some (row_of rows a)) list ≡ true → (list ≡ [] → ⊥)
    → first_move_fault (check_in rows held who) list ≡ Some NoAccount
nobody_takes_any rows held who [] none handled some = absurd (some refl)
nobody_takes_any rows held who (a ∷ rest) none handled some =
    let here = (and_parts (is_some (row_of rows a)) (list_all (λ b. is_some (row_of rows b)) rest) handled).0 in
    λ i. earlier_fault (move_fault (here i) (none i) (λ account. is_barred held account a)) (first_move_fault (check_in rows held who) rest)

-- ---- an account that can give all
no_lack : (who : List ℕ) (account : Option (List ℕ)) (refused : List ℕ → Bool) → account ≡ Some who → account_fault account refused ≡ None → refused who ≡ false
no_lack who account refused is h =
    (let e : (if refused who then Some Refused else None) ≡ None = ap (λ o. account_fault o refused) (sym is) ∙ h in
    elim (refused who) as (λ t. (if t then Some Refused else None) ≡ None → t ≡ false) [
      | true ↦ λ g. absurd (cc)
      | false ↦ λ g. refl
    ] e)

pub nothing_lacked : (rows : List AssetRow) (floors : UnitFloors) (held : Held) (from : Option (List ℕ)) (who : List ℕ) (a : Asset) → from ≡ Some who
    → check_out rows floors held from a ≡ None → is_short_of floors held who a ≡ false
nothing_lacked rows floors held from who a is h =
    let here = handled_and (is_some (row_of rows a)) from (λ account. is_short_of floors held account a) h in
    no_lack who from (λ account. is_short_of floors held account a) is here.1

-- what has the amount and the floor has the amount
less_too : (have n floor : ℕ) → nat_lt have (n + floor) ≡ false → nat_lt have n ≡ false
less_too have n floor h = grind (arith, h)

pub enough_given : (rows : List AssetRow) (floors : UnitFloors) (held : Held) (from : Option (List ℕ)) (who : List ℕ) (list : List Asset) → from ≡ Some who
    → first_move_fault (check_out rows floors held from) list ≡ None → shortage held who list ≡ None
enough_given rows floors held from who [] is h = refl
enough_given rows floors held from who (a ∷ rest) is h =
    let parts = both_none _ _ h in
    let has = nothing_lacked rows floors held from who a is parts.0 in
    let enough = less_too (amount held (who, unit_of a)) (amount_of a) (floors who (unit_of a)) has in
    ap (λ b. if b then Some (amount held (who, unit_of a)) else shortage held who rest) enough ∙ enough_given rows floors held from who rest is parts.1

rows_given : (rows : List AssetRow) (floors : UnitFloors) (held : Held) (who : Option (List ℕ)) (list : List Asset) → first_move_fault (check_out rows floors held who) list ≡ None → list_all (λ a. is_some (row_of rows a)) list ≡ true
rows_given rows floors held who [] h = refl
rows_given rows floors held who (a ∷ rest) h =
    let parts = both_none _ _ h in
    and_from _ _ (handled_and (is_some (row_of rows a)) who (λ account. is_short_of floors held account a) parts.0).0 (rows_given rows floors held who rest parts.1)

pub rows_taken : (rows : List AssetRow) (held : Held) (who : Option (List ℕ)) (list : List Asset) → first_move_fault (check_in rows held who) list ≡ None → list_all (λ a. is_some (row_of rows a)) list ≡ true
rows_taken rows held who [] h = refl
rows_taken rows held who (a ∷ rest) h =
    let parts = both_none _ _ h in
    and_from _ _ (handled_and (is_some (row_of rows a)) who (λ account. is_barred held account a) parts.0).0 (rows_taken rows held who rest parts.1)

-- ---- what has a row is listed
row_there : (o : Option AssetRow) → is_some o ≡ true → (row : AssetRow) × (o ≡ Some row)
row_there None h = absurd (cc)
row_there (Some row) h = (row, refl)

listed_at : (listed : List Listed) (rows : List AssetRow) (i : ℕ) (row : AssetRow) → are_listed listed rows ≡ true → slice_get rows i ≡ Some row → lists listed (listed_row row) ≡ true
listed_at listed [] i row all at = absurd (cc)
listed_at listed (r ∷ rows) zero row all at = (let same : r ≡ row = cc in ap (λ x. lists listed (listed_row x)) (sym same) ∙ (and_parts (lists listed (listed_row r)) (are_listed listed rows) all).0)
listed_at listed (r ∷ rows) (suc i) row all at = listed_at listed rows i row (and_parts (lists listed (listed_row r)) (are_listed listed rows) all).1 at

is_listed : (listed : List Listed) (rows : List AssetRow) (a : Asset) → are_listed listed rows ≡ true → is_some (row_of rows a) ≡ true → lists listed (listed_of (unit_of a)) ≡ true
is_listed listed rows a all some =
    let there = row_there (row_of rows a) some in
    let found = row_found rows a there.0 there.1 in
    ap (lists listed) (λ i. (found.2.0 i, found.2.1 i)) ∙ listed_at listed rows found.0 there.0 all found.1

pub all_listed : (listed : List Listed) (rows : List AssetRow) (list : List Asset) → are_listed listed rows ≡ true → list_all (λ a. is_some (row_of rows a)) list ≡ true → list_all (λ a. lists listed (listed_of (unit_of a))) list ≡ true
all_listed listed rows [] all h = refl
all_listed listed rows (a ∷ rest) all h =
    let parts = and_parts (is_some (row_of rows a)) (list_all (λ b. is_some (row_of rows b)) rest) h in
    and_from _ _ (is_listed listed rows a all parts.0) (all_listed listed rows rest all parts.1)

-- ---- where each has a row, the receiver refuses exactly where the ledger bars it
refused_if : Option Asset → Option MoveFault
refused_if None = None
refused_if (Some a) = Some Refused

take_here : (row bar : Bool) (a : Asset) (rest : Option MoveFault) (found : Option Asset) → row ≡ true → rest ≡ refused_if found
    → earlier_fault (if row then (if bar then Some Refused else None) else Some NotHandled) rest ≡ refused_if (if bar then Some a else found)
unfolding refused_if
take_here true true a rest found h e = refl
take_here true false a rest found h e = e
take_here false bar a rest found h e = absurd (true≢false (sym h))

refused_as_barred : (rows : List AssetRow) (held : Held) (who : Option (List ℕ)) (to : List ℕ) (list : List Asset) → who ≡ Some to → list_all (λ a. is_some (row_of rows a)) list ≡ true
    → first_move_fault (check_in rows held who) list ≡ refused_if (barred held to list)
unfolding refused_if
refused_as_barred rows held who to [] is h = refl
refused_as_barred rows held who to (a ∷ rest) is h =
    let parts = and_parts (is_some (row_of rows a)) (list_all (λ b. is_some (row_of rows b)) rest) h in
    ap (λ o. earlier_fault (if is_some (row_of rows a) then account_fault o (λ account. is_barred held account a) else Some NotHandled) (first_move_fault (check_in rows held who) rest)) is
    ∙ take_here (is_some (row_of rows a)) (is_barred held to a) a (first_move_fault (check_in rows held who) rest) (barred held to rest) parts.0 (refused_as_barred rows held who to rest is parts.1)

taker_free : (rows : List AssetRow) (held : Held) (who : Option (List ℕ)) (to : List ℕ) (list : List Asset) → who ≡ Some to → list_all (λ a. is_some (row_of rows a)) list ≡ true → barred held to list ≡ None
    → first_move_fault (check_in rows held who) list ≡ None
unfolding refused_if
taker_free rows held who to list is all free = refused_as_barred rows held who to list is all ∙ ap refused_if free

some_refused : (P : Asset → Type 0) (o : Option Asset) → IsSomeAnd o P → refused_if o ≡ Some Refused
unfolding refused_if
some_refused P None h = absurd h
some_refused P (Some a) h = refl

taker_barred : (rows : List AssetRow) (held : Held) (who : Option (List ℕ)) (to : List ℕ) (list : List Asset) (fault : DepositFault) → who ≡ Some to → list_all (λ a. is_some (row_of rows a)) list ≡ true
    → IsFirstBarred held to list fault → first_move_fault (check_in rows held who) list ≡ Some Refused
taker_barred rows held who to list fault is all bar =
    refused_as_barred rows held who to list is all ∙ some_refused (λ a. IsBarred held to a fault) (barred held to list) bar

none_refused : (o : Option Asset) → refused_if o ≡ None → o ≡ None
unfolding refused_if
none_refused None h = refl
none_refused (Some a) h = absurd (cc)

pub none_bars : (rows : List AssetRow) (held : Held) (who : Option (List ℕ)) (to : List ℕ) (list : List Asset) → who ≡ Some to → first_move_fault (check_in rows held who) list ≡ None → barred held to list ≡ None
none_bars rows held who to list is taken =
    none_refused (barred held to list) (sym (refused_as_barred rows held who to list is (rows_taken rows held who list taken)) ∙ taken)

-- ---- one transactor after another
account_decides : (account : Option (List ℕ)) (refused : List ℕ → Bool) → is_unhandled (accepted (account_fault account refused)) ≡ false
account_decides None refused = refl
account_decides (Some who) refused =
    elim (refused who) as (λ t. is_unhandled (accepted (if t then Some Refused else None)) ≡ false) [
      | true ↦ refl
      | false ↦ refl
    ]

pub later : (first second : Bool) (account : Option (List ℕ)) (refused : List ℕ → Bool) → is_unhandled (accepted (move_fault first account refused)) ≡ true
    → move_fault second account refused ≡ move_fault (first || second) account refused
later true second account refused h = absurd (true≢false (sym h ∙ account_decides account refused))
later false second account refused h = refl

pub sooner : (first second : Bool) (account : Option (List ℕ)) (refused : List ℕ → Bool) → is_unhandled (accepted (move_fault first account refused)) ≡ false
    → move_fault first account refused ≡ move_fault (first || second) account refused
sooner true second account refused h = refl
sooner false second account refused h = absurd (true≢false h)

-- ---- steps of the code
pub stops : (check : Asset → Option MoveFault) (xs : List Asset) (i : ℕ) (a : Asset) (fault : MoveFault) → i < length xs → a ≡ get_or xs i a → check a ≡ Some fault
    → first_move_fault check xs ≡ first_move_fault check (drop i xs) → first_move_fault check xs ≡ Some fault
stops check xs i a fault inside at is so_far =
    so_far ∙ ap (first_move_fault check) (drop_more xs i a inside)
    ∙ refused_first (check (get_or xs i a)) (first_move_fault check (drop (i + 1) xs)) fault (ap check (sym at) ∙ is)

none_counted : (n : ℕ) → (n == 0) ≡ true → n ≡ 0
none_counted n h = grind (arith, h)

pub no_items : (list : List Asset) → (length list == 0) ≡ true → list ≡ []
no_items [] h = refl
no_items (a ∷ rest) h = (let none = none_counted (length (a ∷ rest)) h in absurd (omega (arith, none)))

pub some_items : (list : List Asset) → (length list == 0) ≡ false → list ≡ [] → ⊥
some_items list h none = true≢false (sym (ap (λ xs. length xs == 0) none) ∙ h)

-- ---- a list that the giver can give
module _ (rows : List AssetRow) (floors : UnitFloors) (ledger : Accounts) (list : List Asset) (from to : Option (List ℕ))
    (told : Option MoveFault) (told_is : told ≡ withdraw_fault rows floors ledger list from) (none : (fault : MoveFault) → told ≡ Some fault → ⊥) where
  gives : withdraw_fault rows floors ledger list from ≡ None
  gives = sym told_is ∙ none_if told none

  -- somebody gives what isn't nothing
  pub giver_there : (list ≡ [] → ⊥) → from ≡ None → ⊥
  giver_there some nobody = some (nobody_gives rows floors ledger.held from list nobody gives)

  pub giver_has : (giver : List ℕ) → from ≡ Some giver → shortage ledger.held giver list ≡ None
  giver_has giver is = enough_given rows floors ledger.held from giver list is gives

  -- the receiver decides
  taker_decides : (o : Option MoveFault) → first_move_fault (check_in rows (after_withdrawal list from ledger).held to) list ≡ o → o ≡ transfer_fault rows floors ledger list from to
  taker_decides o takes = sym (passed_first _ _ gives ∙ takes)

  pub no_taker : (list ≡ [] → ⊥) → to ≡ None → Some NoAccount ≡ transfer_fault rows floors ledger list from to
  no_taker some nobody =
      taker_decides (Some NoAccount) (nobody_takes_any rows (after_withdrawal list from ledger).held to list nobody (rows_given rows floors ledger.held from list gives) some)

  module _ (giver taker : List ℕ) (giver_is : from ≡ Some giver) (taker_is : to ≡ Some taker) where
    decides_after : (o : Option MoveFault) → first_move_fault (check_in rows (Withdrawn giver list ledger).held to) list ≡ o → o ≡ transfer_fault rows floors ledger list from to
    decides_after o takes = taker_decides o (ap (λ (a : Option (List ℕ)). first_move_fault (check_in rows (ledger_at_account a (λ account. Withdrawn account list ledger) ledger).held to) list) giver_is ∙ takes)

    pub both_free : barred (Withdrawn giver list ledger).held taker list ≡ None → None ≡ transfer_fault rows floors ledger list from to
    both_free free =
        decides_after None (taker_free rows (Withdrawn giver list ledger).held to taker list taker_is (rows_given rows floors ledger.held from list gives) free)

    pub taker_refuses : (fault : DepositFault) → IsFirstBarred (Withdrawn giver list ledger).held taker list fault → Some Refused ≡ transfer_fault rows floors ledger list from to
    taker_refuses fault bar =
        decides_after (Some Refused) (taker_barred rows (Withdrawn giver list ledger).held to taker list fault taker_is (rows_given rows floors ledger.held from list gives) bar)
