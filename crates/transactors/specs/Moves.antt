-- Why a list isn't moved, and the ledger that a move leaves. `None` in place of an account is a location that has none. Source: xcm-executor's asset transactors; that a list is moved whole or not at
-- all, and the order in which its assets are looked at, are this project's own rule.
use Rattle.std.specs.Prelude.{◌≡◌, ℕ, Bool, List, [], ◌∷◌, Option, Some, None, Result, Ok, Err}
use Rattle.std.specs.List.{list_all}
use Rattle.asset_lists.specs.declared.units.Asset.{Asset}
use Rattle.asset_lists.specs.Listed.{Listed, lists}
use Rattle.asset_bundles.specs.Bundles.{Bundle, bundle_of, held_assets}
use Rattle.ledgers.specs.Ledgers.{Accounts, Withdrawn, Deposited}
use Rattle.trust_tables.specs.declared.rows.AssetRow.{AssetRow}
use Rattle.trust_tables.specs.Trust.{listed_row}
use Rattle.transactors.specs.declared.faults.MoveFault.{MoveFault}
use Rattle.transactors.specs.declared.faults.MoveFault.TheVariants.{NotHandled, NoAccount, Refused, Memory}
use Rattle.transactors.specs.Floors.{UnitFloors}
use Rattle.transactors.specs.Checks.{check_in, check_out}

-- each of these rows is listed
abbrev pub are_listed : List Listed → List AssetRow → Bool
are_listed listed rows = list_all (λ row. lists listed (listed_row row)) rows

-- ---- faults

abbrev pub earlier_fault : Option MoveFault → Option MoveFault → Option MoveFault
earlier_fault None next = next
earlier_fault (Some fault) next = Some fault

-- the first asset in order that is refused decides
abbrev pub first_move_fault : (Asset → Option MoveFault) → List Asset → Option MoveFault
first_move_fault check [] = None
first_move_fault check (a ∷ rest) = earlier_fault (check a) (first_move_fault check rest)

abbrev pub withdraw_fault : List AssetRow → UnitFloors → Accounts → List Asset → Option (List ℕ) → Option MoveFault
withdraw_fault rows floors ledger list from = first_move_fault (check_out rows floors ledger.held from) list

abbrev pub deposit_fault : List AssetRow → Accounts → Bundle → Option (List ℕ) → Option MoveFault
deposit_fault rows ledger goods to = first_move_fault (check_in rows ledger.held to) (held_assets goods)

-- ---- what a move leaves. Where there is no account, nothing was moved

abbrev pub ledger_at_account : Option (List ℕ) → (List ℕ → Accounts) → Accounts → Accounts
ledger_at_account None change ledger = ledger
ledger_at_account (Some who) change ledger = change who

abbrev pub after_withdrawal : List Asset → Option (List ℕ) → Accounts → Accounts
after_withdrawal list from ledger = ledger_at_account from (λ account. Withdrawn account list ledger) ledger

abbrev pub after_deposit : Bundle → Option (List ℕ) → Accounts → Accounts
after_deposit goods to ledger = ledger_at_account to (λ account. Deposited account goods ledger) ledger

-- the giving, and then the taking
abbrev pub after_transfer : List Asset → Option (List ℕ) → Option (List ℕ) → Accounts → Accounts
after_transfer list from to ledger = after_deposit (bundle_of list) to (after_withdrawal list from ledger)

-- all assets for the giver first, and then all for the receiver as it is after the giving
abbrev pub transfer_fault : List AssetRow → UnitFloors → Accounts → List Asset → Option (List ℕ) → Option (List ℕ) → Option MoveFault
transfer_fault rows floors ledger list from to =
    earlier_fault (withdraw_fault rows floors ledger list from) (first_move_fault (check_in rows (after_withdrawal list from ledger).held to) list)

-- ---- answers. Memory may be refused always, and then nothing changes

abbrev pub Moves : {A : Type 0} → Option MoveFault → A → Accounts → Accounts → Result A MoveFault → Accounts → Type 0
Moves fault answer after before (Ok out) now = (fault ≡ None) × (out ≡ answer) × (now ≡ after)
Moves fault answer after before (Err NotHandled) now = (fault ≡ Some NotHandled) × (now ≡ before)
Moves fault answer after before (Err NoAccount) now = (fault ≡ Some NoAccount) × (now ≡ before)
Moves fault answer after before (Err Refused) now = (fault ≡ Some Refused) × (now ≡ before)
Moves fault answer after before (Err Memory) now = now ≡ before

-- goods are moved in, or handed back
abbrev pub MovesIn : Option MoveFault → Bundle → Accounts → Accounts → Result (Unit {0}) (Bundle × MoveFault) → Accounts → Type 0
MovesIn fault goods after before (Ok _) now = (fault ≡ None) × (now ≡ after)
MovesIn fault goods after before (Err (back, NotHandled)) now = (back ≡ goods) × (fault ≡ Some NotHandled) × (now ≡ before)
MovesIn fault goods after before (Err (back, NoAccount)) now = (back ≡ goods) × (fault ≡ Some NoAccount) × (now ≡ before)
MovesIn fault goods after before (Err (back, Refused)) now = (back ≡ goods) × (fault ≡ Some Refused) × (now ≡ before)
MovesIn fault goods after before (Err (back, Memory)) now = (back ≡ goods) × (now ≡ before)
