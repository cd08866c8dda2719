-- What a chain's accounts must keep, they keep, whatever moves.
use Rattle.std.proofs.Common.{◌≡◌, ℕ, ◌+◌, ◌-◌, ◌^◌, ◌≤◌, ◌||◌, Bool, true, false, if◌then◌else◌, List, Option, Some, None, Result, Ok, Err, refl, sym, ap, ◌∙◌, subst, arith}
use Rattle.std.specs.Prelude.{nat_le, OnOk, OnErr, slice_get}
use Rattle.std.specs.List.{IsDistinct}
use Rattle.std.specs.Ordering.{eq_by_cmp}
use Rattle.std.proofs.lemmas.Bool.Decides.{nat_tests}
use Rattle.amounts.specs.Amounts.{amount}
use Rattle.asset_lists.specs.Listed.{listed_cmp}
use Rattle.asset_bundles.specs.Bundles.{Bundle}
use Rattle.asset_lists.specs.declared.units.AssetId.TheVariants.{Concrete}
use Rattle.asset_lists.specs.declared.units.Kind.TheVariants.{Fungible}
use Rattle.asset_locks.specs.LockMaps.{LocksAndNotes, no_locks, floor}
use Rattle.trust_tables.specs.declared.rows.AssetRow.{AssetRow}
use Rattle.trust_tables.specs.Trust.{listing}
use Rattle.ledgers.specs.Ledgers.{Held, Accounts, held_by, Deposited}
use Rattle.call_dispatch.specs.declared.faults.ShiftFault.{ShiftFault}
use Rattle.call_dispatch.specs.declared.faults.ShiftFault.TheVariants.{NoRow, NotEnough, Overflow, Memory}
use Rattle.call_dispatch.specs.Shifts.{is_same_account, spare, shift_fault, shifted, Shifts}
use Rattle.row_ledger.specs.RowAccounts.{unit_of_row, unit_at, is_fungible_row, fungible_rows, row_amounts, held_aside, no_floors}
use Rattle.row_ledger.proofs.Lemmas.AccountLaws.{amount_of_row, fungible_there, known_by_rows, held_again}
use Rattle.row_ledger.specs.Nothing.{Nothing}
use Rattle.row_ledger.proofs.Lemmas.{is_fungible_at, number_is}
use Rattle.exec_base.specs.Part.{ChainPart}
use Rattle.exec_base.specs.Host.{floor_of}
use Rattle.exec_base.specs.Calls.{floors_of}
use Rattle.law_hosts.specs.Floors.{HasFloors, HoldsFloors}
use Rattle.law_hosts.proofs.Lemmas.{none_kept, more_floors, merged_more, shifted_floors}
use Rattle.chain_state.specs.Calls.{shortage_above_floor}
use Rattle.plain_lists.proofs.Lemmas.Facts.{told_at_most as within}

-- what a change leaves, or what was there
pub after_either : {A E X : Type 0} (P : X → Type 0) (old after new : X) (r : Result A E) → OnOk r (new ≡ after) → OnErr r (new ≡ old) → P old → P after → P new
after_either P old after new (Ok done) made kept before later = subst P (sym made) later
after_either P old after new (Err fault) made kept before later = subst P (sym kept) before

-- ---- accounts that give, and that get
pub got_after : (locked : LocksAndNotes) (l : Accounts) (who : List ℕ) (goods : Bundle) → HasFloors locked l.held → HasFloors locked (Deposited who goods l).held
got_after locked l who goods floors = more_floors locked l.held (Deposited who goods l).held (merged_more l.held (held_by who goods)) floors

-- ---- a call that moves an amount of a row
short_tests : (there enough : Bool) (may_give have : ℕ) (rest : Option ShiftFault) → (if there then (if enough then None else Some may_give) else None) ≡ Some have
    → (if there then (if enough then rest else Some (NotEnough may_give)) else Some NoRow) ≡ Some (NotEnough have)
short_tests true true may_give have rest e = absurd cc
short_tests true false may_give have rest e = (let same : may_give ≡ have = cc in ap (λ (n : ℕ). Some (NotEnough n)) same)
short_tests false enough may_give have rest e = absurd cc

same_tests : (there enough plain : Bool) (may_give has : ℕ) (rest : Option ShiftFault) → (if there then (if enough then None else Some may_give) else None) ≡ None → (enough ≡ true → plain ≡ true)
    → (if there then (if enough then rest else Some (NotEnough may_give)) else Some NoRow) ≡ (if there then (if plain then rest else Some (NotEnough has)) else Some NoRow)
same_tests true true plain may_give has rest e more = ap (λ (b : Bool). if b then rest else Some (NotEnough has)) (sym (more refl))
same_tests true false plain may_give has rest e more = absurd cc
same_tests false enough plain may_give has rest e more = refl

moved_tests : (there enough : Bool) (may_give : ℕ) (fault : Option ShiftFault) → (if there then (if enough then None else Some may_give) else None) ≡ None
    → (if there then fault else Some NoRow) ≡ None → enough ≡ true
moved_tests true true may_give fault e free = refl
moved_tests true false may_give fault e free = absurd cc
moved_tests false enough may_give fault e free = absurd cc

less_is_enough : (n a f : ℕ) → nat_le n (a - f) ≡ true → nat_le n (a - 0) ≡ true
less_is_enough n a f h = grind (arith, nat_tests, h)

-- what such a call says, where no account must keep anything
abbrev pub ShiftsFreely : List AssetRow → Held → ℕ → List ℕ → List ℕ → ℕ → Result Nothing ShiftFault → Held → Type 0
ShiftsFreely rows held row from to n result now =
    Shifts (shift_fault (row_amounts rows held) no_floors (fungible_rows rows) row from to n) (shifted (row_amounts rows held) row from to n) (row_amounts rows held) result (row_amounts rows now)

module _ (p : ChainPart) (row : ℕ) (from to : List ℕ) (n : ℕ) where
  abbrev above_floor : ℕ
  above_floor = spare (row_amounts p.rows p.held) (floors_of p) (from, row)

  abbrev taken_in : Option ShiftFault
  taken_in = if is_same_account from to || nat_le (amount (row_amounts p.rows p.held) (to, row) + n) (2 ^ 128 - 1) then None else Some (Overflow (amount (row_amounts p.rows p.held) (to, row)))

  pub short_fault : (have : ℕ) → shortage_above_floor p row from n ≡ Some have
      → shift_fault (row_amounts p.rows p.held) (floors_of p) (fungible_rows p.rows) row from to n ≡ Some (NotEnough have)
  unfolding shift_fault
  short_fault have e =
      subst (λ (b : Bool). (if b then (if nat_le n above_floor then taken_in else Some (NotEnough above_floor)) else Some NoRow) ≡ Some (NotEnough have)) (sym (fungible_there p.rows row))
      (short_tests (is_fungible_row (slice_get p.rows row)) (nat_le n above_floor) above_floor have taken_in e)

  pub same_fault : shortage_above_floor p row from n ≡ None
      → shift_fault (row_amounts p.rows p.held) (floors_of p) (fungible_rows p.rows) row from to n ≡ shift_fault (row_amounts p.rows p.held) no_floors (fungible_rows p.rows) row from to n
  unfolding shift_fault
  same_fault e =
      let m = row_amounts p.rows p.held in
      let has = spare m no_floors (from, row) in
      subst (λ (b : Bool). (if b then (if nat_le n above_floor then taken_in else Some (NotEnough above_floor)) else Some NoRow) ≡ (if b then (if nat_le n has then taken_in else Some (NotEnough has)) else Some NoRow))
      (sym (fungible_there p.rows row))
      (same_tests (is_fungible_row (slice_get p.rows row)) (nat_le n above_floor) (nat_le n has) above_floor has taken_in e (less_is_enough n (amount m (from, row)) (floors_of p (from, row))))

  moved_enough : shortage_above_floor p row from n ≡ None → shift_fault (row_amounts p.rows p.held) no_floors (fungible_rows p.rows) row from to n ≡ None → n ≤ above_floor
  unfolding shift_fault
  moved_enough e free =
      let m = row_amounts p.rows p.held in
      let has = spare m no_floors (from, row) in
      within n above_floor (moved_tests (is_fungible_row (slice_get p.rows row)) (nat_le n above_floor) above_floor (if nat_le n has then taken_in else Some (NotEnough has)) e
      (subst (λ (b : Bool). (if b then (if nat_le n has then taken_in else Some (NotEnough has)) else Some NoRow) ≡ None) (fungible_there p.rows row) free))

  module _ (apart : IsDistinct (eq_by_cmp listed_cmp) (listing p.rows)) (now : Held) (aside : held_aside p.rows now ≡ held_aside p.rows p.held) (floors : HoldsFloors p) where
    stays : row_amounts p.rows now ≡ row_amounts p.rows p.held → HasFloors p.locked now
    stays same = subst (HasFloors p.locked) (sym (known_by_rows p.rows p.held now (row_amounts p.rows p.held) aside same ∙ held_again p.rows p.held)) floors

    pub floors_moved : shortage_above_floor p row from n ≡ None → (result : Result Nothing ShiftFault)
        → ShiftsFreely p.rows p.held row from to n result now → HasFloors p.locked now
    floors_moved e (Ok done) step = shifted_floors p apart row from to n now (moved_enough e step.0) step.1 aside floors
    floors_moved e (Err NoRow) step = stays step.1
    floors_moved e (Err (NotEnough have)) step = stays step.1
    floors_moved e (Err (Overflow have)) step = stays step.1
    floors_moved e (Err Memory) step = stays step.1

-- ---- what an account may give of a row
pub no_shortage : (p : ChainPart) (row : ℕ) (who : List ℕ) (n : ℕ) → is_fungible_row (slice_get p.rows row) ≡ false → None ≡ shortage_above_floor p row who n
no_shortage p row who n none =
    let may_give = spare (row_amounts p.rows p.held) (floors_of p) (who, row) in
    sym (ap (λ (b : Bool). if b then (if nat_le n may_give then None else Some may_give) else None) none)

module _ (p : ChainPart) (apart : IsDistinct (eq_by_cmp listed_cmp) (listing p.rows)) (row : ℕ) (who : List ℕ) (found : AssetRow) (at : slice_get p.rows row ≡ Some found) (kind : found.kind ≡ Fungible) where
  there : is_fungible_row (slice_get p.rows row) ≡ true
  there = is_fungible_at p.rows row found Fungible at kind

  unit_is : unit_at p.rows row ≡ (Concrete found.id, None)
  unfolding unit_at
  unit_is = ap unit_of_row at

  floor_is : floors_of p (who, row) ≡ floor who found.id p.locked
  floor_is = ap (λ (b : Bool). if b then floor_of p who (unit_at p.rows row) else 0) there ∙ ap (floor_of p who) unit_is

  amount_is : amount (row_amounts p.rows p.held) (who, row) ≡ amount p.held (who, (Concrete found.id, None))
  amount_is = amount_of_row p.rows (Concrete found.id, None) row (number_is p.rows row found apart at there) p.held who

  -- that it is so much, and whether that is enough
  pub may_give_is : (has floor_there may_give : ℕ) → has ≡ amount p.held (who, (Concrete found.id, None)) → floor_there ≡ floor who found.id p.locked → may_give ≡ has - floor_there
      → may_give ≡ spare (row_amounts p.rows p.held) (floors_of p) (who, row)
  may_give_is has floor_there may_give is_had is_floor is = omega (arith, is_had, is_floor, is, floor_is, amount_is)

  pub shortage_is : (n may_give : ℕ) (b : Bool) → may_give ≡ spare (row_amounts p.rows p.held) (floors_of p) (who, row) → nat_le n may_give ≡ b
      → (if b then None else Some may_give) ≡ shortage_above_floor p row who n
  shortage_is n may_give b is test =
      ap (λ (x : Bool). if x then None else Some may_give) (sym test)
      ∙ ap (λ (m : ℕ). if nat_le n m then None else Some m) is
      ∙ sym (ap (λ (x : Bool). if x then (if nat_le n (spare (row_amounts p.rows p.held) (floors_of p) (who, row)) then None else Some (spare (row_amounts p.rows p.held) (floors_of p) (who, row))) else None) there)

-- ---- a chain as it opens
pub nothing_floored : (locked : LocksAndNotes) (held : Held) → locked ≡ no_locks → HasFloors locked held
nothing_floored locked held is = subst (λ (l : LocksAndNotes). HasFloors l held) (sym is) (λ who unit. let none = none_kept who unit.0 unit.1 in omega (arith, none))
