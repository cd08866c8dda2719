-- What transactors leave of a chain: its listing, what is locked, and what is there to move again.
use Rattle.std.proofs.Common.{◌≡◌, ℕ, ◌^◌, ◌<◌, ◌≤◌, Bool, true, false, ◌||◌, if◌then◌else◌, List, [], ◌∷◌, ◌++◌, Result, Ok, Err, refl, sym, ap, ◌∙◌, subst, arith}
use Rattle.std.specs.Prelude.{Option, None, Some, max, OnOk, OnErr}
use Rattle.std.specs.Option.{option_map}
use Rattle.std.specs.List.{list_all}
use Rattle.std.specs.Ordering.{eq_by_cmp}
use Rattle.std.proofs.lemmas.Bool.{and_from, and_parts}
use Rattle.amounts.specs.Amounts.{amount}
use Rattle.amounts.proofs.Lemmas.{same_key}
use Rattle.locations.specs.declared.relative.Location.{Location}
use Rattle.operands.specs.declared.error.XcmError.{XcmError}
use Rattle.operands.specs.declared.error.XcmError.TheVariants as error
use Rattle.asset_lists.specs.declared.units.Asset.{Asset}
use Rattle.asset_lists.specs.declared.units.Kind.{Kind}
use Rattle.asset_lists.specs.Units.{unit_of}
use Rattle.asset_lists.specs.Listed.{Listed, listed_cmp, lists, same_kind}
use Rattle.asset_locks.specs.LockMaps.{LocksAndNotes}
use Rattle.asset_bundles.specs.Bundles.{Bundle, bundle_of}
use Rattle.asset_bundles.proofs.Lemmas.{listed_keys}
use Rattle.trust_tables.specs.declared.chains.Site.{Site}
use Rattle.trust_tables.specs.declared.rows.AssetRow.{AssetRow}
use Rattle.trust_tables.specs.Trust.{listing, listed_row}
use Rattle.trust_tables.specs.Accounts.{account_of}
use Rattle.ledgers.specs.Ledgers.{Held, Accounts, Withdrawn, Deposited}
use Rattle.transactors.specs.declared.faults.MoveFault.{MoveFault}
use Rattle.transactors.specs.declared.faults.MoveFault.TheVariants.{Memory}
use Rattle.transactors.specs.Floors.{UnitFloors, no_unit_floors, locked_floors, higher_floors}
use Rattle.transactors.specs.Floors as floors
use Rattle.transactors.specs.Checks.{rows_of_kind}
use Rattle.transactors.specs.Moves as moves
use Rattle.transactors.specs.Moves.{are_listed, withdraw_fault, deposit_fault, transfer_fault, Moves, MovesIn}
use Rattle.exec_base.specs.declared.faults.HostFault.{HostFault}
use Rattle.std.specs.declared.alloc.AllocError.{AllocError}
use Rattle.exec_base.specs.Answers.{AnswersOrRefuses, AnswersWithinMemory}
use Rattle.exec_base.specs.Part.{ChainPart, accounts_of}
use Rattle.exec_base.specs.Host.{IsPrice, first_fault, at_account, debit_fault, given, withdraw_refusal, deposit_refusal}
use Rattle.chain_state.specs.declared.state.ChainState.{ChainState}
use Rattle.chain_state.specs.PartOf.{part_of}
use Rattle.chain_state.specs.Facts.{KeepsLockFloors}
use Rattle.chain_state.proofs.Lemmas.Facts.{keeps_floors}
use Rattle.chain_state.specs.Known.{floors_there, pools_free}
use Rattle.chain_state.specs.Transacting.{error_of, fault_of, handled_rows, kept_floors}
use Rattle.chain_state.proofs.First.{both_none}
use Rattle.chain_state.proofs.FeeBack.{fee_back, gives}
use Rattle.chain_state.proofs.Floored.{after_either}
use Rattle.plain_lists.proofs.Lemmas.Facts.{either_second as or_true}

-- the ledger is the chain's accounts over its listing
ledger_is : (f : ChainState) → f.ledger ≡ accounts_of (part_of f)
ledger_is f = λ i. record { listed = f.ledger_lists i; held = f.ledger.held }

pub none_mapped : (o : Option MoveFault) → option_map error_of o ≡ None → o ≡ None
none_mapped None h = refl
none_mapped (Some fault) h = absurd (cc)

-- ---- what stays
-- what holds before and after a move holds of whatever is there now
after_move : {A : Type 0} (P : Accounts → Type 0) (fault : Option MoveFault) (answer : A) (after before : Accounts) (r : Result A MoveFault) (now : Accounts)
    → Moves fault answer after before r now → P before → (fault ≡ None → P after) → P now
after_move P fault answer after before (Ok out) now m was is = subst P (sym m.2) (is m.0)
after_move P fault answer after before (Err Memory) now m was is = subst P (sym m) was
after_move P fault answer after before (Err e) now m was is = subst P (sym m.1) was

after_move_in : (P : Accounts → Type 0) (fault : Option MoveFault) (goods : Bundle) (after before : Accounts) (r : Result (Prim.Unit {0}) (Bundle × MoveFault)) (now : Accounts)
    → MovesIn fault goods after before r now → P before → (fault ≡ None → P after) → P now
after_move_in P fault goods after before (Ok out) now m was is = subst P (sym m.1) (is m.0)
after_move_in P fault goods after before (Err (back, Memory)) now m was is = subst P (sym m.1) was
after_move_in P fault goods after before (Err (back, e)) now m was is = subst P (sym m.2) was

-- the listing
same_listing : (o : Option (List ℕ)) (change : List ℕ → Accounts) (l : Accounts) → ((who : List ℕ) → (change who).listed ≡ l.listed) → (moves.ledger_at_account o change l).listed ≡ l.listed
same_listing None change l same = refl
same_listing (Some who) change l same = same who

pub withdrawn_lists : (list : List Asset) (from : Option (List ℕ)) (l : Accounts) → (moves.after_withdrawal list from l).listed ≡ l.listed
withdrawn_lists list from l = same_listing from (λ account. Withdrawn account list l) l (λ account. refl)

pub deposited_lists : (goods : Bundle) (to : Option (List ℕ)) (l : Accounts) → (moves.after_deposit goods to l).listed ≡ l.listed
deposited_lists goods to l = same_listing to (λ account. Deposited account goods l) l (λ account. refl)

pub transferred_lists : (list : List Asset) (from to : Option (List ℕ)) (l : Accounts) → (moves.after_transfer list from to l).listed ≡ l.listed
transferred_lists list from to l = deposited_lists (bundle_of list) to (moves.after_withdrawal list from l) ∙ withdrawn_lists list from l

-- floors: those of the locks, as a transactor has them
not_less : (n m : ℕ) → n ≤ m → max 0 n ≤ m
not_less n m h = grind (arith, h)

less : (n m : ℕ) → max 0 n ≤ m → n ≤ m
less n m h = grind (arith, h)

-- ---- each row that is handled is listed
listed_in : (all : List Listed) (rows : List AssetRow) → ((k : Listed) → lists (listing rows) k ≡ true → lists all k ≡ true) → list_all (λ (row : AssetRow). lists all (listed_row row)) rows ≡ true
listed_in all [] sub = refl
listed_in all (row ∷ rows) sub =
    and_from _ _ (sub (listed_row row) (ap (λ b. b || lists (listing rows) (listed_row row)) (same_key listed_keys (listed_row row))))
    (listed_in all rows (λ k h. sub k (or_true (eq_by_cmp listed_cmp k (listed_row row)) (lists (listing rows) k) h)))

one_kind : (P : AssetRow → Bool) (b : Bool) (row : AssetRow) (rows : List AssetRow) → P row ≡ true → list_all P rows ≡ true → list_all P (if b then row ∷ rows else rows) ≡ true
one_kind P true row rows here rest = and_from _ _ here rest
one_kind P false row rows here rest = rest

of_kind : (P : AssetRow → Bool) (kind : Kind) (rows : List AssetRow) → list_all P rows ≡ true → list_all P (rows_of_kind kind rows) ≡ true
of_kind P kind [] h = refl
of_kind P kind (row ∷ rows) h = (let parts = and_parts (P row) (list_all P rows) h in one_kind P (same_kind kind row.kind) row (rows_of_kind kind rows) parts.0 (of_kind P kind rows parts.1))

both_all : (P : AssetRow → Bool) (xs ys : List AssetRow) → list_all P xs ≡ true → list_all P ys ≡ true → list_all P (xs ++ ys) ≡ true
both_all P [] ys h more = more
both_all P (x ∷ xs) ys h more = (let parts = and_parts (P x) (list_all P xs) h in and_from _ _ parts.0 (both_all P xs ys parts.1 more))

handled_listed : (rows : List AssetRow) → are_listed (listing rows) (rows_of_kind Kind.Fungible rows ++ rows_of_kind Kind.Class rows) ≡ true
handled_listed rows =
    let P : AssetRow → Bool = λ row. lists (listing rows) (listed_row row) in
    let all = listed_in (listing rows) rows (λ k h. h) in
    both_all P (rows_of_kind Kind.Fungible rows) (rows_of_kind Kind.Class rows) (of_kind P Kind.Fungible rows all) (of_kind P Kind.Class rows all)

-- ---- a fee that an account gave can be given back
passed : (b : Bool) (e f : XcmError) → (if b then Some f else Some e) ≡ None → ⊥
passed true e f h = absurd (cc)
passed false e f h = absurd (cc)

nobody : (p : ChainPart) (fee : Asset) → debit_fault p None fee ≡ None → ⊥
nobody p fee h = passed _ error.AssetNotFound error.FailedToTransactAsset h

drawn_back : (p : ChainPart) (fee : Asset) (who : Location) (o : Option (List ℕ)) → account_of who p.site ≡ o → IsPrice fee
    → ((account : List ℕ) → account_of who p.site ≡ Some account → amount p.held (account, unit_of fee) < 2 ^ 128)
    → debit_fault p o fee ≡ None
    → deposit_refusal (record p { held = at_account o (λ account. (Withdrawn account (fee ∷ []) (accounts_of p)).held) p.held }) (bundle_of (fee ∷ [])) who ≡ None
drawn_back p fee who (Some account) at price small free = (let has = gives p account fee free in fee_back p fee who account price at has.0 has.1 (small account at))
drawn_back p fee who None at price small free = absurd (nobody p fee free)

pub fee_returns : (p : ChainPart) (fee : Asset) (who : Location) (list : List Asset) (r : Result Bundle HostFault) (now : ChainPart) → list ≡ fee ∷ [] → IsPrice fee
    → ((account : List ℕ) → account_of who p.site ≡ Some account → amount p.held (account, unit_of fee) < 2 ^ 128)
    → AnswersOrRefuses (withdraw_refusal p list who) (bundle_of list) (given p list who) p r now → OnOk r (deposit_refusal now (bundle_of (fee ∷ [])) who ≡ None)
unfolding withdraw_refusal
fee_returns p fee who list (Ok out) now is price small m =
    let free = (both_none _ _ (ap (λ xs. first_fault (debit_fault p (account_of who p.site)) xs) (sym is) ∙ m.0)).0 in
    ap (λ (q : ChainPart). deposit_refusal q (bundle_of (fee ∷ [])) who) (m.2 ∙ ap (λ xs. given p xs who) is)
    ∙ drawn_back p fee who (account_of who p.site) refl price small free
fee_returns p fee who list (Err e) now is price small m = tt

-- ---- the moves that the transactors of a chain make, of accounts that depend on its site or don't
-- why one is refused, what it leaves, and that it leaves the listing
abbrev pub Move : Type 0
Move = record {
  fault : List AssetRow → Site → UnitFloors → Accounts → Option MoveFault;
  leaves : Site → Accounts → Accounts;
  lists : (site : Site) (l : Accounts) → (leaves site l).listed ≡ l.listed;
}

abbrev pub withdrawal : List Asset → (Site → Option (List ℕ)) → Move
withdrawal list from = record {
  fault = λ rows site floors l. withdraw_fault rows floors l list (from site);
  leaves = λ site l. moves.after_withdrawal list (from site) l;
  lists = λ site l. withdrawn_lists list (from site) l;
}

abbrev pub deposit : Bundle → (Site → Option (List ℕ)) → Move
deposit goods to = record {
  fault = λ rows site floors l. deposit_fault rows l goods (to site);
  leaves = λ site l. moves.after_deposit goods (to site) l;
  lists = λ site l. deposited_lists goods (to site) l;
}

abbrev pub transfer : List Asset → (Site → Option (List ℕ)) → (Site → Option (List ℕ)) → Move
transfer list from to = record {
  fault = λ rows site floors l. transfer_fault rows floors l list (from site) (to site);
  leaves = λ site l. moves.after_transfer list (from site) (to site) l;
  lists = λ site l. transferred_lists list (from site) (to site) l;
}

-- that transactors have the rows, the site and the locks of the chain
abbrev pub AreOf : ChainState → List AssetRow → List AssetRow → Site → Site → LocksAndNotes → Type 0
AreOf f one two site other kept = record {
  first_rows : one ≡ f.settings.rows;
  second_rows : two ≡ f.settings.rows;
  first_site : site ≡ f.settings.site;
  second_site : other ≡ f.settings.site;
  locks : kept ≡ f.locked;
}

module _ (f : ChainState) {one two : List AssetRow} {site other : Site} {kept : LocksAndNotes} (are : AreOf f one two site other kept) where
  abbrev handled : List AssetRow
  handled = rows_of_kind Kind.Fungible one ++ rows_of_kind Kind.Class two

  abbrev floored : UnitFloors
  floored = higher_floors no_unit_floors (locked_floors kept)

  pub rows_listed : are_listed f.ledger.listed handled ≡ true
  rows_listed = (λ i. are_listed (f.ledger_lists i) (rows_of_kind Kind.Fungible (are.first_rows i) ++ rows_of_kind Kind.Class (are.second_rows i))) ∙ handled_listed f.settings.rows

  -- where each account keeps the transactors' floors, it keeps the chain's
  floors_stay : (after : Held) → (floors.KeepsFloors floored f.ledger.held → floors.KeepsFloors floored after) → KeepsLockFloors f.settings.pools f.locked after
  floors_stay after keeps =
      let had : floors.KeepsFloors floored f.ledger.held =
      λ who unit. not_less (locked_floors kept who unit) (amount f.ledger.held (who, unit)) (subst (λ (l : LocksAndNotes). locked_floors l who unit ≤ amount f.ledger.held (who, unit)) (sym are.locks) (floors_there f who unit)) in
      keeps_floors f.settings.pools f.locked after
      (λ who unit. subst (λ (l : LocksAndNotes). locked_floors l who unit ≤ amount after (who, unit)) are.locks (less (locked_floors kept who unit) (amount after (who, unit)) (keeps had who unit)))
      (pools_free f)

  module _ (move : Move) where
    abbrev fault : Option MoveFault
    fault = move.fault handled site floored f.ledger

    abbrev after : Accounts
    after = move.leaves site f.ledger

    abbrev IsTold : Option XcmError → Type 0
    IsTold refusal = refusal ≡ option_map error_of (move.fault (handled_rows (part_of f)) f.settings.site (kept_floors (part_of f)) (accounts_of (part_of f)))

    abbrev IsLeft : ChainPart → Type 0
    IsLeft left = left ≡ record (part_of f) { held = (move.leaves f.settings.site (accounts_of (part_of f))).held }

    abbrev KeepThem : Type 0
    KeepThem = (rows : List AssetRow) (at : Site) (least : UnitFloors) → move.fault rows at least f.ledger ≡ None → floors.KeepsFloors least f.ledger.held → floors.KeepsFloors least (move.leaves at f.ledger).held

    -- they refuse as those of the chain's part would
    pub fault_is : move.fault (handled_rows (part_of f)) f.settings.site (kept_floors (part_of f)) (accounts_of (part_of f)) ≡ fault
    fault_is = λ i. move.fault (rows_of_kind Kind.Fungible (sym are.first_rows i) ++ rows_of_kind Kind.Class (sym are.second_rows i)) (sym are.first_site i) (higher_floors no_unit_floors (locked_floors (sym are.locks i))) (sym (ledger_is f) i)

    -- the host refuses just what they refuse
    pub refuses : (refusal : Option XcmError) → IsTold refusal → refusal ≡ option_map error_of fault
    refuses refusal told = told ∙ ap (option_map error_of) fault_is

    -- and has what they leave
    leaves : (left : ChainPart) → IsLeft left → record (part_of f) { held = after.held } ≡ left
    leaves left is = (λ i. record (part_of f) { held = (move.leaves (are.first_site i) (ledger_is f i)).held }) ∙ sym is

    floors_left : KeepThem → fault ≡ None → KeepsLockFloors f.settings.pools f.locked after.held
    floors_left law free = floors_stay after.held (law handled site floored free)

    listing_left : after.listed ≡ listing f.settings.rows
    listing_left = move.lists site f.ledger ∙ f.ledger_lists

    module _ {A : Type 0} (answer : A) (r : Result A MoveFault) (now : Accounts) (m : Moves fault answer after f.ledger r now) where
      pub floors_moved : KeepThem → KeepsLockFloors f.settings.pools f.locked now.held
      floors_moved law = after_move (λ (l : Accounts). KeepsLockFloors f.settings.pools f.locked l.held) fault answer after f.ledger r now m f.floors (floors_left law)

      pub listing_moved : now.listed ≡ listing f.settings.rows
      listing_moved = after_move (λ (l : Accounts). l.listed ≡ listing f.settings.rows) fault answer after f.ledger r now m f.ledger_lists (λ free. listing_left)

    module _ (goods : Bundle) (r : Result (Prim.Unit {0}) (Bundle × MoveFault)) (now : Accounts) (m : MovesIn fault goods after f.ledger r now) where
      pub floors_moved_in : KeepThem → KeepsLockFloors f.settings.pools f.locked now.held
      floors_moved_in law = after_move_in (λ (l : Accounts). KeepsLockFloors f.settings.pools f.locked l.held) fault goods after f.ledger r now m f.floors (floors_left law)

      pub listing_moved_in : now.listed ≡ listing f.settings.rows
      listing_moved_in = after_move_in (λ (l : Accounts). l.listed ≡ listing f.settings.rows) fault goods after f.ledger r now m f.ledger_lists (λ free. listing_left)

    -- where only memory could refuse it
    module _ {A E : Type 0} (r : Result A E) (now : Accounts) (made : OnOk r (now ≡ after)) (same : OnErr r (now ≡ f.ledger)) where
      pub floors_checked : KeepThem → fault ≡ None → KeepsLockFloors f.settings.pools f.locked now.held
      floors_checked law free = after_either (λ (l : Accounts). KeepsLockFloors f.settings.pools f.locked l.held) f.ledger after now r made same f.floors (floors_left law free)

      pub listing_checked : now.listed ≡ listing f.settings.rows
      listing_checked = after_either (λ (l : Accounts). l.listed ≡ listing f.settings.rows) f.ledger after now r made same f.ledger_lists listing_left

    -- what the host answers
    module _ (refusal : Option XcmError) (told : IsTold refusal) (left : ChainPart) (is : IsLeft left) {A : Type 0} (answer : A) (now : Accounts) where
      pub accepted : (out : A) → Moves fault answer after f.ledger (Ok out) now → AnswersOrRefuses refusal answer left (part_of f) (Ok out) (record (part_of f) { held = now.held })
      accepted out m = (refuses refusal told ∙ ap (option_map error_of) m.0, m.1, ap (λ (l : Accounts). record (part_of f) { held = l.held }) m.2 ∙ leaves left is)

      pub refused : (e : MoveFault) (h : HostFault) → h ≡ fault_of e → Moves fault answer after f.ledger (Err e) now → AnswersOrRefuses refusal answer left (part_of f) (Err h) (record (part_of f) { held = now.held })
      refused Memory h same m =
          subst (λ (x : HostFault). AnswersOrRefuses refusal answer left (part_of f) (Err x) (record (part_of f) { held = now.held })) (sym same)
          (ap (λ (l : Accounts). record (part_of f) { held = l.held }) m)
      refused e h same m =
          subst (λ (x : HostFault). AnswersOrRefuses refusal answer left (part_of f) (Err x) (record (part_of f) { held = now.held })) (sym same)
          (refuses refusal told ∙ ap (option_map error_of) m.0, ap (λ (l : Accounts). record (part_of f) { held = l.held }) m.1)

    pub checked_gives : (left : ChainPart) → IsLeft left → (r : Result (Prim.Unit {0}) AllocError) (now : Accounts) → OnOk r (now ≡ after) → OnErr r (now ≡ f.ledger)
        → AnswersWithinMemory tt left (part_of f) r (record (part_of f) { held = now.held })
    checked_gives left is (Ok done) now made same = (refl, ap (λ (l : Accounts). record (part_of f) { held = l.held }) made ∙ leaves left is)
    checked_gives left is (Err e) now made same = ap (λ (l : Accounts). record (part_of f) { held = l.held }) same
