-- Lemmas that proofs cite, in crates above: what accounts give and get, calls that are dispatched, and locks that are set and fall leave each
-- account its floor. A reader of the contracts may skip this file.
use Rattle.std.proofs.Common.{◌≡◌, ◌⊎◌, ℕ, ◌+◌, ◌-◌, ◌≤◌, Bool, true, false, if◌then◌else◌, List, [], ◌∷◌, Option, Some, None, ⊎_elim, inl, inr, refl, sym, ap, ◌∙◌, subst, arith, true≢false}
use Rattle.std.specs.Prelude.{slice_get, not, nat_le, is_some, unwrap_or, if◌then◌else◌}
use Rattle.std.specs.FinMap.{find}
use Rattle.std.specs.Ordering.{eq_by_cmp}
use Rattle.std.specs.declared.cmp.Ordering.{Ordering}
use Rattle.std.proofs.lemmas.Bool.{cases_Bool, cases_lt}
use Rattle.std.proofs.lemmas.Option.{slice_get_within}
use Rattle.std.proofs.lemmas.Bool.Decides.{nat_tests}
use Rattle.amounts.specs.Rows.{amount_if}
use Rattle.amounts.proofs.Lemmas.Rows.{IsKeyOrder}
use Rattle.amounts.specs.Amounts.{amount, merge, difference}
use Rattle.amounts.proofs.Lemmas.AmountLaws.{total_alike, amount-total, amount-empty}
use Rattle.amounts.proofs.Lemmas.{same_key, key_same, amount-merge, amount-difference}
use Rattle.locations.specs.declared.relative.Location.{Location}
use Rattle.asset_lists.specs.declared.units.Asset.{Asset}
use Rattle.asset_lists.specs.Units.{Unit, unit_of, unit_cmp, amount_of}
use Rattle.asset_bundles.specs.Bundles.{Bundle, rows_of, bundle_of, IsHolding, found}
use Rattle.asset_bundles.proofs.Lemmas.Bundles.{unit_keys}
use Rattle.asset_bundles.proofs.Lemmas.BundleLaws.{amount-bundle_of, found-holding}
use Rattle.asset_locks.specs.LockMaps.{LocksAndNotes, lock_at, LockKey, LockedAsset, locked_asset_cmp, NoteKey, no_locks, floor, Locked, Unlocked, Noted, Reduced}
use Rattle.trust_tables.specs.Accounts.{account_of}
use Rattle.trust_tables.specs.Trust.{row_of}
use Rattle.ledgers.specs.Ledgers.{Holder, account_cmp, holder_cmp, Held, held_by, Withdrawn, Deposited}
use Rattle.ledgers.proofs.Lemmas.{account_keys, holder_keys, held_by_total, less_other}
use Rattle.exec_base.specs.Part.{ChainPart, accounts_of}
use Rattle.exec_base.specs.Host.{at_account, first_fault, floor_of, debit_fault, given, got, settled, fungible_id, lock_key, is_lockable, lock_refusal}
use Rattle.exec_rules.proofs.Lemmas.AnswerLaws.{unless_held, unless_next, none_first, none_next}
use Rattle.std.specs.Option.{option_map, option_map_or, option_and_then}
use Rattle.operands.specs.declared.error.XcmError.TheVariants as error
use Rattle.asset_lists.specs.declared.units.AssetId.{AssetId}
use Rattle.asset_lists.specs.declared.units.Fun.{Fun}
use Rattle.asset_lists.specs.declared.units.Instance.{Instance}
use Rattle.asset_locks.specs.UnitFloors.{floor_at}
use Rattle.asset_locks.proofs.Lemmas.{locked_asset_keys, lock_keys, floor_at_most, locked_other, unlocked_less, locks_stay-Noted, locks_stay-Reduced, floor-Locked, floor_other-Locked, floor_less-Unlocked, floor_stays-Noted, floor_stays-Reduced}
use Rattle.call_dispatch.specs.declared.call.Call.TheVariants.{Batch}
use Rattle.call_dispatch.specs.Spelling.{AnyCall}
use Rattle.row_ledger.specs.RowAccounts.{is_fungible_row, row_of_unit, unit_at, row_amounts, held_aside}
use Rattle.row_ledger.proofs.Lemmas.AccountLaws.{unit_found, fungible_found, found_by_number, known_by_rows, amount_of_row, enough_with_rows, floor_called, front_called}
use Rattle.call_dispatch.specs.Shifts.{spare, shifted, AreKept}
use Rattle.call_dispatch.proofs.Lemmas.ShiftLaws.{floor_keeps}
use Rattle.asset_lists.specs.Listed.{listed_cmp}
use Rattle.trust_tables.specs.Trust.{listing}
use Rattle.std.specs.List.{IsDistinct}
use Rattle.exec_base.specs.Calls.{floors_of, held_dispatched, dispatched, IsDispatchedInPart}
use Rattle.asset_pools.specs.declared.pool.Pool.{Pool}
use Rattle.asset_pools.specs.declared.exchanges.Exchange.{Exchange}
use Rattle.asset_pools.specs.Exchanges.{pool_account, is_pool_account, held_after}
use Rattle.asset_pools.proofs.Lemmas.Keeping.{IsMade, exchange_says, exchange_lowers, pool_found}
use Rattle.exec_base.specs.Pools.{exchange_at, exchanged}
use Rattle.law_hosts.specs.Floors.{HasFloors, HoldsFloors, NoPoolLocks, FreesPools}
use Rattle.plain_lists.proofs.Lemmas.Facts.{false_where_not_true as isnt, first_true as both_first, second_true as both_hold}

-- ---- what an account has of goods
apart : {K : Type 0} {R : K → K → Ordering} (o : IsKeyOrder R) (j k : K) → (j ≡ k → ⊥) → eq_by_cmp R j k ≡ false
apart {R = R} o j k other = elim (cases_Bool (eq_by_cmp R j k)) [ inl t ↦ absurd (other (key_same o j k t)) | inr f ↦ f ]

same_test : (who : List ℕ) (u v : Unit) → eq_by_cmp holder_cmp (who, u) (who, v) ≡ eq_by_cmp unit_cmp u v
same_test who u v = elim (cases_Bool (eq_by_cmp unit_cmp u v)) [
  | inl t ↦ ap (λ (w : Unit). eq_by_cmp holder_cmp (who, u) (who, w)) (sym (key_same unit_keys u v t)) ∙ same_key holder_keys (who, u) ∙ sym t
  | inr f ↦ apart holder_keys (who, u) (who, v) (λ e. true≢false (sym (same_key unit_keys u) ∙ ap (λ (h : Holder). eq_by_cmp unit_cmp u h.1) e ∙ f)) ∙ sym f
]

held_here : (who : List ℕ) (goods : Bundle) (u : Unit) → amount (held_by who goods) (who, u) ≡ amount goods u
held_here who goods u =
    amount-total holder_keys (held_by who goods) (who, u)
    ∙ held_by_total (eq_by_cmp holder_cmp (who, u)) who goods
    ∙ total_alike (λ v. eq_by_cmp holder_cmp (who, u) (who, v)) (eq_by_cmp unit_cmp u) goods (same_test who u)
    ∙ sym (amount-total unit_keys goods u)

-- ---- lists that have each unit once
abbrev pub HasOnce : List Asset → Type 0
HasOnce list = (u : Unit) → amount (bundle_of list) u ≤ found u list

pub one_once : (a : Asset) → HasOnce (a ∷ [])
one_once a u = subst (λ n. n ≤ found u (a ∷ [])) (sym (amount-bundle_of (a ∷ []) u)) (by_test (eq_by_cmp unit_cmp u (unit_of a)) (amount_of a))
  where
    by_test : (b : Bool) (n : ℕ) → amount_if b n + 0 ≤ unwrap_or (if b then Some n else None) 0
    by_test true n = omega arith
    by_test false n = omega arith

pub holding_once : (list : List Asset) → IsHolding list → HasOnce list
holding_once list h u = let e = found-holding list u h in omega (arith, e)

-- ---- what may be given
module _ (p : ChainPart) (who : List ℕ) where
  enough : (a : Asset) → debit_fault p (Some who) a ≡ None → amount_of a + floor_of p who (unit_of a) ≤ amount p.held (who, unit_of a)
  enough a ok = at_most _ _ (unless_held _ _ _ (unless_next (is_some (row_of p.rows a)) _ _ ok))
    where
      at_most : (a b : ℕ) → nat_le a b ≡ true → a ≤ b
      at_most a b h = grind (arith, nat_tests, h)

  covered : (list : List Asset) (u : Unit) → first_fault (debit_fault p (Some who)) list ≡ None → (found u list ≡ 0) ⊎ (found u list + floor_of p who u ≤ amount p.held (who, u))
  covered [] u ok = inl refl
  covered (a ∷ rest) u ok =
      elim (cases_Bool (eq_by_cmp unit_cmp u (unit_of a))) [
        | inl t ↦ (
            let same : u ≡ unit_of a = key_same unit_keys u (unit_of a) t in
            let here : amount_of a + floor_of p who u ≤ amount p.held (who, u) =
            subst (λ (v : Unit). amount_of a + floor_of p who v ≤ amount p.held (who, v)) (sym same) (enough a (none_first (debit_fault p (Some who) a) _ ok)) in
            inr (subst (λ b. unwrap_or (if b then Some (amount_of a) else find unit_cmp u (rows_of rest)) 0 + floor_of p who u ≤ amount p.held (who, u)) (sym t) here))
        | inr f ↦ subst (λ b. (unwrap_or (if b then Some (amount_of a) else find unit_cmp u (rows_of rest)) 0 ≡ 0)
            ⊎ (unwrap_or (if b then Some (amount_of a) else find unit_cmp u (rows_of rest)) 0 + floor_of p who u ≤ amount p.held (who, u))) (sym f)
            (covered rest u (none_next (debit_fault p (Some who) a) _ ok))
      ]

  left_to : (list : List Asset) (u : Unit) → HasOnce list → first_fault (debit_fault p (Some who)) list ≡ None → floor_of p who u ≤ amount p.held (who, u)
      → floor_of p who u ≤ amount (difference p.held (held_by who (bundle_of list))) (who, u)
  left_to list u once ok floors =
      let left = amount-difference holder_keys p.held (held_by who (bundle_of list)) (who, u) in
      let here = held_here who (bundle_of list) u in
      let most = once u in
      ⊎_elim (λ (none : found u list ≡ 0). omega (arith, left, here, most, none, floors)) (λ (some : found u list + floor_of p who u ≤ amount p.held (who, u)). omega (arith, left, here, most, some)) (covered list u ok)

  pub out_floors : (list : List Asset) → HasOnce list → first_fault (debit_fault p (Some who)) list ≡ None → HoldsFloors p → HasFloors p.locked (difference p.held (held_by who (bundle_of list)))
  out_floors list once ok floors one u =
      elim (cases_Bool (eq_by_cmp account_cmp who one)) [
        | inl same ↦ (
            let is : who ≡ one = key_same account_keys who one same in
            subst (λ (w : List ℕ). floor_of p w u ≤ amount (difference p.held (held_by who (bundle_of list))) (w, u)) is (left_to list u once ok (floors who u)))
        | inr other ↦ (
            let kept = less_other p.held who (bundle_of list) (one, u) (λ e. absurd (true≢false (sym (same_key account_keys who) ∙ ap (eq_by_cmp account_cmp who) e ∙ other))) in
            let had = floors one u in
            omega (arith, kept, had))
      ]

module _ (p : ChainPart) (list : List Asset) (once : HasOnce list) (floors : HoldsFloors p) where
  given_at : (o : Option (List ℕ)) → first_fault (debit_fault p o) list ≡ None → HasFloors p.locked (at_account o (λ account. (Withdrawn account list (accounts_of p)).held) p.held)
  given_at None ok = floors
  given_at (Some who) ok = out_floors p who list once ok floors

  pub given_floors : (who : Location) → first_fault (debit_fault p (account_of who p.site)) list ≡ None → HoldsFloors (given p list who)
  given_floors who ok = given_at (account_of who p.site) ok

-- ---- what is got
pub more_floors : (locked : LocksAndNotes) (a b : Held) → ((h : Holder) → amount a h ≤ amount b h) → HasFloors locked a → HasFloors locked b
more_floors locked a b more floors who u = let had = floors who u in let most = more (who, u) in omega (arith, had, most)

pub merged_more : (held more : Held) (h : Holder) → amount held h ≤ amount (merge held more) h
merged_more held more h = let sum = amount-merge holder_keys held more h in omega (arith, sum)

got_at : (p : ChainPart) (goods : Bundle) (o : Option (List ℕ)) → HoldsFloors p → HasFloors p.locked (at_account o (λ account. (Deposited account goods (accounts_of p)).held) p.held)
got_at p goods None floors = floors
got_at p goods (Some who) floors = more_floors p.locked p.held (merge p.held (held_by who goods)) (merged_more p.held (held_by who goods)) floors

pub got_floors : (p : ChainPart) (goods : Bundle) (who : Location) → HoldsFloors p → HoldsFloors (got p goods who)
got_floors p goods who floors = got_at p goods (account_of who p.site) floors

pub settled_floors : (p : ChainPart) → HoldsFloors p → HasFloors p.locked (settled p).held
unfolding settled
settled_floors p floors = more_floors p.locked p.held _ (merged_more p.held _) floors

-- ---- floors
lower_floors : (l n : LocksAndNotes) (held : Held) → ((who : List ℕ) (id : Location) → floor who id n ≤ floor who id l) → HasFloors l held → HasFloors n held
lower_floors l n held less floors who unit = by_unit unit.0 unit.1 (floors who unit)
  where
    by_unit : (id : AssetId) (i : Option Instance) → floor_at l who id i ≤ amount held (who, unit) → floor_at n who id i ≤ amount held (who, unit)
    by_unit (AssetId.Concrete id) None had = let most = less who id in omega (arith, most, had)
    by_unit (AssetId.Concrete id) (Some i) had = had
    by_unit (AssetId.Abstract bytes) i had = had

pub unlocked_floors : (o : Option LockKey) (n : ℕ) (l : LocksAndNotes) (held : Held) → HasFloors l held → HasFloors (option_map_or (λ (k : LockKey). Unlocked k n l) o l) held
unlocked_floors None n l held floors = floors
unlocked_floors (Some k) n l held floors = lower_floors l (Unlocked k n l) held (floor_less-Unlocked k n l) floors

pub noted_floors : (o : Option NoteKey) (n : ℕ) (l : LocksAndNotes) (held : Held) → HasFloors l held → HasFloors (option_map_or (λ (k : NoteKey). Noted k n l) o l) held
noted_floors None n l held floors = floors
noted_floors (Some k) n l held floors = lower_floors l (Noted k n l) held (λ who id. let e = floor_stays-Noted k n l who id in omega (arith, e)) floors

pub reduced_floors : (o : Option NoteKey) (n : ℕ) (l : LocksAndNotes) (held : Held) → HasFloors l held → HasFloors (option_map_or (λ (k : NoteKey). Reduced k n l) o l) held
reduced_floors None n l held floors = floors
reduced_floors (Some k) n l held floors = lower_floors l (Reduced k n l) held (λ who id. let e = floor_stays-Reduced k n l who id in omega (arith, e)) floors

-- a lock that is set is on no more than the account has
set_floors : (who : List ℕ) (id unlocker : Location) (n : ℕ) (l : LocksAndNotes) (held : Held) → n ≤ amount held (who, (AssetId.Concrete id, None)) → HasFloors l held → HasFloors (Locked (who, id, unlocker) n l) held
set_floors who id unlocker n l held enough floors one unit = by_unit unit.0 unit.1 (floors one unit)
  where
    by_asset : (other : Location) → floor one other l ≤ amount held (one, (AssetId.Concrete other, None)) → floor one other (Locked (who, id, unlocker) n l) ≤ amount held (one, (AssetId.Concrete other, None))
    by_asset other had = elim (cases_Bool (eq_by_cmp locked_asset_cmp (one, other) (who, id))) [
      | inl t ↦ (
          let same : ◌≡◌ {A = LockedAsset} (one, other) (who, id) = key_same locked_asset_keys (one, other) (who, id) t in
          let there : floor who id l ≤ amount held (who, (AssetId.Concrete id, None)) = subst (λ (x : LockedAsset). floor x.0 x.1 l ≤ amount held (x.0, (AssetId.Concrete x.1, None))) same had in
          let set = floor-Locked who id unlocker n l in
          let fits : floor who id (Locked (who, id, unlocker) n l) ≤ amount held (who, (AssetId.Concrete id, None)) = omega (arith, set, there, enough) in
          subst (λ (x : LockedAsset). floor x.0 x.1 (Locked (who, id, unlocker) n l) ≤ amount held (x.0, (AssetId.Concrete x.1, None))) (sym same) fits)
      | inr f ↦ (let kept = floor_other-Locked (who, id, unlocker) n l one other (λ e. not_both e f) in omega (arith, kept, had))
    ]
      where
        not_both : ◌≡◌ {A = LockedAsset} (one, other) (who, id) → eq_by_cmp locked_asset_cmp (one, other) (who, id) ≡ false → ⊥
        not_both e f = let both : true ≡ false = sym (same_key locked_asset_keys (one, other)) ∙ ap (eq_by_cmp locked_asset_cmp (one, other)) e ∙ f in cc

    by_unit : (aid : AssetId) (i : Option Instance) → floor_at l one aid i ≤ amount held (one, (aid, i)) → floor_at (Locked (who, id, unlocker) n l) one aid i ≤ amount held (one, (aid, i))
    by_unit (AssetId.Concrete other) None had = by_asset other had
    by_unit (AssetId.Concrete other) (Some i) had = had
    by_unit (AssetId.Abstract bytes) i had = had

locked_by : (p : ChainPart) (aid : AssetId) (fun : Fun) (o : Option (List ℕ)) (unlocker : Location) → HoldsFloors p
    → (let a : Asset = record { id = aid; fun = fun } in
    let key = option_and_then (λ (id : Location). option_map (λ (who : List ℕ). let key : LockKey = (who, id, unlocker) in key) o) (fungible_id aid fun) in
    option_map_or (is_lockable p a) key false ≡ true → HasFloors (option_map_or (λ (k : LockKey). Locked k (amount_of a) p.locked) key p.locked) p.held)
locked_by p (AssetId.Concrete id) (Fun.Fungible n) None unlocker floors ok = floors
locked_by p (AssetId.Concrete id) (Fun.Fungible n) (Some who) unlocker floors ok =
    let a : Asset = record { id = AssetId.Concrete id; fun = Fun.Fungible n } in
    set_floors who id unlocker n p.locked p.held (at_most n _ (both_hold (not (is_pool_account p.pools who)) _ (both_hold (is_some (row_of p.rows a)) _ ok))) floors
  where
    at_most : (a b : ℕ) → nat_le a b ≡ true → a ≤ b
    at_most a b h = grind (arith, nat_tests, h)
locked_by p (AssetId.Concrete id) (Fun.NonFungible i) o unlocker floors ok = floors
locked_by p (AssetId.Abstract bytes) fun o unlocker floors ok = floors

pub lockable_floors : (p : ChainPart) (a : Asset) (owner unlocker : Location) (key : LockKey) → lock_key p a owner unlocker ≡ Some key → is_lockable p a key ≡ true → HoldsFloors p
    → HasFloors (Locked key (amount_of a) p.locked) p.held
lockable_floors p a owner unlocker key is enough floors =
    subst (λ (o : Option LockKey). HasFloors (option_map_or (λ (k : LockKey). Locked k (amount_of a) p.locked) o p.locked) p.held) is
    (locked_by p a.id a.fun (account_of owner p.site) unlocker floors (ap (λ (o : Option LockKey). option_map_or (is_lockable p a) o false) is ∙ enough))

pub locked_floors : (p : ChainPart) (a : Asset) (owner unlocker : Location) → lock_refusal p a owner unlocker ≡ None → HoldsFloors p
    → HasFloors (option_map_or (λ (k : LockKey). Locked k (amount_of a) p.locked) (lock_key p a owner unlocker) p.locked) p.held
unfolding lock_refusal
locked_floors p a owner unlocker ok floors =
    locked_by p a.id a.fun (account_of owner p.site) unlocker floors
    (unless_held (option_map_or (is_lockable p a) (lock_key p a owner unlocker) false) error.LockError _ (unless_next p.locks error.LockError _ ok))

-- ---- no lock, no floor
pub none_kept : (who : List ℕ) (id : AssetId) (instance : Option Instance) → floor_at no_locks who id instance ≡ 0
none_kept who (AssetId.Concrete id) None = let h = floor_at_most who id no_locks 0 (λ unlocker. let e = amount-empty lock_keys (who, id, unlocker) in omega (arith, e)) in omega (arith, h)
none_kept who (AssetId.Concrete id) (Some i) = refl
none_kept who (AssetId.Abstract bytes) i = refl

-- ---- calls
-- a unit that has a row has its floor there
floor_at_row : (p : ChainPart) (one : List ℕ) (u : Unit) (row : ℕ) → row_of_unit p.rows u ≡ Some row → floors_of p (one, row) ≡ floor_of p one u
floor_at_row p one u row is =
    ap (λ (b : Bool). if b then floor_of p one (unit_at p.rows row) else 0) (fungible_found p.rows u row is) ∙ ap (floor_of p one) (unit_found p.rows u row is)

pub held_floors : (p : ChainPart) (who : List ℕ) (c : AnyCall) → HoldsFloors p → HasFloors p.locked (held_dispatched p who c)
held_floors p who c floors one u = floor_called p.rows p.held (floors_of p) who c one u (floor_of p one u) (floor_at_row p one u) (floors one u)

pub dispatched_floors : (p : ChainPart) (who : List ℕ) (c : AnyCall) → HoldsFloors p → HoldsFloors (dispatched p who c)
unfolding dispatched
dispatched_floors p who c floors = held_floors p who c floors

-- what is left where memory was refused is what a batch of a prefix would leave
pub in_part_floors : (p : ChainPart) (who : List ℕ) (c : AnyCall) (now : ChainPart) → IsDispatchedInPart p who c now → HoldsFloors p → HoldsFloors now
in_part_floors p who c now h floors =
    subst HoldsFloors (sym h.is)
    (subst (λ (held : Held). HasFloors p.locked held) (sym (front_called p.rows p.held (floors_of p) who c h.held h.in_part))
    (held_floors p who (Batch h.in_part.interrupted.front) floors))

-- ---- amounts by rows
module _ (p : ChainPart) (apart : IsDistinct (eq_by_cmp listed_cmp) (listing p.rows)) where
  kept_at : (who : List ℕ) (row : ℕ) → HoldsFloors p → (b : Bool) → is_fungible_row (slice_get p.rows row) ≡ b
      → (if b then floor_of p who (unit_at p.rows row) else 0) ≤ amount (row_amounts p.rows p.held) (who, row)
  kept_at who row floors true there =
      let is = amount_of_row p.rows (unit_at p.rows row) row (found_by_number p.rows apart row there) p.held who in
      let low = floors who (unit_at p.rows row) in
      omega (arith, is, low)
  kept_at who row floors false none = omega arith

  -- an account has of each row what must stay there
  pub floors_kept : HoldsFloors p → AreKept (row_amounts p.rows p.held) (floors_of p)
  floors_kept floors k = kept_at k.0 k.1 floors (is_fungible_row (slice_get p.rows k.1)) refl

  -- what is moved of a row above the giver's floor leaves each account its floor
  pub shifted_floors : (row : ℕ) (from to : List ℕ) (n : ℕ) (now : Held) → n ≤ spare (row_amounts p.rows p.held) (floors_of p) (from, row)
      → row_amounts p.rows now ≡ shifted (row_amounts p.rows p.held) row from to n → held_aside p.rows now ≡ held_aside p.rows p.held
      → HoldsFloors p → HasFloors p.locked now
  shifted_floors row from to n now enough moved aside floors one u =
      let m = shifted (row_amounts p.rows p.held) row from to n in
      subst (λ (held : Held). floor_of p one u ≤ amount held (one, u)) (sym (known_by_rows p.rows p.held now m aside moved))
      (enough_with_rows p.rows p.held m one u (floor_of p one u)
      (λ r is.
      let floor = floor_at_row p one u r is in
      let low = floor_keeps (row_amounts p.rows p.held) row from to n (floors_of p) enough (one, r) (floors_kept floors (one, r)) in
      omega (arith, floor, low))
      (floors one u))

-- ---- pools
isnt_true : (a : Bool) → not a ≡ true → a ≡ true → ⊥
isnt_true true h k = absurd cc
isnt_true false h k = absurd cc

-- what is locked is on no pool's account
pub lockable_apart : (p : ChainPart) (a : Asset) (key : LockKey) → is_lockable p a key ≡ true → is_pool_account p.pools key.0 ≡ true → ⊥
lockable_apart p a key ok pool = isnt_true (is_pool_account p.pools key.0) (both_first _ _ (both_hold (is_some (row_of p.rows a)) _ ok)) pool

pub lockable_not : (p : ChainPart) (a : Asset) (key : LockKey) → is_lockable p a key ≡ true → is_pool_account p.pools key.0 ≡ false
lockable_not p a key ok = isnt (is_pool_account p.pools key.0) (lockable_apart p a key ok)

-- so their accounts stay without locks
pub locked_frees : (pools : List Pool) (key : LockKey) (n : ℕ) (l : LocksAndNotes) → (is_pool_account pools key.0 ≡ true → ⊥) → NoPoolLocks pools l → NoPoolLocks pools (Locked key n l)
locked_frees pools key n l apart free q pool =
    let other = locked_other key n l q (λ (same : q ≡ key). apart (subst (λ (k : LockKey). is_pool_account pools k.0 ≡ true) same pool)) in
    let none = free q pool in
    omega (arith, other, none)

pub unlocked_frees : (pools : List Pool) (key : LockKey) (n : ℕ) (l : LocksAndNotes) → NoPoolLocks pools l → NoPoolLocks pools (Unlocked key n l)
unlocked_frees pools key n l free q pool = let less = unlocked_less key n l q in let none = free q pool in omega (arith, less, none)

pub noted_frees : (pools : List Pool) (key : NoteKey) (n : ℕ) (l : LocksAndNotes) → NoPoolLocks pools l → NoPoolLocks pools (Noted key n l)
noted_frees pools key n l free q pool = let same = locks_stay-Noted key n l q in let none = free q pool in omega (arith, same, none)

pub reduced_frees : (pools : List Pool) (key : NoteKey) (n : ℕ) (l : LocksAndNotes) → NoPoolLocks pools l → NoPoolLocks pools (Reduced key n l)
reduced_frees pools key n l free q pool = let same = locks_stay-Reduced key n l q in let none = free q pool in omega (arith, same, none)

-- an account that has no lock may give all
no_floor : (who : List ℕ) (l : LocksAndNotes) → ((id unlocker : Location) → lock_at (who, id, unlocker) l ≡ 0) → (id : AssetId) (i : Option Instance) → floor_at l who id i ≡ 0
no_floor who l none (AssetId.Concrete id) None = let most = floor_at_most who id l 0 (λ unlocker. let e = none id unlocker in omega (arith, e)) in omega (arith, most)
no_floor who l none (AssetId.Concrete id) (Some i) = refl
no_floor who l none (AssetId.Abstract bytes) i = refl

pub exchange_floors : (pools : List Pool) (locked : LocksAndNotes) (held : Held) (give : Bundle) (e : Exchange) → IsMade pools held give e → NoPoolLocks pools locked → HasFloors locked held → HasFloors locked (held_after e held)
exchange_floors pools locked held give e is free floors who unit =
    elim (cases_lt (amount (held_after e held) (who, unit)) (amount held (who, unit))) [
      | inl less ↦ (
          let pool : who ≡ pool_account e.place = exchange_lowers pools held give e is who unit less in
          let there : is_pool_account pools who ≡ true = ap (is_pool_account pools) pool ∙ pool_found pools e.place (slice_get_within pools e.place is.pool is.at) in
          let none = no_floor who locked (λ id unlocker. free (who, id, unlocker) there) unit.0 unit.1 in
          omega (arith, none))
      | inr most ↦ (let had = floors who unit in omega (arith, had, most))
    ]

exchanged_by : (p : ChainPart) (give : Bundle) (want : List Asset) (maximal : Bool) (o : Option Exchange) → exchange_at p give want maximal ≡ o → FreesPools p → HoldsFloors p
    → HasFloors p.locked (option_map_or (λ (e : Exchange). let q : ChainPart = record p { held = held_after e p.held } in q) o p).held
exchanged_by p give want maximal None is free floors = floors
exchanged_by p give want maximal (Some e) is free floors = exchange_floors p.pools p.locked p.held give e (exchange_says p.pools p.held give want maximal e is) free floors

pub exchanged_floors : (p : ChainPart) (give : Bundle) (want : List Asset) (maximal : Bool) → FreesPools p → HoldsFloors p → HasFloors p.locked (exchanged p give want maximal).held
unfolding exchanged
exchanged_floors p give want maximal free floors = exchanged_by p give want maximal (exchange_at p give want maximal) refl free floors

-- ---- calls that change locks leave pools' accounts without any
pub lock_frees : (p : ChainPart) (a : Asset) (o : Option LockKey) → option_map_or (is_lockable p a) o false ≡ true → FreesPools p → NoPoolLocks p.pools (option_map_or (λ (k : LockKey). Locked k (amount_of a) p.locked) o p.locked)
lock_frees p a None ok free = free
lock_frees p a (Some key) ok free = locked_frees p.pools key (amount_of a) p.locked (lockable_apart p a key ok) free

pub locking_frees : (p : ChainPart) (a : Asset) (owner unlocker : Location) → lock_refusal p a owner unlocker ≡ None → FreesPools p
    → NoPoolLocks p.pools (option_map_or (λ (k : LockKey). Locked k (amount_of a) p.locked) (lock_key p a owner unlocker) p.locked)
unfolding lock_refusal
locking_frees p a owner unlocker ok free =
    lock_frees p a (lock_key p a owner unlocker) (unless_held (option_map_or (is_lockable p a) (lock_key p a owner unlocker) false) error.LockError _ (unless_next p.locks error.LockError _ ok)) free

pub unlocking_frees : (pools : List Pool) (o : Option LockKey) (n : ℕ) (l : LocksAndNotes) → NoPoolLocks pools l → NoPoolLocks pools (option_map_or (λ (k : LockKey). Unlocked k n l) o l)
unlocking_frees pools None n l free = free
unlocking_frees pools (Some key) n l free = unlocked_frees pools key n l free

pub noting_frees : (pools : List Pool) (o : Option NoteKey) (n : ℕ) (l : LocksAndNotes) → NoPoolLocks pools l → NoPoolLocks pools (option_map_or (λ (k : NoteKey). Noted k n l) o l)
noting_frees pools None n l free = free
noting_frees pools (Some key) n l free = noted_frees pools key n l free

pub reducing_frees : (pools : List Pool) (o : Option NoteKey) (n : ℕ) (l : LocksAndNotes) → NoPoolLocks pools l → NoPoolLocks pools (option_map_or (λ (k : NoteKey). Reduced k n l) o l)
reducing_frees pools None n l free = free
reducing_frees pools (Some key) n l free = reduced_frees pools key n l free

pub none_frees : (pools : List Pool) → NoPoolLocks pools no_locks
none_frees pools key pool = amount-empty lock_keys key
