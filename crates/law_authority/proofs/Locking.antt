-- What the four calls of locks do to locks and floors.
use Rattle.std.proofs.Common.{◌≡◌, ℕ, ◌≤◌, true, false, List, Option, Some, None, inl, inr, refl, sym, ap, ◌∙◌, subst, arith}
use Rattle.std.specs.Option.{option_map, option_map_or, option_and_then}
use Rattle.std.specs.Ordering.{eq_by_cmp}
use Rattle.std.proofs.lemmas.Bool.{cases_Bool, cases_lt}
use Rattle.amounts.proofs.Lemmas.{same_key, key_same}
use Rattle.locations.specs.declared.relative.Location.{Location}
use Rattle.asset_lists.specs.declared.units.Asset.{Asset}
use Rattle.asset_lists.specs.declared.units.AssetId.{AssetId}
use Rattle.asset_lists.specs.declared.units.Instance.{Instance}
use Rattle.asset_lists.specs.Units.{Unit, amount_of}
use Rattle.asset_locks.specs.LockMaps.{LockKey, lock_cmp, NoteKey, LocksAndNotes, lock_at, floor, Locked, Unlocked, Noted, Reduced}
use Rattle.asset_locks.proofs.Lemmas.{lock_keys, floor_at_most, locked_more, locked_other, unlocked_less, unlocked_other, locks_stay-Noted, locks_stay-Reduced}
use Rattle.trust_tables.specs.Accounts.{account_of}
use Rattle.xcm_program.specs.declared.instruction.Instruction.{Instruction}
use Rattle.exec_base.specs.Part.{ChainPart}
use Rattle.exec_base.specs.Sending.{sent, named_sent}
use Rattle.asset_locks.specs.UnitFloors.{floor_at}
use Rattle.exec_base.specs.Host.{floor_of, lock_id, lock_key, note_program, with_lock, asset_locked, request_key, unlock_program, with_less_noted, asset_requested}
use Rattle.network_steps.specs.Steps.{is_sovereign}
use Rattle.law_authority.specs.Floors.{FallsOnly, RisesOnly, NoSovereignLocks}

-- ---- what is sent leaves the locks
named_locked : (p : ChainPart) (dest : Location) (o : Option (List Instruction)) → (named_sent p dest o).locked ≡ p.locked
unfolding sent
named_locked p dest None = refl
named_locked p dest (Some program) = refl

pub locked_is : (p : ChainPart) (a : Asset) (owner unlocker : Location) → (asset_locked p a owner unlocker).locked ≡ option_map_or (λ (k : LockKey). Locked k (amount_of a) p.locked) (lock_key p a owner unlocker) p.locked
unfolding asset_locked
locked_is p a owner unlocker = named_locked (with_lock p a (lock_key p a owner unlocker)) unlocker (note_program p a owner unlocker)

pub requested_is : (p : ChainPart) (a : Asset) (owner locker : Location) → (asset_requested p a owner locker).locked ≡ option_map_or (λ (k : NoteKey). Reduced k (amount_of a) p.locked) (request_key a owner locker) p.locked
unfolding asset_requested
requested_is p a owner locker = named_locked (with_less_noted p a (request_key a owner locker)) locker (unlock_program p a (request_key a owner locker) locker)

-- ---- the key of a lock
key_by : (id : Option Location) (who : Option (List ℕ)) (unlocker : Location) (k : LockKey)
    → option_and_then (λ (id : Location). option_map (λ (who : List ℕ). let key : LockKey = (who, id, unlocker) in key) who) id ≡ Some k → (who ≡ Some k.0) × (k.2 ≡ unlocker)
key_by None who unlocker k e = absurd (cc e)
key_by (Some id) None unlocker k e = absurd (cc e)
key_by (Some id) (Some who) unlocker k e =
    let is : ◌≡◌ {A = LockKey} (who, id, unlocker) k = some_key (who, id, unlocker) k e in
    (ap (λ (k : LockKey). Some k.0) is, sym (ap (λ (k : LockKey). k.2) is))
  where
    some_key : (a b : LockKey) → Some a ≡ Some b → a ≡ b
    some_key a b e = cc

key_says : (p : ChainPart) (a : Asset) (owner unlocker : Location) (k : LockKey) → lock_key p a owner unlocker ≡ Some k → (account_of owner p.site ≡ Some k.0) × (k.2 ≡ unlocker)
key_says p a owner unlocker k e = key_by (lock_id a) (account_of owner p.site) unlocker k e

-- ---- which locks fall, and which rise
other_key : (j k : LockKey) → eq_by_cmp lock_cmp j k ≡ false → j ≡ k → ⊥
other_key j k f e = let both : true ≡ false = sym (same_key lock_keys j) ∙ ap (eq_by_cmp lock_cmp j) e ∙ f in absurd (cc both)

none_falls : (May : LockKey → Type 0) (a b : LocksAndNotes) → ((key : LockKey) → lock_at key a ≤ lock_at key b) → FallsOnly May a b
none_falls May a b more key less = absurd (let most = more key in omega (arith, most, less))

none_rises : (May : LockKey → Type 0) (a b : LocksAndNotes) → ((key : LockKey) → lock_at key b ≤ lock_at key a) → RisesOnly May a b
none_rises May a b less key more = absurd (let most = less key in omega (arith, most, more))

pub same_falls : (May : LockKey → Type 0) (l : LocksAndNotes) → FallsOnly May l l
same_falls May l = none_falls May l l (λ key. omega arith)

pub same_rises : (May : LockKey → Type 0) (l : LocksAndNotes) → RisesOnly May l l
same_rises May l = none_rises May l l (λ key. omega arith)

pub then_falls : (May : LockKey → Type 0) (a b c : LocksAndNotes) → FallsOnly May a b → FallsOnly May b c → FallsOnly May a c
then_falls May a b c h k key less = elim (cases_lt (lock_at key b) (lock_at key a)) [ inl lower ↦ h key lower | inr higher ↦ k key (omega (arith, higher, less)) ]

pub then_rises : (May : LockKey → Type 0) (a b c : LocksAndNotes) → RisesOnly May a b → RisesOnly May b c → RisesOnly May a c
then_rises May a b c h k key more = elim (cases_lt (lock_at key a) (lock_at key b)) [ inl higher ↦ h key higher | inr lower ↦ k key (omega (arith, lower, more)) ]

pub locked_falls : (May : LockKey → Type 0) (o : Option LockKey) (n : ℕ) (l : LocksAndNotes) → FallsOnly May l (option_map_or (λ (k : LockKey). Locked k n l) o l)
locked_falls May None n l = same_falls May l
locked_falls May (Some k) n l = none_falls May l (Locked k n l) (locked_more k n l)

pub locked_rises : (May : LockKey → Type 0) (o : Option LockKey) (n : ℕ) (l : LocksAndNotes) → ((k : LockKey) → o ≡ Some k → May k) → RisesOnly May l (option_map_or (λ (k : LockKey). Locked k n l) o l)
locked_rises May None n l says key more = same_rises May l key more
locked_rises May (Some k) n l says key more = elim (cases_Bool (eq_by_cmp lock_cmp key k)) [
  | inl t ↦ subst May (sym (key_same lock_keys key k t)) (says k refl)
  | inr f ↦ absurd (let kept = locked_other k n l key (other_key key k f) in omega (arith, kept, more))
]

pub unlocked_falls : (May : LockKey → Type 0) (o : Option LockKey) (n : ℕ) (l : LocksAndNotes) → ((k : LockKey) → o ≡ Some k → May k) → FallsOnly May l (option_map_or (λ (k : LockKey). Unlocked k n l) o l)
unlocked_falls May None n l says key less = same_falls May l key less
unlocked_falls May (Some k) n l says key less = elim (cases_Bool (eq_by_cmp lock_cmp key k)) [
  | inl t ↦ subst May (sym (key_same lock_keys key k t)) (says k refl)
  | inr f ↦ absurd (let kept = unlocked_other k n l key (other_key key k f) in omega (arith, kept, less))
]

pub unlocked_rises : (May : LockKey → Type 0) (o : Option LockKey) (n : ℕ) (l : LocksAndNotes) → RisesOnly May l (option_map_or (λ (k : LockKey). Unlocked k n l) o l)
unlocked_rises May None n l = same_rises May l
unlocked_rises May (Some k) n l = none_rises May l (Unlocked k n l) (unlocked_less k n l)

-- notes change no lock
abbrev HasSameLocks : LocksAndNotes → LocksAndNotes → Type 0
HasSameLocks a b = (key : LockKey) → lock_at key b ≡ lock_at key a

noted_same : (o : Option NoteKey) (n : ℕ) (l : LocksAndNotes) → HasSameLocks l (option_map_or (λ (k : NoteKey). Noted k n l) o l)
noted_same None n l key = refl
noted_same (Some k) n l key = locks_stay-Noted k n l key

reduced_same : (o : Option NoteKey) (n : ℕ) (l : LocksAndNotes) → HasSameLocks l (option_map_or (λ (k : NoteKey). Reduced k n l) o l)
reduced_same None n l key = refl
reduced_same (Some k) n l key = locks_stay-Reduced k n l key

alike_falls : (May : LockKey → Type 0) (a b : LocksAndNotes) → HasSameLocks a b → FallsOnly May a b
alike_falls May a b same = none_falls May a b (λ key. let e = same key in omega (arith, e))

alike_rises : (May : LockKey → Type 0) (a b : LocksAndNotes) → HasSameLocks a b → RisesOnly May a b
alike_rises May a b same = none_rises May a b (λ key. let e = same key in omega (arith, e))

pub noted_falls : (May : LockKey → Type 0) (o : Option NoteKey) (n : ℕ) (l : LocksAndNotes) → FallsOnly May l (option_map_or (λ (k : NoteKey). Noted k n l) o l)
noted_falls May o n l = alike_falls May l (option_map_or (λ (k : NoteKey). Noted k n l) o l) (noted_same o n l)

pub noted_rises : (May : LockKey → Type 0) (o : Option NoteKey) (n : ℕ) (l : LocksAndNotes) → RisesOnly May l (option_map_or (λ (k : NoteKey). Noted k n l) o l)
noted_rises May o n l = alike_rises May l (option_map_or (λ (k : NoteKey). Noted k n l) o l) (noted_same o n l)

pub reduced_falls : (May : LockKey → Type 0) (o : Option NoteKey) (n : ℕ) (l : LocksAndNotes) → FallsOnly May l (option_map_or (λ (k : NoteKey). Reduced k n l) o l)
reduced_falls May o n l = alike_falls May l (option_map_or (λ (k : NoteKey). Reduced k n l) o l) (reduced_same o n l)

pub reduced_rises : (May : LockKey → Type 0) (o : Option NoteKey) (n : ℕ) (l : LocksAndNotes) → RisesOnly May l (option_map_or (λ (k : NoteKey). Reduced k n l) o l)
reduced_rises May o n l = alike_rises May l (option_map_or (λ (k : NoteKey). Reduced k n l) o l) (reduced_same o n l)

-- the key of the call's lock
pub lock_on : (p : ChainPart) (a : Asset) (owner unlocker : Location) (k : LockKey) → lock_key p a owner unlocker ≡ Some k → account_of owner p.site ≡ Some k.0
lock_on p a owner unlocker k e = (key_says p a owner unlocker k e).0

pub lock_by : (p : ChainPart) (a : Asset) (target from : Location) (k : LockKey) → lock_key p a target from ≡ Some k → k.2 ≡ from
lock_by p a target from k e = (key_says p a target from k e).1

pub no_floor : (p : ChainPart) (who : List ℕ) (unit : Unit) → NoSovereignLocks p.locked → is_sovereign who ≡ true → floor_of p who unit ≡ 0
no_floor p who unit free sovereign = by_unit unit.0 unit.1
  where
    none : (id : Location) → floor who id p.locked ≡ 0
    none id = let most = floor_at_most who id p.locked 0 (λ unlocker. let e = free (who, id, unlocker) sovereign in omega (arith, e)) in omega (arith, most)

    by_unit : (id : AssetId) (i : Option Instance) → floor_at p.locked who id i ≡ 0
    by_unit (AssetId.Concrete id) None = none id
    by_unit (AssetId.Concrete id) (Some i) = refl
    by_unit (AssetId.Abstract bytes) i = refl
