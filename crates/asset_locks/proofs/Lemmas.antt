-- For proofs alone: a reader may skip this file. The orders of the keys, what the greatest amount is, and what the four
-- changes do to each lock, each note and each floor. The laws of `laws.rt` say it.
use Rattle.std.specs.Prelude.{◌≡◌, ◌≢◌, ℕ, ◌+◌, ◌-◌, ◌<◌, ◌≤◌, max, Bool, true, false, IsTrue, if◌then◌else◌, List, [], ◌∷◌, Some, unwrap_or, refl}
use Rattle.std.specs.Ordering.{nat_cmp, eq_by_cmp}
use Rattle.std.specs.declared.cmp.Ordering.{Ordering}
use Rattle.std.specs.Cmp.Lexicographic.{slice_cmp}
use Rattle.std.specs.FinMap.{find}
use Rattle.std.proofs.Common.{sym, ap, ◌∙◌, subst, arith, inl, inr, true≢false}
use Rattle.std.proofs.lemmas.Bool.{cases_Bool, cases_lt}
use Rattle.locations.specs.declared.relative.Location.{Location}
use Rattle.locations.specs.Order.{location_cmp}
use Rattle.locations.specs.OrderLaws.{location_total}
use Rattle.locations.proofs.Lemmas.OrderLaws.{location_exact}
use Rattle.amounts.specs.Rows.{amount_if, sum_where}
use Rattle.amounts.proofs.Lemmas.Rows.{IsKeyOrder}
use Rattle.amounts.proofs.Lemmas.Keys.{number_keys, list_keys, pair_keys, keys_by}
use Rattle.amounts.specs.Amounts.{Amounts, amount, rows, with_amount, minus}
use Rattle.amounts.proofs.Lemmas.AmountLaws.{amount-with_amount, same_amounts, find-rows}
use Rattle.amounts.proofs.Lemmas.{same_key, key_same, amount-minus, amount-rows}
use Rattle.asset_locks.specs.Greatest.{greatest_in, greatest_amount}
use Rattle.asset_locks.specs.LockMaps.{LockKey, LockedAsset, asset_of, locked_asset_cmp, lock_cmp, NoteKey, note_cmp, LocksAndNotes, lock_at, is_lock_of, floor, noted, Locked, Unlocked, Noted, Reduced}

-- ---- the orders of the keys
pub place_keys : IsKeyOrder location_cmp
place_keys = record { total = location_total; exact = location_exact }

pub account_keys : IsKeyOrder (slice_cmp nat_cmp)
account_keys = list_keys number_keys

pub locked_asset_keys : IsKeyOrder locked_asset_cmp
locked_asset_keys = pair_keys account_keys place_keys

pub lock_keys : IsKeyOrder lock_cmp
lock_keys = keys_by (λ (k : LockKey). ((k.0, k.1), k.2)) (λ x y e i. ((e i).0.0, (e i).0.1, (e i).1)) (pair_keys locked_asset_keys place_keys)

pub note_keys : IsKeyOrder note_cmp
note_keys = keys_by (λ (k : NoteKey). ((k.0, k.1), k.2)) (λ x y e i. ((e i).0.0, (e i).0.1, (e i).1)) (pair_keys (pair_keys place_keys place_keys) account_keys)

module _ {K : Type 0} {R : K → K → Ordering} (o : IsKeyOrder R) where
  pub apart : (j k : K) → j ≢ k → eq_by_cmp R j k ≡ false
  apart j k other = elim (cases_Bool (eq_by_cmp R j k)) [ inl t ↦ absurd (other (key_same o j k t)) | inr f ↦ f ]

  differs : (j k : K) → eq_by_cmp R j k ≡ false → j ≢ k
  differs j k f e = true≢false (sym (subst (λ x. eq_by_cmp R j x ≡ true) e (same_key o j)) ∙ f)

-- ---- one amount of a map, raised to the greater of old and new, or lowered
module _ {K : Type 0} {R : K → K → Ordering} (o : IsKeyOrder R) (m : Amounts R) (key : K) (a : ℕ) where
  abbrev raised : Amounts R
  raised = with_amount m key (max (amount m key) a)

  raised_itself : amount raised key ≡ max (amount m key) a
  raised_itself = amount-with_amount o m key (max (amount m key) a) key ∙ ap (λ b. if b then max (amount m key) a else amount m key) (same_key o key)

  raised_other : (q : K) → q ≢ key → amount raised q ≡ amount m q
  raised_other q other = amount-with_amount o m key (max (amount m key) a) q ∙ ap (λ b. if b then max (amount m key) a else amount m q) (apart o q key other)

  -- none falls, and none passes the greater of what it was and what was asked
  raised_between : (q : K) → (amount m q ≤ amount raised q) × (amount raised q ≤ max (amount m q) a)
  raised_between q = elim (cases_Bool (eq_by_cmp R q key)) [
    | inl t ↦ (
        let is : amount raised q ≡ amount raised key = ap (amount raised) (key_same o q key t) in
        let old : amount m q ≡ amount m key = ap (amount m) (key_same o q key t) in
        (omega (arith, is, raised_itself, old), omega (arith, is, raised_itself, old)))
    | inr f ↦ (
        let is : amount raised q ≡ amount m q = raised_other q (differs o q key f) in
        (omega (arith, is), omega (arith, is)))
  ]

  lowered_itself : amount (minus m key a) key ≡ amount m key - a
  lowered_itself = amount-minus o m key a key ∙ ap (λ b. amount m key - amount_if b a) (same_key o key)

  lowered_other : (q : K) → q ≢ key → amount (minus m key a) q ≡ amount m q
  lowered_other q other =
      let is : amount (minus m key a) q ≡ amount m q - 0 = amount-minus o m key a q ∙ ap (λ b. amount m q - amount_if b a) (apart o q key other) in
      omega (arith, is)

-- what wasn't there, raised and lowered again by as much, is as it was
raised_and_lowered : {K : Type 0} {R : K → K → Ordering} (o : IsKeyOrder R) (m : Amounts R) (key : K) (a : ℕ) → amount m key ≡ 0 → minus (raised o m key a) key a ≡ m
raised_and_lowered {R = R} o m key a none =
    let more = raised o m key a in
    same_amounts o (minus more key a) m (λ q. elim (cases_Bool (eq_by_cmp R q key)) [
      | inl t ↦ (
          let is : amount (minus more key a) q ≡ amount (minus more key a) key = ap (amount (minus more key a)) (key_same o q key t) in
          let old : amount m q ≡ amount m key = ap (amount m) (key_same o q key t) in
          omega (arith, is, old, lowered_itself o more key a, raised_itself o m key a, none))
      | inr f ↦ lowered_other o more key a q (differs o q key f) ∙ raised_other o m key a q (differs o q key f)
    ])

-- ---- the greatest amount
passed_most : (b : Bool) (n g : ℕ) → IsTrue b → n ≤ max (amount_if b n) g
passed_most true n g passes = omega arith
passed_most false n g passes = absurd (true≢false (sym passes))

one_within : (b : Bool) (a n : ℕ) → (IsTrue b → a ≤ n) → amount_if b a ≤ n
one_within true a n within = within refl
one_within false a n within = omega arith

counted_more : (b : Bool) (a s : ℕ) → s ≤ amount_if b a + s
counted_more b a s = omega arith

module _ {K : Type 0} {R : K → K → Ordering} (o : IsKeyOrder R) (p : K → Bool) where
  found_most : (es : List (K × ℕ)) (k : K) → IsTrue (p k) → unwrap_or (find R k es) 0 ≤ greatest_in p es
  found_most [] k passes = omega arith
  found_most (e ∷ es) k passes =
      let rest = found_most es k passes in
      elim (cases_Bool (eq_by_cmp R k e.0)) [
        | inl t ↦ (
            let here : e.1 ≤ greatest_in p (e ∷ es) = passed_most (p e.0) e.1 (greatest_in p es) (subst (λ x. IsTrue (p x)) (key_same o k e.0 t) passes) in
            subst (λ b. unwrap_or (if b then Some e.1 else find R k es) 0 ≤ greatest_in p (e ∷ es)) (sym t) here)
        | inr f ↦ subst (λ b. unwrap_or (if b then Some e.1 else find R k es) 0 ≤ greatest_in p (e ∷ es)) (sym f) (omega (arith, rest))
      ]

  sums_most : (es : List (K × ℕ)) (n : ℕ) → ((k : K) → IsTrue (p k) → sum_where (eq_by_cmp R k) es ≤ n) → greatest_in p es ≤ n
  sums_most [] n within = omega arith
  sums_most (e ∷ es) n within =
      let counted : amount_if (eq_by_cmp R e.0 e.0) e.1 ≡ e.1 = ap (λ b. amount_if b e.1) (same_key o e.0) in
      let here : amount_if (p e.0) e.1 ≤ n = one_within (p e.0) e.1 n (λ passes. omega (arith, counted, within e.0 passes)) in
      let rest : greatest_in p es ≤ n = sums_most es n (λ k passes. omega (arith, within k passes)) in
      omega (arith, here, rest)

  some_most : (es : List (K × ℕ)) → 0 < greatest_in p es → (k : K) × IsTrue (p k) × (greatest_in p es ≤ sum_where (eq_by_cmp R k) es)
  some_most [] some = absurd (omega (arith, some))
  some_most (e ∷ es) some =
      let counted : amount_if (eq_by_cmp R e.0 e.0) e.1 ≡ e.1 = ap (λ b. amount_if b e.1) (same_key o e.0) in
      elim (cases_lt (greatest_in p es) (amount_if (p e.0) e.1)) [
        | inl less ↦ elim (p e.0) as (λ b. p e.0 ≡ b → greatest_in p es < amount_if b e.1 → (k : K) × IsTrue (p k) × (greatest_in p (e ∷ es) ≤ sum_where (eq_by_cmp R k) (e ∷ es))) [
          | true ↦ λ t lt. (
              let most : greatest_in p (e ∷ es) ≡ max e.1 (greatest_in p es) = ap (λ b. max (amount_if b e.1) (greatest_in p es)) t in
              (e.0, t, omega (arith, most, lt, counted)))
          | false ↦ λ t lt. absurd (omega (arith, lt))
        ] refl less
        | inr more ↦ (
            let rest = some_most es (omega (arith, some, more)) in
            (rest.0, rest.1, let within = rest.2 in omega (arith, within, more)))
      ]

  -- no amount at a key that passes is more
  pub at_most_greatest : (m : Amounts R) (k : K) → IsTrue (p k) → amount m k ≤ greatest_amount p m
  unfolding greatest_amount
  at_most_greatest m k passes = subst (λ n. n ≤ greatest_in p (rows m)) (find-rows m k) (found_most (rows m) k passes)

  -- whatever no amount at a key that passes is more than
  pub greatest_at_most : (m : Amounts R) (n : ℕ) → ((k : K) → IsTrue (p k) → amount m k ≤ n) → greatest_amount p m ≤ n
  unfolding greatest_amount
  greatest_at_most m n within = sums_most (rows m) n (λ k passes. subst (λ a. a ≤ n) (amount-rows o m k) (within k passes))

  -- where it is above 0, it is the amount at some key
  pub some_greatest : (m : Amounts R) → 0 < greatest_amount p m → (k : K) × IsTrue (p k) × (amount m k ≡ greatest_amount p m)
  unfolding greatest_amount
  some_greatest m some =
      let found = some_most (rows m) some in
      let least : greatest_in p (rows m) ≤ amount m found.0 = subst (λ a. greatest_in p (rows m) ≤ a) (sym (amount-rows o m found.0)) found.2 in
      let most : amount m found.0 ≤ greatest_in p (rows m) = subst (λ n. n ≤ greatest_in p (rows m)) (find-rows m found.0) (found_most (rows m) found.0 found.1) in
      (found.0, found.1, omega (arith, least, most))

  -- maps that agree at the keys that pass have one greatest amount there
  pub greatest_alike : (m n : Amounts R) → ((k : K) → IsTrue (p k) → amount m k ≡ amount n k) → greatest_amount p m ≡ greatest_amount p n
  greatest_alike m n same =
      let there : greatest_amount p m ≤ greatest_amount p n = greatest_at_most m (greatest_amount p n) (λ k passes. subst (λ a. a ≤ greatest_amount p n) (sym (same k passes)) (at_most_greatest n k passes)) in
      let back : greatest_amount p n ≤ greatest_amount p m = greatest_at_most n (greatest_amount p m) (λ k passes. subst (λ a. a ≤ greatest_amount p m) (same k passes) (at_most_greatest m k passes)) in
      omega (arith, there, back)

-- ---- floors
asset_told : (asset : LockedAsset) (key : LockKey) → IsTrue (is_lock_of asset key) → asset ≡ asset_of key
asset_told asset key passes = key_same locked_asset_keys asset (asset_of key) passes

is_of_asset : (who : List ℕ) (id unlocker : Location) → IsTrue (is_lock_of (who, id) (who, id, unlocker))
is_of_asset who id unlocker = same_key locked_asset_keys (who, id)

pub lock_within_floor : (who : List ℕ) (id unlocker : Location) (l : LocksAndNotes) → lock_at (who, id, unlocker) l ≤ floor who id l
unfolding floor
lock_within_floor who id unlocker l = at_most_greatest lock_keys (is_lock_of (who, id)) l.locks (who, id, unlocker) (is_of_asset who id unlocker)

pub floor_is_lock : (who : List ℕ) (id : Location) (l : LocksAndNotes) → 0 < floor who id l → (unlocker : Location) × (lock_at (who, id, unlocker) l ≡ floor who id l)
unfolding floor
floor_is_lock who id l some =
    let found = some_greatest lock_keys (is_lock_of (who, id)) l.locks some in
    let asset : ◌≡◌ {A = LockedAsset} (who, id) (found.0.0, found.0.1) = asset_told (who, id) found.0 found.1 in
    (found.0.2, ap (λ (x : LockedAsset). amount l.locks (x.0, x.1, found.0.2)) asset ∙ found.2)

pub floor_at_most : (who : List ℕ) (id : Location) (l : LocksAndNotes) (n : ℕ) → ((unlocker : Location) → lock_at (who, id, unlocker) l ≤ n) → floor who id l ≤ n
unfolding floor
floor_at_most who id l n within = greatest_at_most lock_keys (is_lock_of (who, id)) l.locks n (λ key passes.
    subst (λ (x : LockedAsset). amount l.locks (x.0, x.1, key.2) ≤ n) (asset_told (who, id) key passes) (within key.2))

-- ---- what the changes of locks do
pub locked_more : (key : LockKey) (a : ℕ) (l : LocksAndNotes) (q : LockKey) → lock_at q l ≤ lock_at q (Locked key a l)
unfolding Locked
locked_more key a l q = (raised_between lock_keys l.locks key a q).0

pub locked_most : (key : LockKey) (a : ℕ) (l : LocksAndNotes) (q : LockKey) → lock_at q (Locked key a l) ≤ max (lock_at q l) a
unfolding Locked
locked_most key a l q = (raised_between lock_keys l.locks key a q).1

pub locked_enough : (key : LockKey) (a : ℕ) (l : LocksAndNotes) → lock_at key (Locked key a l) ≡ max (lock_at key l) a
unfolding Locked
locked_enough key a l = raised_itself lock_keys l.locks key a

pub locked_other : (key : LockKey) (a : ℕ) (l : LocksAndNotes) (q : LockKey) → q ≢ key → lock_at q (Locked key a l) ≡ lock_at q l
unfolding Locked
locked_other key a l q other = raised_other lock_keys l.locks key a q other

pub unlocked_less : (key : LockKey) (a : ℕ) (l : LocksAndNotes) (q : LockKey) → lock_at q (Unlocked key a l) ≤ lock_at q l
unfolding Unlocked
unlocked_less key a l q = let is = amount-minus lock_keys l.locks key a q in omega (arith, is)

pub unlocked_itself : (key : LockKey) (a : ℕ) (l : LocksAndNotes) → lock_at key (Unlocked key a l) ≡ lock_at key l - a
unfolding Unlocked
unlocked_itself key a l = lowered_itself lock_keys l.locks key a

pub unlocked_other : (key : LockKey) (a : ℕ) (l : LocksAndNotes) (q : LockKey) → q ≢ key → lock_at q (Unlocked key a l) ≡ lock_at q l
unfolding Unlocked
unlocked_other key a l q other = lowered_other lock_keys l.locks key a q other

-- ---- what they do to floors
pub floor-Locked : (who : List ℕ) (id unlocker : Location) (a : ℕ) (l : LocksAndNotes) → floor who id (Locked (who, id, unlocker) a l) ≡ max (floor who id l) a
floor-Locked who id unlocker a l =
    let key : LockKey = (who, id, unlocker) in
    let after = Locked key a l in
    let most : floor who id after ≤ max (floor who id l) a = floor_at_most who id after (max (floor who id l) a) (λ other.
    omega (arith, locked_most key a l (who, id, other), lock_within_floor who id other l)) in
    let old : floor who id l ≤ floor who id after = floor_at_most who id l (floor who id after) (λ other.
    omega (arith, locked_more key a l (who, id, other), lock_within_floor who id other after)) in
    let new : a ≤ floor who id after = omega (arith, locked_enough key a l, lock_within_floor who id unlocker after) in
    omega (arith, most, old, new)

floor_alike : (who : List ℕ) (id : Location) (l n : LocksAndNotes) → ((unlocker : Location) → lock_at (who, id, unlocker) l ≡ lock_at (who, id, unlocker) n) → floor who id l ≡ floor who id n
floor_alike who id l n same =
    let there : floor who id l ≤ floor who id n = floor_at_most who id l (floor who id n) (λ other. omega (arith, same other, lock_within_floor who id other n)) in
    let back : floor who id n ≤ floor who id l = floor_at_most who id n (floor who id l) (λ other. omega (arith, same other, lock_within_floor who id other l)) in
    omega (arith, there, back)

pub floor_other-Locked : (key : LockKey) (a : ℕ) (l : LocksAndNotes) (who : List ℕ) (id : Location) → ◌≢◌ {A = LockedAsset} (who, id) (asset_of key) → floor who id (Locked key a l) ≡ floor who id l
floor_other-Locked key a l who id other = floor_alike who id (Locked key a l) l (λ unlocker. locked_other key a l (who, id, unlocker) (λ e. other (ap asset_of e)))

pub floor_more-Locked : (key : LockKey) (a : ℕ) (l : LocksAndNotes) (who : List ℕ) (id : Location) → floor who id l ≤ floor who id (Locked key a l)
floor_more-Locked key a l who id = floor_at_most who id l (floor who id (Locked key a l)) (λ other. omega (arith, locked_more key a l (who, id, other), lock_within_floor who id other (Locked key a l)))

pub floor_less-Unlocked : (key : LockKey) (a : ℕ) (l : LocksAndNotes) (who : List ℕ) (id : Location) → floor who id (Unlocked key a l) ≤ floor who id l
floor_less-Unlocked key a l who id = floor_at_most who id (Unlocked key a l) (floor who id l) (λ other. omega (arith, unlocked_less key a l (who, id, other), lock_within_floor who id other l))

pub floor_other-Unlocked : (key : LockKey) (a : ℕ) (l : LocksAndNotes) (who : List ℕ) (id : Location) → ◌≢◌ {A = LockedAsset} (who, id) (asset_of key) → floor who id (Unlocked key a l) ≡ floor who id l
floor_other-Unlocked key a l who id other = floor_alike who id (Unlocked key a l) l (λ unlocker. unlocked_other key a l (who, id, unlocker) (λ e. other (ap asset_of e)))

-- the other locks still count
pub others_count : (who : List ℕ) (id unlocker other : Location) (a : ℕ) (l : LocksAndNotes) → other ≢ unlocker → lock_at (who, id, other) l ≤ floor who id (Unlocked (who, id, unlocker) a l)
others_count who id unlocker other a l differs =
    let stays = unlocked_other (who, id, unlocker) a l (who, id, other) (λ e. differs (ap (λ (k : LockKey). k.2) e)) in
    omega (arith, stays, lock_within_floor who id other (Unlocked (who, id, unlocker) a l))

-- with two unlockers the floor is the greater of the two, and one that unlocks leaves the other's
pub two_locks : (who : List ℕ) (id u v : Location) (a b : ℕ) (l : LocksAndNotes) → floor who id l ≡ 0 → u ≢ v
    → (floor who id (Locked (who, id, v) b (Locked (who, id, u) a l)) ≡ max a b) × (floor who id (Unlocked (who, id, u) a (Locked (who, id, v) b (Locked (who, id, u) a l))) ≡ b)
two_locks who id u v a b l none differs =
    let ku : LockKey = (who, id, u) in
    let kv : LockKey = (who, id, v) in
    let first = Locked ku a l in
    let both = Locked kv b first in
    let one : floor who id first ≡ max (floor who id l) a = floor-Locked who id u a l in
    let two : floor who id both ≡ max (floor who id first) b = floor-Locked who id v b first in
    let left = Unlocked ku a both in
    let apart_keys : kv ≢ ku = λ e. differs (sym (ap (λ (k : LockKey). k.2) e)) in
    let apart_back : ku ≢ kv = λ e. differs (ap (λ (k : LockKey). k.2) e) in
    let none_at : (w : Location) → lock_at (who, id, w) l ≡ 0 = λ w. omega (arith, lock_within_floor who id w l, none) in
    let v_is : lock_at kv left ≡ b = omega (arith, unlocked_other ku a both kv apart_keys, locked_enough kv b first, locked_other ku a l kv apart_keys, none_at v) in
    let u_is : lock_at ku left ≡ 0 = omega (arith, unlocked_itself ku a both, locked_other kv b first ku apart_back, locked_enough ku a l, none_at u) in
    let least : b ≤ floor who id left = omega (arith, v_is, lock_within_floor who id v left) in
    let most : floor who id left ≤ b = floor_at_most who id left b (λ w. elim (cases_Bool (eq_by_cmp location_cmp w u)) [
      | inl t ↦ (
          let same : lock_at (who, id, w) left ≡ lock_at ku left = ap (λ (x : Location). lock_at (who, id, x) left) (key_same place_keys w u t) in
          omega (arith, same, u_is))
      | inr f ↦ elim (cases_Bool (eq_by_cmp location_cmp w v)) [
        | inl t ↦ (
            let same : lock_at (who, id, w) left ≡ lock_at kv left = ap (λ (x : Location). lock_at (who, id, x) left) (key_same place_keys w v t) in
            omega (arith, same, v_is))
        | inr g ↦ (
            let not_u : ◌≢◌ {A = LockKey} (who, id, w) ku = λ e. true≢false (sym (subst (λ (x : Location). eq_by_cmp location_cmp w x ≡ true) (ap (λ (k : LockKey). k.2) e) (same_key place_keys w)) ∙ f) in
            let not_v : ◌≢◌ {A = LockKey} (who, id, w) kv = λ e. true≢false (sym (subst (λ (x : Location). eq_by_cmp location_cmp w x ≡ true) (ap (λ (k : LockKey). k.2) e) (same_key place_keys w)) ∙ g) in
            omega (arith, unlocked_other ku a both (who, id, w) not_u, locked_other kv b first (who, id, w) not_v, locked_other ku a l (who, id, w) not_u, none_at w))
      ]
    ]) in
    (omega (arith, two, one, none), omega (arith, least, most))

-- ---- notes
pub notes_stay-Locked : (key : LockKey) (a : ℕ) (l : LocksAndNotes) (q : NoteKey) → noted q (Locked key a l) ≡ noted q l
unfolding Locked
notes_stay-Locked key a l q = refl

pub notes_stay-Unlocked : (key : LockKey) (a : ℕ) (l : LocksAndNotes) (q : NoteKey) → noted q (Unlocked key a l) ≡ noted q l
unfolding Unlocked
notes_stay-Unlocked key a l q = refl

pub locks_stay-Noted : (key : NoteKey) (a : ℕ) (l : LocksAndNotes) (q : LockKey) → lock_at q (Noted key a l) ≡ lock_at q l
unfolding Noted
locks_stay-Noted key a l q = refl

pub locks_stay-Reduced : (key : NoteKey) (a : ℕ) (l : LocksAndNotes) (q : LockKey) → lock_at q (Reduced key a l) ≡ lock_at q l
unfolding Reduced
locks_stay-Reduced key a l q = refl

pub floor_stays-Noted : (key : NoteKey) (a : ℕ) (l : LocksAndNotes) (who : List ℕ) (id : Location) → floor who id (Noted key a l) ≡ floor who id l
floor_stays-Noted key a l who id = floor_alike who id (Noted key a l) l (λ unlocker. locks_stay-Noted key a l (who, id, unlocker))

pub floor_stays-Reduced : (key : NoteKey) (a : ℕ) (l : LocksAndNotes) (who : List ℕ) (id : Location) → floor who id (Reduced key a l) ≡ floor who id l
floor_stays-Reduced key a l who id = floor_alike who id (Reduced key a l) l (λ unlocker. locks_stay-Reduced key a l (who, id, unlocker))

pub noted_enough : (key : NoteKey) (a : ℕ) (l : LocksAndNotes) → noted key (Noted key a l) ≡ max (noted key l) a
unfolding Noted
noted_enough key a l = raised_itself note_keys l.notes key a

pub noted_other : (key : NoteKey) (a : ℕ) (l : LocksAndNotes) (q : NoteKey) → q ≢ key → noted q (Noted key a l) ≡ noted q l
unfolding Noted
noted_other key a l q other = raised_other note_keys l.notes key a q other

pub reduced_itself : (key : NoteKey) (a : ℕ) (l : LocksAndNotes) → noted key (Reduced key a l) ≡ noted key l - a
unfolding Reduced
reduced_itself key a l = lowered_itself note_keys l.notes key a

pub reduced_other : (key : NoteKey) (a : ℕ) (l : LocksAndNotes) (q : NoteKey) → q ≢ key → noted q (Reduced key a l) ≡ noted q l
unfolding Reduced
reduced_other key a l q other = lowered_other note_keys l.notes key a q other

-- ---- set and lowered again
pub undone : (key : LockKey) (a : ℕ) (l : LocksAndNotes) → lock_at key l ≡ 0 → Unlocked key a (Locked key a l) ≡ l
unfolding Locked Unlocked
undone key a l none = λ i. record l { locks = raised_and_lowered lock_keys l.locks key a none i }

pub note_undone : (key : NoteKey) (a : ℕ) (l : LocksAndNotes) → noted key l ≡ 0 → Reduced key a (Noted key a l) ≡ l
unfolding Noted Reduced
note_undone key a l none = λ i. record l { notes = raised_and_lowered note_keys l.notes key a none i }
