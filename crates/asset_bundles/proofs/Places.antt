-- Traps by their positions: one more after the others, the last ones dropped, and one taken out.
use Rattle.std.proofs.Common.{◌≡◌, ℕ, zero, suc, ◌+◌, ◌<◌, ◌≤◌, ◌↔◌, Bool, true, false, cond, List, [], ◌∷◌, ◌++◌, BTreeMap, length, take, Option, Some, None, IfSome, refl, sym, ap, ◌∙◌, subst, arith, true≢false, length-append}
use Rattle.std.specs.Prelude.{IsTrue, IsSome, IfNone}
use Rattle.std.specs.declared.cmp.Ordering.TheVariants.{Less, Greater}
use Rattle.std.specs.Ordering.{nat_cmp, is_lt, eq_by_cmp, match_ordering}
use Rattle.std.specs.Cmp.{ranked, nat_cmp_is}
use Rattle.std.specs.List.{AllByRecursion}
use Rattle.std.specs.List.Sorted.{IsStrictlySortedBy}
use Rattle.std.specs.Map.{keys_of, values_of, remove_entry}
use Rattle.std.specs.BTreeMap.{insert_entry, Updates, IsUnchanged}
use Rattle.std.proofs.lemmas.List.{map-append}
use Rattle.std.proofs.lemmas.Map.Keys.{ge_from_not_lt}
use Rattle.amounts.proofs.Lemmas.Keys.{number_keys, pair_keys}
use Rattle.amounts.proofs.Lemmas.Rows.{IsKeyOrder}
use Rattle.amounts.proofs.Lemmas.{same_key, key_same}
use Rattle.locations.specs.declared.relative.Location.{Location}
use Rattle.asset_lists.specs.declared.units.Asset.{Asset}
use Rattle.asset_bundles.specs.declared.trap.Trap.{Trap}
use Rattle.asset_bundles.specs.Traps.{Fits, NoneFits}
use Rattle.asset_bundles.specs.Digest.{digest_of}
use Rattle.asset_bundles.specs.Oldest.{TrapRow, trap_at, DigestPlace, digest_place_cmp, is_listed, ArePlaced, NoneAt, FitsAt, IsOldest, IsTaken}

pub digest_places : IsKeyOrder digest_place_cmp
digest_places = pair_keys number_keys number_keys

pub less_than : (n m : ℕ) → nat_cmp n m ≡ Less → n < m
less_than n m e = ranked n m Less (sym e)

greater : (n m : ℕ) → m < n → nat_cmp n m ≡ Greater
greater n m h = sym (nat_cmp_is n m Greater h)

-- ---- facts of each element
pub all_map : {X : Type 0} {P Q : X → Type 0} → ((x : X) → P x → Q x) → (xs : List X) → AllByRecursion P xs → AllByRecursion Q xs
all_map f [] all = tt
all_map f (x ∷ xs) all = (f x all.0, all_map f xs all.1)

all_both : {X : Type 0} {P Q R : X → Type 0} → ((x : X) → P x → Q x → R x) → (xs : List X) → AllByRecursion P xs → AllByRecursion Q xs → AllByRecursion R xs
all_both f [] all more = tt
all_both f (x ∷ xs) all more = (f x all.0 more.0, all_both f xs all.1 more.1)

all_front : {X : Type 0} (P : X → Type 0) (xs ys : List X) → AllByRecursion P (xs ++ ys) → AllByRecursion P xs
all_front P [] ys all = tt
all_front P (x ∷ xs) ys all = (all.0, all_front P xs ys all.1)

all_keys : (P : ℕ → Type 0) (rows : List TrapRow) → AllByRecursion P (keys_of rows) → AllByRecursion (λ (r : TrapRow). P r.0) rows
all_keys P [] all = tt
all_keys P (r ∷ rows) all = (all.0, all_keys P rows all.1)

all_values : (P : Trap → Type 0) (rows : List TrapRow) → AllByRecursion (λ (r : TrapRow). P r.1) rows → AllByRecursion P (values_of rows)
all_values P [] all = tt
all_values P (r ∷ rows) all = (all.0, all_values P rows all.1)

-- ---- a position after all
pub below_place : (rows : List TrapRow) (last place : ℕ) → place ≡ last + 1 → AllByRecursion (λ q. is_lt (nat_cmp last q) ≡ false) (keys_of rows) → AllByRecursion (λ (r : TrapRow). r.0 < place) rows
below_place rows last place next all =
    all_keys (λ q. q < place) rows (all_map (λ q not_above. (let le = ge_from_not_lt last q not_above in omega (arith, le, next))) (keys_of rows) all)

inserted_behind : (rows : List TrapRow) (place : ℕ) (t : Trap) → AllByRecursion (λ (r : TrapRow). r.0 < place) rows → insert_entry nat_cmp rows place t ≡ rows ++ (place, t) ∷ []
inserted_behind [] place t below = refl
inserted_behind (r ∷ rows) place t below =
    ap (λ o. match_ordering o ((place, t) ∷ r ∷ rows) ((r.0, t) ∷ rows) (r ∷ insert_entry nat_cmp rows place t)) (greater place r.0 below.0)
    ∙ ap (λ rs. r ∷ rs) (inserted_behind rows place t below.1)

pub pushed_rows : (rows new : List TrapRow) (place : ℕ) (t : Trap) → AllByRecursion (λ (r : TrapRow). r.0 < place) rows → new ≡ insert_entry nat_cmp rows place t → new ≡ rows ++ (place, t) ∷ []
pushed_rows rows new place t below is = is ∙ inserted_behind rows place t below

-- ---- more positions listed
pub listed_kept : (index more : List DigestPlace) (k : DigestPlace) → ((q : DigestPlace) → is_listed more q ≡ cond (eq_by_cmp digest_place_cmp k q) true (is_listed index q))
    → (q : DigestPlace) → is_listed index q ≡ true → is_listed more q ≡ true
listed_kept index more k updates q there =
    updates q ∙ elim (eq_by_cmp digest_place_cmp k q) as (λ b. cond b true (is_listed index q) ≡ true) [ true ↦ refl | false ↦ there ]

pub placed_listed : (rows : List TrapRow) (index more : List DigestPlace) → ((q : DigestPlace) → is_listed index q ≡ true → is_listed more q ≡ true) → ArePlaced rows index → ArePlaced rows more
placed_listed rows index more kept placed = record { rising = placed.rising; listed = λ p t at. kept (digest_of t, p) (placed.listed p t at) }

pub placed_pushed : (rows new : List TrapRow) (index : List DigestPlace) (place : ℕ) (t : Trap) → IsStrictlySortedBy nat_cmp (keys_of new)
    → ((p : ℕ) → trap_at new p ≡ cond (eq_by_cmp nat_cmp place p) (Some t) (trap_at rows p)) → is_listed index (digest_of t, place) ≡ true → ArePlaced rows index → ArePlaced new index
placed_pushed rows new index place t rising updates here placed = record {
  rising = rising;
  listed = λ p u at. by p u (eq_by_cmp nat_cmp place p) refl (sym (updates p) ∙ at);
}
  where
    by : (p : ℕ) (u : Trap) (b : Bool) → eq_by_cmp nat_cmp place p ≡ b → cond b (Some t) (trap_at rows p) ≡ Some u → is_listed index (digest_of u, p) ≡ true
    by p u true same at = let one : t ≡ u = cc in subst (λ (k : DigestPlace). is_listed index k ≡ true) (λ i. (digest_of (one i), key_same number_keys place p same i)) here
    by p u false other at = placed.listed p u at

-- ---- fewer traps
pub placed_fewer : (rows new : List TrapRow) (index : List DigestPlace) → IsStrictlySortedBy nat_cmp (keys_of new) → ((p : ℕ) (t : Trap) → trap_at new p ≡ Some t → trap_at rows p ≡ Some t)
    → ArePlaced rows index → ArePlaced new index
placed_fewer rows new index rising part placed = record { rising = rising; listed = λ p t at. placed.listed p t (part p t at) }

-- what is there after a position was taken out was there before, and elsewhere
other_place : (rows new : List TrapRow) (place : ℕ) → ((p : ℕ) → trap_at new p ≡ cond (eq_by_cmp nat_cmp place p) None (trap_at rows p))
    → (p : ℕ) (t : Trap) → trap_at new p ≡ Some t → (eq_by_cmp nat_cmp place p ≡ false) × (trap_at rows p ≡ Some t)
other_place rows new place updates p t at = by (eq_by_cmp nat_cmp place p) refl (sym (updates p) ∙ at)
  where
    by : (b : Bool) → eq_by_cmp nat_cmp place p ≡ b → cond b None (trap_at rows p) ≡ Some t → (eq_by_cmp nat_cmp place p ≡ false) × (trap_at rows p ≡ Some t)
    by true same at = absurd (cc)
    by false other at = (other, at)

pub part_popped : (rows new : BTreeMap ℕ Trap) (r : Option TrapRow) → IfSome r (λ (row : TrapRow). Updates nat_cmp rows new row.0 None) → IfNone r (IsUnchanged rows new)
    → (p : ℕ) (t : Trap) → trap_at new.entries p ≡ Some t → trap_at rows.entries p ≡ Some t
part_popped rows new None some none p t at = ap (λ rs. trap_at rs p) (sym none) ∙ at
part_popped rows new (Some row) some none p t at = (other_place rows.entries new.entries row.0 some.0 p t at).1

front_of : {X : Type 0} (xs ys : List X) → take (length xs) (xs ++ ys) ≡ xs
front_of [] ys = refl
front_of (x ∷ xs) ys = ap (λ zs. x ∷ zs) (front_of xs ys)

pub cut_behind : (rows more : List TrapRow) → take (length rows) (rows ++ more) ≡ rows
cut_behind rows more = front_of rows more

front_take : {X : Type 0} (m n : ℕ) (xs : List X) → m ≤ n → take m (take n xs) ≡ take m xs
front_take zero n xs h = refl
front_take (suc m) zero xs h = absurd (omega (arith, h))
front_take (suc m) (suc n) [] h = refl
front_take (suc m) (suc n) (x ∷ xs) h = ap (λ ys. x ∷ ys) (front_take m n xs (omega (arith, h)))

long_take : {X : Type 0} (n : ℕ) (xs : List X) → n ≤ length xs → length (take n xs) ≡ n
long_take zero xs h = refl
long_take (suc n) [] h = absurd (omega (arith, h))
long_take (suc n) (x ∷ xs) h = ap (λ k. suc k) (long_take n xs (omega (arith, h)))

-- one less of the first so many
pub one_fewer : (old rows new : List TrapRow) (m n : ℕ) (r : Option TrapRow) → m ≡ n + 1 → m ≤ length old → rows ≡ take m old → (IsSome r ↔ (0 < length rows))
    → IfSome r (λ p. rows ≡ new ++ p ∷ []) → new ≡ take n old
one_fewer old rows new m n None more within so_far variant popped =
    let long : length rows ≡ m = ap length so_far ∙ long_take m old within in
    absurd (true≢false (sym (variant.1 (omega (arith, more, long)))))
one_fewer old rows new m n (Some p) more within so_far variant popped =
    let long : length rows ≡ m = ap length so_far ∙ long_take m old within in
    let one : length rows ≡ length new + 1 = ap length popped ∙ length-append new (p ∷ []) in
    let left : length new ≡ n = omega (arith, more, long, one) in
    sym (front_of new (p ∷ [])) ∙ ap (take (length new)) (sym popped ∙ so_far) ∙ front_take (length new) m old (omega (arith, long, one)) ∙ ap (λ k. take k old) left

-- ---- each trap is found at its position
keys_found : (P : ℕ → Type 0) (rows : List TrapRow) (place : ℕ) (t : Trap) → trap_at rows place ≡ Some t → AllByRecursion P (keys_of rows) → P place
keys_found P [] place t at all = absurd (cc)
keys_found P (r ∷ rows) place t at all = by (λ there. keys_found P rows place t there all.1) (eq_by_cmp nat_cmp place r.0) refl at
  where
    by : (trap_at rows place ≡ Some t → P place) → (b : Bool) → eq_by_cmp nat_cmp place r.0 ≡ b → cond b (Some r.1) (trap_at rows place) ≡ Some t → P place
    by further true same there = subst P (sym (key_same number_keys place r.0 same)) all.0
    by further false other there = further there

past_first : (r : TrapRow) (rows : List TrapRow) (q : TrapRow) → nat_cmp r.0 q.0 ≡ Less → trap_at rows q.0 ≡ Some q.1 → trap_at (r ∷ rows) q.0 ≡ Some q.1
past_first r rows q less at =
    let lt = less_than r.0 q.0 less in
    let other : nat_cmp q.0 r.0 ≡ Greater = greater q.0 r.0 lt in
    ap (λ o. cond (eq_by_cmp (λ _ _. o) q.0 r.0) (Some r.1) (trap_at rows q.0)) other ∙ at

pub all_found : (rows : List TrapRow) → IsStrictlySortedBy nat_cmp (keys_of rows) → AllByRecursion (λ (q : TrapRow). trap_at rows q.0 ≡ Some q.1) rows
unfolding IsStrictlySortedBy
all_found [] rising = tt
all_found (r ∷ rows) rising = (
  ap (λ b. cond b (Some r.1) (trap_at rows r.0)) (same_key number_keys r.0),
  all_both (λ q less at. past_first r rows q less at) rows (all_keys (λ k. nat_cmp r.0 k ≡ Less) rows rising.0) (all_found rows rising.1),
)

-- ---- a trap, and those before and after it
record Opened (rows : List TrapRow) (place : ℕ) (t : Trap) : Type 0 where
  front : List TrapRow
  back : List TrapRow
  whole : rows ≡ front ++ (place, t) ∷ back
  left : remove_entry (eq_by_cmp nat_cmp place) rows ≡ front ++ back
  below : AllByRecursion (λ (r : TrapRow). r.0 < place) front

opened : (rows : List TrapRow) (place : ℕ) (t : Trap) → IsStrictlySortedBy nat_cmp (keys_of rows) → trap_at rows place ≡ Some t → Opened rows place t
unfolding IsStrictlySortedBy
opened [] place t rising at = absurd (cc)
opened (r ∷ rows) place t rising at = by (λ there. opened rows place t rising.1 there) (eq_by_cmp nat_cmp place r.0) refl at
  where
    by : (trap_at rows place ≡ Some t → Opened rows place t) → (b : Bool) → eq_by_cmp nat_cmp place r.0 ≡ b → cond b (Some r.1) (trap_at rows place) ≡ Some t → Opened (r ∷ rows) place t
    by further true same here = let one : r.1 ≡ t = cc in record {
      front = [];
      back = rows;
      whole = λ i. (sym (key_same number_keys place r.0 same) i, one i) ∷ rows;
      left = ap (λ b. cond b rows (r ∷ remove_entry (eq_by_cmp nat_cmp place) rows)) same;
      below = tt;
    }
    by further false other there = let rest = further there in record {
      front = r ∷ rest.front;
      back = rest.back;
      whole = ap (λ rs. r ∷ rs) rest.whole;
      left = ap (λ b. cond b rows (r ∷ remove_entry (eq_by_cmp nat_cmp place) rows)) other ∙ ap (λ rs. r ∷ rs) rest.left;
      below = (less_than r.0 place (keys_found (λ k. nat_cmp r.0 k ≡ Less) rows place t there rising.0), rest.below);
    }

pub is_taken : (list : List Asset) (origin : Location) (rows new : List TrapRow) (place : ℕ) (oldest : IsOldest list origin rows place) → IsStrictlySortedBy nat_cmp (keys_of rows)
    → new ≡ remove_entry (eq_by_cmp nat_cmp place) rows → IsTaken list origin (values_of rows) oldest.at.trap (values_of new)
is_taken list origin rows new place oldest rising left =
    let parts = opened rows place oldest.at.trap rising oldest.at.here in
    let found = all_front (λ (q : TrapRow). trap_at rows q.0 ≡ Some q.1) parts.front ((place, oldest.at.trap) ∷ parts.back) (subst (AllByRecursion (λ (q : TrapRow). trap_at rows q.0 ≡ Some q.1)) parts.whole (all_found rows rising)) in
    record {
      front = values_of parts.front;
      back = values_of parts.back;
      before = ap values_of parts.whole ∙ map-append (λ (r : TrapRow). r.1) parts.front ((place, oldest.at.trap) ∷ parts.back);
      fits = oldest.at.fits;
      oldest = all_values (λ t. Fits list origin t → ⊥) parts.front (all_both (λ q less at. oldest.oldest q.0 q.1 less at) parts.front parts.below found);
      after = ap values_of (left ∙ parts.left) ∙ map-append (λ (r : TrapRow). r.1) parts.front parts.back;
    }

pub none_fits : (list : List Asset) (origin : Location) (rows : List TrapRow) → IsStrictlySortedBy nat_cmp (keys_of rows) → NoneAt list origin rows → NoneFits list origin (values_of rows)
none_fits list origin rows rising none = all_values (λ t. Fits list origin t → ⊥) rows (all_map (λ q at. none q.0 q.1 at) rows (all_found rows rising))

-- the positions that are left stay listed where only the one that was taken out no longer is
pub placed_taken : (rows new : List TrapRow) (index less : List DigestPlace) (k : DigestPlace) → IsStrictlySortedBy nat_cmp (keys_of new)
    → ((p : ℕ) → trap_at new p ≡ cond (eq_by_cmp nat_cmp k.1 p) None (trap_at rows p))
    → ((q : DigestPlace) → is_listed less q ≡ cond (eq_by_cmp digest_place_cmp k q) false (is_listed index q)) → ArePlaced rows index → ArePlaced new less
placed_taken rows new index less k rising updates dropped placed = record {
  rising = rising;
  listed = λ p t at. (let was = other_place rows new k.1 updates p t at in by p t was.0 (placed.listed p t was.1) (eq_by_cmp digest_place_cmp k (digest_of t, p)) refl);
}
  where
    by : (p : ℕ) (t : Trap) → eq_by_cmp nat_cmp k.1 p ≡ false → is_listed index (digest_of t, p) ≡ true → (b : Bool) → eq_by_cmp digest_place_cmp k (digest_of t, p) ≡ b → is_listed less (digest_of t, p) ≡ true
    by p t other there true same =
        let one : k.1 ≡ p = ap (λ (q : DigestPlace). q.1) (key_same digest_places k (digest_of t, p) same) in
        absurd (true≢false (sym (subst (λ q. eq_by_cmp nat_cmp k.1 q ≡ true) one (same_key number_keys k.1)) ∙ other))
    by p t other there false apart = dropped (digest_of t, p) ∙ ap (λ b. cond b false (is_listed index (digest_of t, p))) apart ∙ there

-- ---- a trap that is tested at its position
pub fits_here : (list : List Asset) (origin : Location) (rows : List TrapRow) (place : ℕ) (t : Trap) (test : Bool) → Some t ≡ trap_at rows place → (IsTrue test ↔ Fits list origin t)
    → IsTrue test ↔ FitsAt list origin rows place
fits_here list origin rows place t test here says = (
  λ passed. record { trap = t; here = sym here; fits = says.0 passed },
  λ at. says.1 (let one : Some at.trap ≡ Some t = sym at.here ∙ sym here in let same : at.trap ≡ t = cc in subst (Fits list origin) same at.fits),
)
