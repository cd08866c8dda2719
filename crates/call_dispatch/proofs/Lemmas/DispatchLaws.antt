-- What holds of every dispatch: whatever each accepted move keeps.
use Rattle.std.proofs.Common.{◌≡◌, ◌≢◌, ℕ, ◌≤◌, ◌==◌, Bool, false, List, [], ◌∷◌, ◌++◌, Option, Some, None, refl, sym, ◌∙◌, subst, arith}
use Rattle.std.specs.Prelude.{⊤}
use Rattle.std.specs.List.{AllByRecursion, list_any}
use Rattle.std.proofs.lemmas.Bool.{eqb-false}
use Rattle.amounts.specs.Amounts.{amount, total}
use Rattle.call_dispatch.specs.declared.call.Call.{Call}
use Rattle.call_dispatch.specs.declared.call.Call.TheVariants.{Remark, Transfer, Fail, Batch}
use Rattle.call_dispatch.specs.declared.end.CallEnd.TheVariants.{Success, Error}
use Rattle.call_dispatch.specs.declared.faults.ShiftFault.{ShiftFault}
use Rattle.call_dispatch.specs.Spelling.{Item, AnyCall}
use Rattle.call_dispatch.specs.Shifts.{AccountRow, RowAmounts, Floors, shift_fault, shifted, IsNumberAt, AreKept}
use Rattle.call_dispatch.specs.Dispatches.{Done, moved_unless, dispatch_item, next_or, dispatch_items, dispatch, items_of, IsInterrupted, sum_of_row, item_names, names_row}
use Rattle.call_dispatch.proofs.Lemmas.ShiftLaws.{IsAccepted, accepted, enough_held, total-shifted, total_grows, others_keep, rows_keep, floor_keeps, numbers_stay}
use Rattle.plain_lists.proofs.Lemmas.Facts.{neither_true as or_parts}

-- a fact of the row that an item names
abbrev pub OfRow : {B : Type 0} → (ℕ → Type 0) → (B → Type 0) → Call B → Type 0
OfRow P OfBatch (Remark bytes) = ⊤
OfRow P OfBatch (Transfer row dest n) = P row
OfRow P OfBatch (Fail code) = ⊤
OfRow P OfBatch (Batch items) = OfBatch items

abbrev pub OfItem : (ℕ → Type 0) → Item → Type 0
OfItem P = OfRow P (λ none. ⊤)

abbrev pub OfCall : (ℕ → Type 0) → AnyCall → Type 0
OfCall P = OfRow P (λ items. AllByRecursion (OfItem P) items)

abbrev IsAny : ℕ → Type 0
IsAny row = ⊤

any_items : (items : List Item) → AllByRecursion (OfItem IsAny) items
any_items [] = tt
any_items (Remark bytes ∷ items) = (tt, any_items items)
any_items (Transfer row dest n ∷ items) = (tt, any_items items)
any_items (Fail code ∷ items) = (tt, any_items items)
any_items (Batch none ∷ items) = (tt, any_items items)

any_call : (c : AnyCall) → OfCall IsAny c
any_call (Remark bytes) = tt
any_call (Transfer row dest n) = tt
any_call (Fail code) = tt
any_call (Batch items) = any_items items

module _ (floors : Floors) (rows who : List ℕ) where
  -- a relation that each accepted move of such a row keeps
  pub record IsKept (P : ℕ → Type 0) (Q : RowAmounts → RowAmounts → Type 0) : Type 0 where
    pub same : (m : RowAmounts) → Q m m
    pub chained : (a b c : RowAmounts) → Q a b → Q b c → Q a c
    pub moved : (m : RowAmounts) (row : ℕ) (dest : List ℕ) (n : ℕ) → P row → IsAccepted m floors rows row who dest n → Q m (shifted m row who dest n)

  module _ (P : ℕ → Type 0) (Q : RowAmounts → RowAmounts → Type 0) (keeps : IsKept P Q) where
    move_keeps : (m : RowAmounts) (row : ℕ) (dest : List ℕ) (n : ℕ) → P row → (fault : Option ShiftFault) → shift_fault m floors rows row who dest n ≡ fault → Q m (moved_unless fault (shifted m row who dest n) m).0
    move_keeps m row dest n p None e = keeps.moved m row dest n p (accepted m floors rows row who dest n e)
    move_keeps m row dest n p (Some fault) e = keeps.same m

    item_keeps : (m : RowAmounts) (i : Item) → OfItem P i → Q m (dispatch_item m floors rows who i).0
    unfolding dispatch_item
    item_keeps m (Remark bytes) p = keeps.same m
    item_keeps m (Transfer row dest n) p = move_keeps m row dest n p (shift_fault m floors rows row who dest n) refl
    item_keeps m (Fail code) p = keeps.same m
    item_keeps m (Batch none) p = keeps.same m

    after_item : (first m : RowAmounts) (next : RowAmounts → Done) → Q first m → ((now : RowAmounts) → Q first now → Q first (next now).0) → (done : Done) → Q m done.0 → Q first (next_or first done next).0
    after_item first m next so_far rest (now, Success) moved = rest now (keeps.chained first m now so_far moved)
    after_item first m next so_far rest (now, Error code) moved = keeps.same first

    items_keep : (first m : RowAmounts) → Q first m → (items : List Item) → AllByRecursion (OfItem P) items → Q first (dispatch_items first m floors rows who items).0
    unfolding dispatch_items
    items_keep first m so_far [] all = so_far
    items_keep first m so_far (i ∷ items) all =
        after_item first m (λ now. dispatch_items first now floors rows who items) so_far (λ now kept. items_keep first now kept items all.1) (dispatch_item m floors rows who i) (item_keeps m i all.0)

    pub dispatch_keeps : (m : RowAmounts) (c : AnyCall) → OfCall P c → Q m (dispatch m floors rows who c).0
    unfolding dispatch
    dispatch_keeps m (Remark bytes) p = keeps.same m
    dispatch_keeps m (Transfer row dest n) p = move_keeps m row dest n p (shift_fault m floors rows row who dest n) refl
    dispatch_keeps m (Fail code) p = keeps.same m
    dispatch_keeps m (Batch items) p = items_keep m m (keeps.same m) items p

    all_in_front : (front back : List Item) → AllByRecursion (OfItem P) (front ++ back) → AllByRecursion (OfItem P) front
    all_in_front [] back all = tt
    all_in_front (i ∷ front) back all = (all.0, all_in_front front back all.1)

    of_items : (c : AnyCall) → OfCall P c → AllByRecursion (OfItem P) (items_of c)
    of_items (Remark bytes) p = tt
    of_items (Transfer row dest n) p = tt
    of_items (Fail code) p = tt
    of_items (Batch items) p = p

    -- the state where memory was refused is what a prefix of the batch leaves
    pub interrupted_keeps : (m : RowAmounts) (c : AnyCall) (now : RowAmounts) → OfCall P c → IsInterrupted m floors rows who c now → Q m now
    interrupted_keeps m c now p h =
        let all = all_in_front h.front h.back (subst (AllByRecursion (OfItem P)) h.all (of_items c p)) in
        subst (λ (done : Done). Q m done.0) h.done (items_keep m m (keeps.same m) h.front all)

  -- ---- the relations

  -- sums over accounts, by any test that asks for no account
  sums_kept : (p : AccountRow → Bool) → ((a b : List ℕ) (row : ℕ) → p (a, row) ≡ p (b, row)) → IsKept IsAny (λ m now. total p now ≡ total p m)
  sums_kept p alike = record {
    same = λ m. refl;
    chained = λ a b c h k. k ∙ h;
    moved = λ m row dest n _ h. total-shifted m row who dest n p (alike who dest row) (enough_held m floors rows row who dest n h);
  }

  -- sums without the caller
  givers_kept : (p : AccountRow → Bool) → ((row : ℕ) → p (who, row) ≡ false) → IsKept IsAny (λ m now. total p m ≤ total p now)
  givers_kept p without = record {
    same = λ m. omega arith;
    chained = λ a b c h k. omega (arith, h, k);
    moved = λ m row dest n _ h. total_grows m row who dest n p (without row) (enough_held m floors rows row who dest n h);
  }

  -- another account
  others_kept : (q : AccountRow) → q.0 ≢ who → IsKept IsAny (λ m now. amount m q ≤ amount now q)
  others_kept q other = record {
    same = λ m. omega arith;
    chained = λ a b c h k. omega (arith, h, k);
    moved = λ m row dest n _ h. others_keep m row who dest n q other;
  }

  -- another row
  unnamed_kept : (q : AccountRow) → IsKept (λ row. q.1 ≢ row) (λ m now. amount now q ≡ amount m q)
  unnamed_kept q = record {
    same = λ m. refl;
    chained = λ a b c h k. k ∙ h;
    moved = λ m row dest n other h. rows_keep m row who dest n q other;
  }

  floor_kept : (q : AccountRow) → IsKept IsAny (λ m now. floors q ≤ amount m q → floors q ≤ amount now q)
  floor_kept q = record {
    same = λ m low. low;
    chained = λ a b c h k low. k (h low);
    moved = λ m row dest n _ h low. floor_keeps m row who dest n floors h.enough q low;
  }

  numbers_kept : IsKept IsAny (λ m now. ((k : AccountRow) → IsNumberAt m k) → (k : AccountRow) → IsNumberAt now k)
  numbers_kept = record {
    same = λ m all. all;
    chained = λ a b c h k all. k (h all);
    moved = λ m row dest n _ h. numbers_stay m row who dest n h.room (enough_held m floors rows row who dest n h);
  }

  -- ---- an answer that is an error leaves the map as it was
  move_fails : (before after : RowAmounts) (fault : Option ShiftFault) (code : ℕ) → (moved_unless fault after before).1 ≡ Error code → (moved_unless fault after before).0 ≡ before
  move_fails before after None code e = absurd cc
  move_fails before after (Some fault) code e = refl

  next_fails : (first : RowAmounts) (done : Done) (next : RowAmounts → Done) (code : ℕ) → ((now : RowAmounts) → (next now).1 ≡ Error code → (next now).0 ≡ first)
      → (next_or first done next).1 ≡ Error code → (next_or first done next).0 ≡ first
  next_fails first (now, Success) next code rest e = rest now e
  next_fails first (now, Error other) next code rest e = refl

  pub items_fail : (first m : RowAmounts) (items : List Item) (code : ℕ) → (dispatch_items first m floors rows who items).1 ≡ Error code → (dispatch_items first m floors rows who items).0 ≡ first
  unfolding dispatch_items
  items_fail first m [] code e = absurd cc
  items_fail first m (i ∷ items) code e = next_fails first (dispatch_item m floors rows who i) (λ now. dispatch_items first now floors rows who items) code (λ now. items_fail first now items code) e

  pub item_fails : (m : RowAmounts) (i : Item) (code : ℕ) → (dispatch_item m floors rows who i).1 ≡ Error code → (dispatch_item m floors rows who i).0 ≡ m
  unfolding dispatch_item
  item_fails m (Remark bytes) code e = refl
  item_fails m (Transfer row dest n) code e = move_fails m (shifted m row who dest n) (shift_fault m floors rows row who dest n) code e
  item_fails m (Fail other) code e = refl
  item_fails m (Batch none) code e = refl

  pub error_stays : (m : RowAmounts) (c : AnyCall) (code : ℕ) → (dispatch m floors rows who c).1 ≡ Error code → (dispatch m floors rows who c).0 ≡ m
  unfolding dispatch
  error_stays m (Remark bytes) code e = refl
  error_stays m (Transfer row dest n) code e = move_fails m (shifted m row who dest n) (shift_fault m floors rows row who dest n) code e
  error_stays m (Fail other) code e = refl
  error_stays m (Batch items) code e = items_fail m m items code e

-- ---- the rows that a call doesn't name
not_named : (row other : ℕ) → (row == other) ≡ false → other ≢ row
not_named row other e = λ same. eqb-false row other e (sym same)

unnamed_item : (i : Item) (other : ℕ) → item_names i other ≡ false → OfItem (λ row. other ≢ row) i
unnamed_item (Remark bytes) other e = tt
unnamed_item (Transfer row dest n) other e = not_named row other e
unnamed_item (Fail code) other e = tt
unnamed_item (Batch none) other e = tt

unnamed_items : (items : List Item) (other : ℕ) → list_any (λ (i : Item). item_names i other) items ≡ false → AllByRecursion (OfItem (λ row. other ≢ row)) items
unnamed_items [] other e = tt
unnamed_items (i ∷ items) other e = let parts = or_parts (item_names i other) (list_any (λ (i : Item). item_names i other) items) e in (unnamed_item i other parts.0, unnamed_items items other parts.1)

unnamed_call : (c : AnyCall) (other : ℕ) → names_row c other ≡ false → OfCall (λ row. other ≢ row) c
unnamed_call (Remark bytes) other e = tt
unnamed_call (Transfer row dest n) other e = not_named row other e
unnamed_call (Fail code) other e = tt
unnamed_call (Batch items) other e = unnamed_items items other e

-- ---- the laws, of a dispatch and of the state where memory was refused
module _ (m : RowAmounts) (floors : Floors) (rows who : List ℕ) (c : AnyCall) where
  -- by any test that asks for no account
  pub total-dispatch : (p : AccountRow → Bool) → ((a b : List ℕ) (row : ℕ) → p (a, row) ≡ p (b, row)) → total p (dispatch m floors rows who c).0 ≡ total p m
  total-dispatch p alike = dispatch_keeps floors rows who IsAny (λ a b. total p b ≡ total p a) (sums_kept floors rows who p alike) m c (any_call c)

  -- by any test that the caller doesn't pass
  pub total_others : (p : AccountRow → Bool) → ((row : ℕ) → p (who, row) ≡ false) → total p m ≤ total p (dispatch m floors rows who c).0
  total_others p without = dispatch_keeps floors rows who IsAny (λ a b. total p a ≤ total p b) (givers_kept floors rows who p without) m c (any_call c)

  pub sums_stay : (row : ℕ) → sum_of_row (dispatch m floors rows who c).0 row ≡ sum_of_row m row
  sums_stay row = total-dispatch (λ k. k.1 == row) (λ a b r. refl)

  pub others_stay : (q : AccountRow) → q.0 ≢ who → amount m q ≤ amount (dispatch m floors rows who c).0 q
  others_stay q other = dispatch_keeps floors rows who IsAny (λ a b. amount a q ≤ amount b q) (others_kept floors rows who q other) m c (any_call c)

  pub floor_stays : (q : AccountRow) → floors q ≤ amount m q → floors q ≤ amount (dispatch m floors rows who c).0 q
  floor_stays q = dispatch_keeps floors rows who IsAny (λ a b. floors q ≤ amount a q → floors q ≤ amount b q) (floor_kept floors rows who q) m c (any_call c)

  pub floors_stay : AreKept m floors → AreKept (dispatch m floors rows who c).0 floors
  floors_stay kept q = floor_stays q (kept q)

  pub numbers_stay_so : ((k : AccountRow) → IsNumberAt m k) → (k : AccountRow) → IsNumberAt (dispatch m floors rows who c).0 k
  numbers_stay_so = dispatch_keeps floors rows who IsAny (λ a b. ((k : AccountRow) → IsNumberAt a k) → (k : AccountRow) → IsNumberAt b k) (numbers_kept floors rows who) m c (any_call c)

  pub unnamed_stay : (q : AccountRow) → names_row c q.1 ≡ false → amount (dispatch m floors rows who c).0 q ≡ amount m q
  unnamed_stay q e = dispatch_keeps floors rows who (λ row. q.1 ≢ row) (λ a b. amount b q ≡ amount a q) (unnamed_kept floors rows who q) m c (unnamed_call c q.1 e)

  module _ (now : RowAmounts) (h : IsInterrupted m floors rows who c now) where
    pub total_interrupted : (p : AccountRow → Bool) → ((a b : List ℕ) (row : ℕ) → p (a, row) ≡ p (b, row)) → total p now ≡ total p m
    total_interrupted p alike = interrupted_keeps floors rows who IsAny (λ a b. total p b ≡ total p a) (sums_kept floors rows who p alike) m c now (any_call c) h

    pub total_others_interrupted : (p : AccountRow → Bool) → ((row : ℕ) → p (who, row) ≡ false) → total p m ≤ total p now
    total_others_interrupted p without = interrupted_keeps floors rows who IsAny (λ a b. total p a ≤ total p b) (givers_kept floors rows who p without) m c now (any_call c) h

    pub interrupted_sums : (row : ℕ) → sum_of_row now row ≡ sum_of_row m row
    interrupted_sums row = total_interrupted (λ k. k.1 == row) (λ a b r. refl)

    pub interrupted_others : (q : AccountRow) → q.0 ≢ who → amount m q ≤ amount now q
    interrupted_others q other = interrupted_keeps floors rows who IsAny (λ a b. amount a q ≤ amount b q) (others_kept floors rows who q other) m c now (any_call c) h

    pub interrupted_floors : AreKept m floors → AreKept now floors
    interrupted_floors kept q = interrupted_keeps floors rows who IsAny (λ a b. floors q ≤ amount a q → floors q ≤ amount b q) (floor_kept floors rows who q) m c now (any_call c) h (kept q)

    pub interrupted_numbers : ((k : AccountRow) → IsNumberAt m k) → (k : AccountRow) → IsNumberAt now k
    interrupted_numbers = interrupted_keeps floors rows who IsAny (λ a b. ((k : AccountRow) → IsNumberAt a k) → (k : AccountRow) → IsNumberAt b k) (numbers_kept floors rows who) m c now (any_call c) h

    pub interrupted_unnamed : (q : AccountRow) → names_row c q.1 ≡ false → amount now q ≡ amount m q
    interrupted_unnamed q e = interrupted_keeps floors rows who (λ row. q.1 ≢ row) (λ a b. amount b q ≡ amount a q) (unnamed_kept floors rows who q) m c now (unnamed_call c q.1 e) h
