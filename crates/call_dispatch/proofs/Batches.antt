-- A batch from its first call on: what it did, that it can be moved back, and what the state is where memory was refused.
use Rattle.std.proofs.Common.{◌≡◌, ℕ, List, [], ◌∷◌, length, Option, Some, None, Result, Ok, Err, refl, sym, ap, ◌∙◌, subst, arith}
use Rattle.std.specs.Prelude.{OnErr}
use Rattle.call_dispatch.specs.declared.call.Call.TheVariants.{Remark, Transfer, Fail, Batch}
use Rattle.call_dispatch.specs.declared.end.CallEnd.TheVariants.{Success, Error}
use Rattle.call_dispatch.specs.declared.faults.ShiftFault.{ShiftFault}
use Rattle.call_dispatch.specs.Spelling.{Item}
use Rattle.call_dispatch.specs.Shifts.{RowAmounts, Floors, shift_fault, shifted, AreKept}
use Rattle.call_dispatch.specs.Dispatches.{Done, moved_unless, dispatch_item, next_or, dispatch_items, HasDoneFront, IsStoppedInside}
use Rattle.call_dispatch.proofs.Lemmas.ShiftLaws.{accepted, enough_held, restored, undoable}
use Rattle.call_dispatch.specs.TakingBack.{taken_back, CanTakeBack, HadNumber}
use Rattle.call_dispatch.proofs.Lemmas.DispatchLaws.{items_fail, item_fails}

-- the state after an error is the one at first
swapped : RowAmounts → Done → Done
swapped first (now, Success) = (now, Success)
swapped first (now, Error code) = (first, Error code)

next-swapped : (first other : RowAmounts) (next new : RowAmounts → Done) → ((now : RowAmounts) → next now ≡ swapped first (new now)) → (done : Done) → next_or first done next ≡ swapped first (next_or other done new)
unfolding swapped
next-swapped first other next new same (now, Success) = same now
next-swapped first other next new same (now, Error code) = refl

module _ (floors : Floors) (rows who : List ℕ) where
  items-swapped : (first other m : RowAmounts) (items : List Item) → dispatch_items first m floors rows who items ≡ swapped first (dispatch_items other m floors rows who items)
  unfolding swapped dispatch_items
  items-swapped first other m [] = refl
  items-swapped first other m (i ∷ items) =
      next-swapped first other (λ now. dispatch_items first now floors rows who items) (λ now. dispatch_items other now floors rows who items) (λ now. items-swapped first other now items) (dispatch_item m floors rows who i)

  pub nothing_done : (m : RowAmounts) (items : List Item) → length items ≡ 0 → (m, Success) ≡ dispatch_items m m floors rows who items
  unfolding dispatch_items
  nothing_done m [] e = refl
  nothing_done m (i ∷ items) e = absurd (omega (arith, e))

  module _ (m : RowAmounts) (items : List Item) (i : Item) (rest : List Item) (is : items ≡ i ∷ rest) where
    -- the first call fails
    pub first_fails : (now : RowAmounts) (code : ℕ) → (now, Error code) ≡ dispatch_item m floors rows who i → (now, Error code) ≡ dispatch_items m m floors rows who items
    unfolding dispatch_items
    first_fails now code done =
        let stays : m ≡ now = sym (item_fails floors rows who m i code (sym (ap (λ (d : Done). d.1) done))) ∙ sym (ap (λ (d : Done). d.0) done) in
        let run : dispatch_items m m floors rows who (i ∷ rest) ≡ (m, Error code) = ap (λ (d : Done). next_or m d (λ now. dispatch_items m now floors rows who rest)) (sym done) in
        sym (ap (λ (x : List Item). dispatch_items m m floors rows who x) is ∙ run ∙ ap (λ (x : RowAmounts). (x, Error code)) stays)

    module _ (next : RowAmounts) (done : (next, Success) ≡ dispatch_item m floors rows who i) where
      goes_on : dispatch_items m m floors rows who items ≡ swapped m (dispatch_items next next floors rows who rest)
      unfolding dispatch_items
      goes_on =
          ap (λ (x : List Item). dispatch_items m m floors rows who x) is
          ∙ ap (λ (d : Done). next_or m d (λ now. dispatch_items m now floors rows who rest)) (sym done)
          ∙ items-swapped m next next rest

      -- all are done
      pub all_done : (now : RowAmounts) → (now, Success) ≡ dispatch_items next next floors rows who rest → (now, Success) ≡ dispatch_items m m floors rows who items
      unfolding swapped
      all_done now e = sym (goes_on ∙ ap (swapped m) (sym e))

      -- a later one fails
      pub rest_fails : (now : RowAmounts) (code : ℕ) → (now, Error code) ≡ dispatch_items next next floors rows who rest → (m, Error code) ≡ dispatch_items m m floors rows who items
      unfolding swapped
      rest_fails now code e = sym (goes_on ∙ ap (swapped m) (sym e))

    -- memory was refused in the first
    pub stops_first : (now : RowAmounts) → now ≡ m → IsStoppedInside m floors rows who items now
    unfolding dispatch_items
    stops_first now same = record { front = []; next = i; rest = rest; all = is; done = ap (λ (x : RowAmounts). (x, Success)) (sym same) }

  -- in a later one
  pub stops_later : (m : RowAmounts) (items : List Item) (i : Item) (rest : List Item) → items ≡ i ∷ rest → (next : RowAmounts) → (next, Success) ≡ dispatch_item m floors rows who i
      → (now : RowAmounts) → IsStoppedInside next floors rows who rest now → IsStoppedInside m floors rows who items now
  stops_later m items i rest is next done now h = record {
    front = i ∷ h.front;
    next = h.next;
    rest = h.rest;
    all = is ∙ ap (λ (x : List Item). i ∷ x) h.all;
    done = sym (all_done m (i ∷ h.front) i h.front refl next done now (sym h.done));
  }

  -- and where the first was to be moved back
  pub stops_back : (m : RowAmounts) (items : List Item) (i : Item) (rest : List Item) → items ≡ i ∷ rest → (next : RowAmounts) → (next, Success) ≡ dispatch_item m floors rows who i
      → (now failed : RowAmounts) (code : ℕ) → now ≡ next → (failed, Error code) ≡ dispatch_items next next floors rows who rest → IsStoppedInside m floors rows who items now
  unfolding dispatch_items
  stops_back m items i [] is next done now failed code same e = absurd (let end : Error code ≡ Success = ap (λ (d : Done). d.1) e in cc)
  stops_back m items i (j ∷ rest) is next done now failed code same e = record {
    front = i ∷ [];
    next = j;
    rest = rest;
    all = is;
    done = sym (all_done m (i ∷ []) i [] refl next done now (ap (λ (x : RowAmounts). (x, Success)) same ∙ nothing_done next [] refl));
  }

  -- a call without items is done in no part
  pub stops_before : {T E : Type 0} (result : Result T E) (m now : RowAmounts) → OnErr result (now ≡ m) → OnErr result (HasDoneFront m floors rows who [] now)
  unfolding dispatch_items
  stops_before (Ok x) m now h = tt
  stops_before (Err e) m now h = record { front = []; back = []; all = refl; done = ap (λ (x : RowAmounts). (x, Success)) (sym h) }

  pub stops_front : {T E : Type 0} (result : Result T E) (m now : RowAmounts) (items : List Item) → OnErr result (IsStoppedInside m floors rows who items now) → OnErr result (HasDoneFront m floors rows who items now)
  stops_front (Ok x) m now items h = tt
  stops_front (Err e) m now items h = record { front = h.front; back = h.next ∷ h.rest; all = h.all; done = h.done }

  -- what failed changed nothing
  pub rest_stays : (next now : RowAmounts) (rest : List Item) (code : ℕ) → (now, Error code) ≡ dispatch_items next next floors rows who rest → now ≡ next
  rest_stays next now rest code e = ap (λ (d : Done). d.0) e ∙ items_fail floors rows who next next rest code (sym (ap (λ (d : Done). d.1) e))

  -- ---- moved back
  moved_by : (m next after : RowAmounts) (fault : Option ShiftFault) → (next, Success) ≡ moved_unless fault after m → (fault ≡ None) × (next ≡ after)
  moved_by m next after None e = (refl, ap (λ (d : Done). d.0) e)
  moved_by m next after (Some fault) e = absurd (let end : Success ≡ Error _ = ap (λ (d : Done). d.1) e in cc)

  pub can_take_back : (m next : RowAmounts) (i : Item) → AreKept m floors → HadNumber m who i → (next, Success) ≡ dispatch_item m floors rows who i → CanTakeBack next floors rows who i
  unfolding dispatch_item
  can_take_back m next (Remark bytes) kept had done = tt
  can_take_back m next (Transfer row dest n) kept had done =
      let moved = moved_by m next (shifted m row who dest n) (shift_fault m floors rows row who dest n) done in
      subst (λ (x : RowAmounts). shift_fault x floors rows row dest who n ≡ None) (sym moved.1)
      (undoable m row who dest n floors rows kept had (accepted m floors rows row who dest n moved.0))
  can_take_back m next (Fail code) kept had done = tt
  can_take_back m next (Batch none) kept had done = tt

  pub took_back : (m next : RowAmounts) (i : Item) → (next, Success) ≡ dispatch_item m floors rows who i → taken_back next who i ≡ m
  unfolding dispatch_item
  took_back m next (Remark bytes) done = ap (λ (d : Done). d.0) done
  took_back m next (Transfer row dest n) done =
      let moved = moved_by m next (shifted m row who dest n) (shift_fault m floors rows row who dest n) done in
      ap (λ (x : RowAmounts). shifted x row dest who n) moved.1
      ∙ restored m row who dest n (enough_held m floors rows row who dest n (accepted m floors rows row who dest n moved.0))
  took_back m next (Fail code) done = absurd (let end : Success ≡ Error code = ap (λ (d : Done). d.1) done in cc)
  took_back m next (Batch none) done = ap (λ (d : Done). d.0) done
