-- Lemmas on the definitions of `specs/Laws/ShiftLaws.antt`: what proofs cite.
use Rattle.std.proofs.Common.{◌≡◌, ◌≢◌, ◌⊎◌, inl, inr, Err, ℕ, ◌+◌, ◌-◌, ◌^◌, ◌<◌, ◌≤◌, Bool, true, false, leb, ◌||◌, List, Some, None, refl, sym, ap, ◌∙◌, subst, arith}
use Rattle.std.specs.Prelude.{if◌then◌else◌}
use Rattle.std.specs.Ordering.{nat_cmp, eq_by_cmp}
use Rattle.std.specs.Cmp.Lexicographic.{slice_cmp}
use Rattle.std.proofs.lemmas.Bool.{leb-true, le-leb, cases_Bool}
use Rattle.amounts.specs.Rows.{amount_if}
use Rattle.amounts.proofs.Lemmas.Rows.{IsKeyOrder, amount_if-zero}
use Rattle.amounts.proofs.Lemmas.Keys.{number_keys, list_keys, pair_keys}
use Rattle.amounts.specs.Amounts.{amount, total, minus, with_amount}
use Rattle.amounts.proofs.Lemmas.AmountLaws.{same_amounts, amount-with_amount}
use Rattle.amounts.proofs.Lemmas.{key_same, same_key, amount-plus, amount-minus, total-plus, total-minus}
use Rattle.call_dispatch.specs.declared.faults.ShiftFault.{ShiftFault}
use Rattle.call_dispatch.specs.declared.faults.ShiftFault.TheVariants.{NoRow, NotEnough, Overflow, Memory}
use Rattle.call_dispatch.specs.Shifts.{AccountRow, account_row_cmp, RowAmounts, Floors, is_listed_row, is_same_account, spare, shift_fault, shifted, Shifts, IsNumberAt, AreKept}
use Rattle.call_dispatch.specs.Laws.ShiftLaws.{HasShiftRoom}

account_keys : IsKeyOrder (slice_cmp nat_cmp)
account_keys = list_keys number_keys

pub account_row_keys : IsKeyOrder account_row_cmp
account_row_keys = pair_keys account_keys number_keys

-- nothing refuses the move
pub record IsAccepted (m : RowAmounts) (floors : Floors) (rows : List ℕ) (row : ℕ) (from to : List ℕ) (n : ℕ) : Type 0 where
  pub there : is_listed_row rows row ≡ true
  pub enough : n ≤ spare m floors (from, row)
  pub room : HasShiftRoom m row from to n

-- keys that differ
differ : (q k : AccountRow) → q ≢ k → eq_by_cmp account_row_cmp q k ≡ false
differ q k other =
    elim (cases_Bool (eq_by_cmp account_row_cmp q k)) [
      | inl same ↦ absurd (other (key_same account_row_keys q k same))
      | inr apart ↦ apart
    ]

module _ (m : RowAmounts) (floors : Floors) (rows : List ℕ) (row : ℕ) (from to : List ℕ) (n : ℕ) where
  last_test : (a b : Bool) → (if a || b then None else Some (Overflow (amount m (to, row)))) ≡ None → (a ≡ true) ⊎ (b ≡ true)
  last_test true b e = inl refl
  last_test false true e = inr refl
  last_test false false e = absurd cc

  tests : (a b c d : Bool) → (if a then (if b then (if c || d then None else Some (Overflow (amount m (to, row)))) else Some (NotEnough (spare m floors (from, row)))) else Some NoRow) ≡ None
      → (a ≡ true) × (b ≡ true) × ((c ≡ true) ⊎ (d ≡ true))
  tests true true c d e = (refl, refl, last_test c d e)
  tests true false c d e = absurd cc
  tests false b c d e = absurd cc

  or_room : (is_same_account from to ≡ true) ⊎ (leb (amount m (to, row) + n) (2 ^ 128 - 1) ≡ true) → HasShiftRoom m row from to n
  or_room (inl same) = inl same
  or_room (inr few) = inr (leb-true _ _ few)

  pub accepted : shift_fault m floors rows row from to n ≡ None → IsAccepted m floors rows row from to n
  unfolding shift_fault
  accepted e =
      let t = tests (is_listed_row rows row) (leb n (spare m floors (from, row))) (is_same_account from to) (leb (amount m (to, row) + n) (2 ^ 128 - 1)) e in
      record { there = t.0; enough = leb-true _ _ t.1; room = or_room t.2 }

  never_memory : (a b c : Bool) → (if a then (if b then (if c then None else Some (Overflow (amount m (to, row)))) else Some (NotEnough (spare m floors (from, row)))) else Some NoRow) ≡ Some Memory → ⊥
  never_memory true true true e = absurd cc
  never_memory true true false e = absurd cc
  never_memory true false c e = absurd cc
  never_memory false b c e = absurd cc

  -- where something refuses the move, nothing changes
  pub refused : (fault : ShiftFault) → shift_fault m floors rows row from to n ≡ Some fault → (after : RowAmounts) → Shifts (shift_fault m floors rows row from to n) after m (Err fault) m
  unfolding shift_fault
  refused NoRow e after = (e, refl)
  refused (NotEnough have) e after = (e, refl)
  refused (Overflow have) e after = (e, refl)
  refused Memory e after = absurd (never_memory (is_listed_row rows row) (leb n (spare m floors (from, row))) (is_same_account from to || leb (amount m (to, row) + n) (2 ^ 128 - 1)) e)

  last_passed : (a b : Bool) → (a ≡ true) ⊎ (b ≡ true) → (if a || b then None else Some (Overflow (amount m (to, row)))) ≡ None
  last_passed true b h = refl
  last_passed false true h = refl
  last_passed false false (inl h) = absurd cc
  last_passed false false (inr h) = absurd cc

  room_or : HasShiftRoom m row from to n → (is_same_account from to ≡ true) ⊎ (leb (amount m (to, row) + n) (2 ^ 128 - 1) ≡ true)
  room_or (inl same) = inl same
  room_or (inr few) = inr (le-leb _ _ few)

  pub no_fault : IsAccepted m floors rows row from to n → shift_fault m floors rows row from to n ≡ None
  unfolding shift_fault
  no_fault h = rw (h.there, le-leb _ _ h.enough) (last_passed _ _ (room_or h.room))

  pub enough_held : IsAccepted m floors rows row from to n → n ≤ amount m (from, row)
  enough_held h = let e = h.enough in omega (arith, e)

-- ---- amounts and sums after a move

module _ (m : RowAmounts) (row : ℕ) (from to : List ℕ) (n : ℕ) where
  pub amount-shifted : (q : AccountRow) → amount (shifted m row from to n) q ≡ (amount m q - amount_if (eq_by_cmp account_row_cmp q (from, row)) n) + amount_if (eq_by_cmp account_row_cmp q (to, row)) n
  unfolding shifted
  amount-shifted q = amount-plus account_row_keys (minus m (from, row) n) (to, row) n q ∙ ap (λ x. x + amount_if (eq_by_cmp account_row_cmp q (to, row)) n) (amount-minus account_row_keys m (from, row) n q)

  pub total-shifted : (p : AccountRow → Bool) → p (from, row) ≡ p (to, row) → n ≤ amount m (from, row) → total p (shifted m row from to n) ≡ total p m
  unfolding shifted
  total-shifted p same le =
      let more = total-plus account_row_keys p (minus m (from, row) n) (to, row) n in
      let less = total-minus account_row_keys p m (from, row) n le in
      let alike : amount_if (p (from, row)) n ≡ amount_if (p (to, row)) n = ap (λ b. amount_if b n) same in
      omega (arith, more, less, alike)

  -- a sum without the giver doesn't fall
  pub total_grows : (p : AccountRow → Bool) → p (from, row) ≡ false → n ≤ amount m (from, row) → total p m ≤ total p (shifted m row from to n)
  unfolding shifted
  total_grows p without le =
      let more = total-plus account_row_keys p (minus m (from, row) n) (to, row) n in
      let less = total-minus account_row_keys p m (from, row) n le in
      let none : amount_if (p (from, row)) n ≡ 0 = ap (λ b. amount_if b n) without in
      omega (arith, more, less, none)

  -- another account loses nothing
  pub others_keep : (q : AccountRow) → q.0 ≢ from → amount m q ≤ amount (shifted m row from to n) q
  others_keep q other =
      let is = amount-shifted q in
      let apart : eq_by_cmp account_row_cmp q (from, row) ≡ false = differ q (from, row) (λ e. other (ap (λ (k : AccountRow). k.0) e)) in
      let none : amount_if (eq_by_cmp account_row_cmp q (from, row)) n ≡ 0 = ap (λ b. amount_if b n) apart in
      omega (arith, is, none)

  -- another row stays
  pub rows_keep : (q : AccountRow) → q.1 ≢ row → amount (shifted m row from to n) q ≡ amount m q
  rows_keep q other =
      let is = amount-shifted q in
      let none : amount_if (eq_by_cmp account_row_cmp q (from, row)) n ≡ 0 = ap (λ b. amount_if b n) (differ q (from, row) (λ e. other (ap (λ (k : AccountRow). k.1) e))) in
      let nor : amount_if (eq_by_cmp account_row_cmp q (to, row)) n ≡ 0 = ap (λ b. amount_if b n) (differ q (to, row) (λ e. other (ap (λ (k : AccountRow). k.1) e))) in
      omega (arith, is, none, nor)

  pub floor_keeps : (floors : Floors) → n ≤ spare m floors (from, row) → (q : AccountRow) → floors q ≤ amount m q → floors q ≤ amount (shifted m row from to n) q
  floor_keeps floors enough q low = by_case (cases_Bool (eq_by_cmp account_row_cmp q (from, row)))
    where
      by_case : (eq_by_cmp account_row_cmp q (from, row) ≡ true) ⊎ (eq_by_cmp account_row_cmp q (from, row) ≡ false) → floors q ≤ amount (shifted m row from to n) q
      by_case (inl here) =
          let is = amount-shifted q in
          let key : q ≡ (from, row) = key_same account_row_keys q (from, row) here in
          let given : amount_if (eq_by_cmp account_row_cmp q (from, row)) n ≡ n = ap (λ b. amount_if b n) here in
          let left : n ≤ amount m q - floors q = subst (λ (k : AccountRow). n ≤ spare m floors k) (sym key) enough in
          omega (arith, is, given, left, low)
      by_case (inr apart) =
          let is = amount-shifted q in
          let none : amount_if (eq_by_cmp account_row_cmp q (from, row)) n ≡ 0 = ap (λ b. amount_if b n) apart in
          omega (arith, is, none, low)

  -- amounts of 128 bits stay so
  pub numbers_stay : HasShiftRoom m row from to n → n ≤ amount m (from, row) → ((k : AccountRow) → IsNumberAt m k) → (q : AccountRow) → IsNumberAt (shifted m row from to n) q
  numbers_stay room le all q = by_case (cases_Bool (eq_by_cmp account_row_cmp q (to, row))) room
    where
      by_case : (eq_by_cmp account_row_cmp q (to, row) ≡ true) ⊎ (eq_by_cmp account_row_cmp q (to, row) ≡ false) → HasShiftRoom m row from to n → amount (shifted m row from to n) q < 2 ^ 128
      by_case (inr apart) room =
          let is = amount-shifted q in
          let none : amount_if (eq_by_cmp account_row_cmp q (to, row)) n ≡ 0 = ap (λ b. amount_if b n) apart in
          let few = all q in
          omega (arith, is, none, few)
      by_case (inl here) (inr few) =
          let is = amount-shifted q in
          let got : amount_if (eq_by_cmp account_row_cmp q (to, row)) n ≡ n = ap (λ b. amount_if b n) here in
          let key : amount m q ≡ amount m (to, row) = ap (amount m) (key_same account_row_keys q (to, row) here) in
          omega (arith, is, got, key, few)
      by_case (inl here) (inl same) =
          let is = amount-shifted q in
          let account : from ≡ to = key_same account_keys from to same in
          let key : q ≡ (from, row) = key_same account_row_keys q (to, row) here ∙ ap (λ a. (a, row)) (sym account) in
          let given : amount_if (eq_by_cmp account_row_cmp q (from, row)) n ≡ n = ap (λ b. amount_if b n) (ap (λ k. eq_by_cmp account_row_cmp q k) (sym key) ∙ same_key account_row_keys q) in
          let got : amount_if (eq_by_cmp account_row_cmp q (to, row)) n ≡ n = ap (λ b. amount_if b n) here in
          let have : amount m q ≡ amount m (from, row) = ap (amount m) key in
          let few = all q in
          omega (arith, is, given, got, have, le, few)

-- ---- a move that was made can be undone

module _ (m : RowAmounts) (row : ℕ) (from to : List ℕ) (n : ℕ) where
  -- moved back, the map is as it was
  pub restored : n ≤ amount m (from, row) → shifted (shifted m row from to n) row to from n ≡ m
  restored le = same_amounts account_row_keys _ _ by_key
    where
      back : (q : AccountRow) → (eq_by_cmp account_row_cmp q (from, row) ≡ true) ⊎ (eq_by_cmp account_row_cmp q (from, row) ≡ false) → amount_if (eq_by_cmp account_row_cmp q (from, row)) n ≤ amount m q
      back q (inl here) =
          let key : amount m q ≡ amount m (from, row) = ap (amount m) (key_same account_row_keys q (from, row) here) in
          let given : amount_if (eq_by_cmp account_row_cmp q (from, row)) n ≡ n = ap (λ b. amount_if b n) here in
          omega (arith, key, given, le)
      back q (inr apart) = let none : amount_if (eq_by_cmp account_row_cmp q (from, row)) n ≡ 0 = ap (λ b. amount_if b n) apart in omega (arith, none)

      by_key : (q : AccountRow) → amount (shifted (shifted m row from to n) row to from n) q ≡ amount m q
      by_key q =
          let outer = amount-shifted (shifted m row from to n) row to from n q in
          let inner = amount-shifted m row from to n q in
          let given = back q (cases_Bool (eq_by_cmp account_row_cmp q (from, row))) in
          omega (arith, outer, inner, given)

  -- and only running out of memory can refuse it
  pub undoable : (floors : Floors) (rows : List ℕ) → AreKept m floors → IsNumberAt m (from, row) → IsAccepted m floors rows row from to n
      → shift_fault (shifted m row from to n) floors rows row to from n ≡ None
  undoable floors rows kept few h = no_fault (shifted m row from to n) floors rows row to from n (record { there = h.there; enough = enough; room = room (cases_Bool (is_same_account to from)) })
    where
      le : n ≤ amount m (from, row)
      le = enough_held m floors rows row from to n h

      -- the receiver has its amount and n more, unless it is the giver
      got : (eq_by_cmp account_row_cmp (to, row) (from, row) ≡ true) ⊎ (eq_by_cmp account_row_cmp (to, row) (from, row) ≡ false) → n ≤ amount (shifted m row from to n) (to, row) - floors (to, row)
      got (inl here) =
          let is = amount-shifted m row from to n (to, row) in
          let key : (to, row) ≡ (from, row) = key_same account_row_keys (to, row) (from, row) here in
          let given : amount_if (eq_by_cmp account_row_cmp (to, row) (from, row)) n ≡ n = ap (λ b. amount_if b n) here in
          let taken : amount_if (eq_by_cmp account_row_cmp (to, row) (to, row)) n ≡ n = ap (λ b. amount_if b n) (same_key account_row_keys (to, row)) in
          let have : n ≤ amount m (to, row) - floors (to, row) = subst (λ (k : AccountRow). n ≤ spare m floors k) (sym key) h.enough in
          omega (arith, is, given, taken, have)
      got (inr apart) =
          let is = amount-shifted m row from to n (to, row) in
          let none : amount_if (eq_by_cmp account_row_cmp (to, row) (from, row)) n ≡ 0 = ap (λ b. amount_if b n) apart in
          let taken : amount_if (eq_by_cmp account_row_cmp (to, row) (to, row)) n ≡ n = ap (λ b. amount_if b n) (same_key account_row_keys (to, row)) in
          let low = kept (to, row) in
          omega (arith, is, none, taken, low)

      enough : n ≤ spare (shifted m row from to n) floors (to, row)
      enough = got (cases_Bool (eq_by_cmp account_row_cmp (to, row) (from, row)))

      room : (is_same_account to from ≡ true) ⊎ (is_same_account to from ≡ false) → HasShiftRoom (shifted m row from to n) row to from n
      room (inl same) = inl same
      room (inr other) =
          let apart : (to, row) ≢ (from, row) = λ e. absurd (let same : is_same_account to from ≡ true = ap (λ (k : AccountRow). is_same_account to k.0) (sym e) ∙ same_key account_keys to in cc) in
          let is = amount-shifted m row from to n (from, row) in
          let given : amount_if (eq_by_cmp account_row_cmp (from, row) (from, row)) n ≡ n = ap (λ b. amount_if b n) (same_key account_row_keys (from, row)) in
          let none : amount_if (eq_by_cmp account_row_cmp (from, row) (to, row)) n ≡ 0 = ap (λ b. amount_if b n) (differ (from, row) (to, row) (λ e. apart (sym e))) in
          inr (omega (arith, is, given, none, le, few))

-- ---- moves that change nothing

module _ (m : RowAmounts) (row : ℕ) (from to : List ℕ) (n : ℕ) where
  -- nothing is moved
  pub shifted_nothing : n ≡ 0 → shifted m row from to n ≡ m
  shifted_nothing none = same_amounts account_row_keys _ _ (λ q.
      let is = amount-shifted m row from to n q in
      let given : amount_if (eq_by_cmp account_row_cmp q (from, row)) n ≡ 0 = ap (amount_if (eq_by_cmp account_row_cmp q (from, row))) none ∙ amount_if-zero _ in
      let got : amount_if (eq_by_cmp account_row_cmp q (to, row)) n ≡ 0 = ap (amount_if (eq_by_cmp account_row_cmp q (to, row))) none ∙ amount_if-zero _ in
      omega (arith, is, given, got))

  -- the giver is the receiver
  pub shifted_same : is_same_account from to ≡ true → n ≤ amount m (from, row) → shifted m row from to n ≡ m
  shifted_same same le = same_amounts account_row_keys _ _ by_key
    where
      alike : from ≡ to
      alike = key_same account_keys from to same

      less : (q : AccountRow) → (eq_by_cmp account_row_cmp q (from, row) ≡ true) ⊎ (eq_by_cmp account_row_cmp q (from, row) ≡ false) → amount_if (eq_by_cmp account_row_cmp q (from, row)) n ≤ amount m q
      less q (inl here) =
          let key : amount m q ≡ amount m (from, row) = ap (amount m) (key_same account_row_keys q (from, row) here) in
          let given : amount_if (eq_by_cmp account_row_cmp q (from, row)) n ≡ n = ap (λ b. amount_if b n) here in
          omega (arith, key, given, le)
      less q (inr apart) = let none : amount_if (eq_by_cmp account_row_cmp q (from, row)) n ≡ 0 = ap (λ b. amount_if b n) apart in omega (arith, none)

      by_key : (q : AccountRow) → amount (shifted m row from to n) q ≡ amount m q
      by_key q =
          let is = amount-shifted m row from to n q in
          let both : amount_if (eq_by_cmp account_row_cmp q (to, row)) n ≡ amount_if (eq_by_cmp account_row_cmp q (from, row)) n = ap (λ (a : List ℕ). amount_if (eq_by_cmp account_row_cmp q (a, row)) n) (sym alike) in
          let few = less q (cases_Bool (eq_by_cmp account_row_cmp q (from, row))) in
          omega (arith, is, both, few)

  -- written one by one
  pub shifted_written : is_same_account from to ≡ false → n ≤ amount m (from, row) → with_amount (with_amount m (to, row) (amount m (to, row) + n)) (from, row) (amount m (from, row) - n) ≡ shifted m row from to n
  shifted_written other le = same_amounts account_row_keys _ _ (λ q. by_key q (cases_Bool (eq_by_cmp account_row_cmp q (from, row))) (cases_Bool (eq_by_cmp account_row_cmp q (to, row))))
    where
      apart : (q : AccountRow) → q ≡ (from, row) → q ≡ (to, row) → ⊥
      apart q f t = absurd (let same : is_same_account from to ≡ true = ap (λ (k : AccountRow). is_same_account from k.0) (sym t ∙ f) ∙ same_key account_keys from in cc)

      outer : (q : AccountRow) → amount (with_amount (with_amount m (to, row) (amount m (to, row) + n)) (from, row) (amount m (from, row) - n)) q
          ≡ (if eq_by_cmp account_row_cmp q (from, row) then amount m (from, row) - n else (if eq_by_cmp account_row_cmp q (to, row) then amount m (to, row) + n else amount m q))
      outer q =
          amount-with_amount account_row_keys (with_amount m (to, row) (amount m (to, row) + n)) (from, row) (amount m (from, row) - n) q
          ∙ ap (λ x. if eq_by_cmp account_row_cmp q (from, row) then amount m (from, row) - n else x) (amount-with_amount account_row_keys m (to, row) (amount m (to, row) + n) q)

      by_key : (q : AccountRow) → (eq_by_cmp account_row_cmp q (from, row) ≡ true) ⊎ (eq_by_cmp account_row_cmp q (from, row) ≡ false) → (eq_by_cmp account_row_cmp q (to, row) ≡ true) ⊎ (eq_by_cmp account_row_cmp q (to, row) ≡ false)
          → amount (with_amount (with_amount m (to, row) (amount m (to, row) + n)) (from, row) (amount m (from, row) - n)) q ≡ amount (shifted m row from to n) q
      by_key q (inl f) (inl t) = absurd (apart q (key_same account_row_keys q (from, row) f) (key_same account_row_keys q (to, row) t))
      by_key q (inl f) (inr t) =
          let is = amount-shifted m row from to n q in
          let wrote = outer q ∙ ap (λ b. if b then amount m (from, row) - n else (if eq_by_cmp account_row_cmp q (to, row) then amount m (to, row) + n else amount m q)) f in
          let given : amount_if (eq_by_cmp account_row_cmp q (from, row)) n ≡ n = ap (λ b. amount_if b n) f in
          let none : amount_if (eq_by_cmp account_row_cmp q (to, row)) n ≡ 0 = ap (λ b. amount_if b n) t in
          let key : amount m q ≡ amount m (from, row) = ap (amount m) (key_same account_row_keys q (from, row) f) in
          omega (arith, is, wrote, given, none, key)
      by_key q (inr f) (inl t) =
          let is = amount-shifted m row from to n q in
          let wrote = outer q ∙ ap (λ b. if b then amount m (from, row) - n else (if eq_by_cmp account_row_cmp q (to, row) then amount m (to, row) + n else amount m q)) f
          ∙ ap (λ b. if b then amount m (to, row) + n else amount m q) t in
          let none : amount_if (eq_by_cmp account_row_cmp q (from, row)) n ≡ 0 = ap (λ b. amount_if b n) f in
          let got : amount_if (eq_by_cmp account_row_cmp q (to, row)) n ≡ n = ap (λ b. amount_if b n) t in
          let key : amount m q ≡ amount m (to, row) = ap (amount m) (key_same account_row_keys q (to, row) t) in
          omega (arith, is, wrote, none, got, key)
      by_key q (inr f) (inr t) =
          let is = amount-shifted m row from to n q in
          let wrote = outer q ∙ ap (λ b. if b then amount m (from, row) - n else (if eq_by_cmp account_row_cmp q (to, row) then amount m (to, row) + n else amount m q)) f
          ∙ ap (λ b. if b then amount m (to, row) + n else amount m q) t in
          let none : amount_if (eq_by_cmp account_row_cmp q (from, row)) n ≡ 0 = ap (λ b. amount_if b n) f in
          let nor : amount_if (eq_by_cmp account_row_cmp q (to, row)) n ≡ 0 = ap (λ b. amount_if b n) t in
          omega (arith, is, wrote, none, nor)
