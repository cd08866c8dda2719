-- Lemmas on the definitions of `specs/Laws.antt`: what proofs cite.
use Rattle.std.proofs.Common.{◌≡◌, inl, inr, ℕ, ◌+◌, ◌-◌, ◌<◌, ◌≤◌, Bool, true, false, List, sym, ap, ◌∙◌, arith}
use Rattle.std.specs.Prelude.{Option, None, Some, unwrap_or, Result, Ok, Err, OnOk, OnErr, if◌then◌else◌}
use Rattle.std.specs.Ordering.{eq_by_cmp}
use Rattle.std.specs.Cmp.{eq_by_cmp_equiv}
use Rattle.std.proofs.lemmas.Bool.{cases_Bool}
use Rattle.amounts.proofs.Lemmas.{key_same, same_key}
use Rattle.amounts.proofs.Lemmas.Keys.{number_keys, list_keys}
use Rattle.std.specs.Map.{lookup}
use Rattle.amounts.specs.Amounts.{amount, with_amount}
use Rattle.amounts.proofs.Lemmas.AmountLaws.{amount-with_amount}
use Rattle.amounts.proofs.Lemmas.Entries.{amount-from_entries, from_entries_changed}
use Rattle.call_dispatch.specs.Shifts.{AccountRow, account_row_cmp, RowAmounts, is_same_account, spare, shifted, AreKept}
use Rattle.call_dispatch.proofs.Lemmas.ShiftLaws.{account_row_keys, floor_keeps, shifted_written}
use Rattle.test_codec.specs.Books.{amounts_in, one_floor}

pub amount_is : (es : List (AccountRow × ℕ)) (q : AccountRow) → amount (amounts_in es) q ≡ unwrap_or (lookup (eq_by_cmp account_row_cmp q) es) 0
unfolding amounts_in
amount_is es q = amount-from_entries account_row_keys es q

pub written : (es fs : List (AccountRow × ℕ)) (k : AccountRow) (v : ℕ) → ((q : AccountRow) → lookup (eq_by_cmp account_row_cmp q) fs ≡ (if eq_by_cmp account_row_cmp k q then Some v else lookup (eq_by_cmp account_row_cmp q) es))
    → amounts_in fs ≡ with_amount (amounts_in es) k v
unfolding amounts_in
written es fs k v wrote =
    from_entries_changed account_row_keys es fs k (Some v)
    (λ q. wrote q ∙ ap (λ b. if b then Some v else lookup (eq_by_cmp account_row_cmp q) es) ((eq_by_cmp_equiv account_row_keys.total).symm k q))

pub there : (es : List (AccountRow × ℕ)) (k : AccountRow) → 0 < amount (amounts_in es) k → lookup (eq_by_cmp account_row_cmp k) es ≡ None → ⊥
there es k some none = let is = amount_is es k ∙ ap (λ (o : Option ℕ). unwrap_or o 0) none in omega (arith, some, is)

-- what another account has stays
pub giver_stays : (m : RowAmounts) (row : ℕ) (from to : List ℕ) (v : ℕ) → is_same_account from to ≡ false → amount (with_amount m (to, row) v) (from, row) ≡ amount m (from, row)
giver_stays m row from to v other =
    let apart : eq_by_cmp account_row_cmp (from, row) (to, row) ≡ false =
    elim (cases_Bool (eq_by_cmp account_row_cmp (from, row) (to, row))) [
      | inl same ↦ (let keys : (from, row) ≡ (to, row) = key_same account_row_keys (from, row) (to, row) same in
          let e : is_same_account from to ≡ true = ap (λ (k : AccountRow). is_same_account from k.0) (sym keys) ∙ same_key (list_keys number_keys) from in absurd cc)
      | inr apart ↦ apart
    ] in
    amount-with_amount account_row_keys m (to, row) v (from, row) ∙ ap (λ (b : Bool). if b then v else amount m (from, row)) apart

-- the floor is kept, whatever a move answered
pub floor_kept_after : {T E : Type 0} (result : Result T E) (m now : RowAmounts) (keeper : AccountRow) (floor row : ℕ) (from to : List ℕ) (n : ℕ)
    → AreKept m (one_floor keeper floor) → n ≤ spare m (one_floor keeper floor) (from, row) → OnOk result (now ≡ shifted m row from to n) → OnErr result (now ≡ m) → floor ≤ amount now keeper
floor_kept_after (Ok x) m now keeper floor row from to n kept enough ok err =
    let is : one_floor keeper floor keeper ≡ floor = ap (λ (b : Bool). if b then floor else 0) (same_key account_row_keys keeper) in
    let low = floor_keeps m row from to n (one_floor keeper floor) enough keeper (kept keeper) in
    let here : amount now keeper ≡ amount (shifted m row from to n) keeper = ap (λ (x : RowAmounts). amount x keeper) ok in
    omega (arith, is, low, here)
floor_kept_after (Err e) m now keeper floor row from to n kept enough ok err =
    let is : one_floor keeper floor keeper ≡ floor = ap (λ (b : Bool). if b then floor else 0) (same_key account_row_keys keeper) in
    let low = kept keeper in
    let here : amount now keeper ≡ amount m keeper = ap (λ (x : RowAmounts). amount x keeper) err in
    omega (arith, is, low, here)

pub still_some : (m now : RowAmounts) (row : ℕ) (from to : List ℕ) (v n : ℕ) → is_same_account from to ≡ false → now ≡ with_amount m (to, row) v → n ≤ amount m (from, row) → 0 < n → 0 < amount now (from, row)
still_some m now row from to v n other wrote enough some =
    let is : amount now (from, row) ≡ amount m (from, row) = ap (λ (x : RowAmounts). amount x (from, row)) wrote ∙ giver_stays m row from to v other in
    omega (arith, is, enough, some)

pub moved_by_writing : (m half now : RowAmounts) (row : ℕ) (from to : List ℕ) (n given got : ℕ) → is_same_account from to ≡ false → n ≤ amount m (from, row) → given ≡ amount m (from, row) - n → got ≡ amount m (to, row) + n
    → half ≡ with_amount m (to, row) got → now ≡ with_amount half (from, row) given → now ≡ shifted m row from to n
moved_by_writing m half now row from to n given got other enough left right first second =
    second
    ∙ ap (λ (x : RowAmounts). with_amount x (from, row) given) (first ∙ ap (λ (v : ℕ). with_amount m (to, row) v) right)
    ∙ ap (λ (v : ℕ). with_amount (with_amount m (to, row) (amount m (to, row) + n)) (from, row) v) left
    ∙ shifted_written m row from to n other enough
