-- Lemmas for proofs; a reader of the definitions skips this file. What is in a map's rows after one is written.
use Rattle.std.proofs.Common.{◌≡◌, inl, inr, ℕ, ◌≤◌, Bool, List, ap, arith}
use Rattle.std.specs.Prelude.{if◌then◌else◌}
use Rattle.std.specs.Ordering.{eq_by_cmp}
use Rattle.std.proofs.lemmas.Bool.{cases_Bool}
use Rattle.amounts.proofs.Lemmas.{key_same}
use Rattle.amounts.specs.Amounts.{amount}
use Rattle.call_dispatch.specs.Shifts.{AccountRow, account_row_cmp, AreKept}
use Rattle.call_dispatch.proofs.Lemmas.ShiftLaws.{account_row_keys}
use Rattle.test_codec.specs.Books.{amounts_in, one_floor}

-- where the one floor is kept, each is
pub floors_low : (es : List (AccountRow × ℕ)) (keeper : AccountRow) (floor : ℕ) → floor ≤ amount (amounts_in es) keeper → AreKept (amounts_in es) (one_floor keeper floor)
floors_low es keeper floor low k =
    elim (cases_Bool (eq_by_cmp account_row_cmp k keeper)) [
      | inl same ↦ (let is : one_floor keeper floor k ≡ floor = ap (λ (b : Bool). if b then floor else 0) same in
          let here : amount (amounts_in es) k ≡ amount (amounts_in es) keeper = ap (amount (amounts_in es)) (key_same account_row_keys k keeper same) in
          omega (arith, is, here, low))
      | inr apart ↦ (let is : one_floor keeper floor k ≡ 0 = ap (λ (b : Bool). if b then floor else 0) apart in omega (arith, is))
    ]
