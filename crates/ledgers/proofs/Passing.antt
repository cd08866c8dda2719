-- An amount that one account gives another, put there before it is taken.
use Rattle.std.proofs.Common.{◌≡◌, ℕ, ◌≤◌, ◌⊎◌, true, List, [], ◌∷◌, length, refl, sym, ap, ◌∙◌, subst, arith, inl, inr}
use Rattle.std.specs.Prelude.{Option, None, Some, Result, Ok, Err, OnOk, MatchOption, is_none}
use Rattle.std.specs.Ordering.{eq_by_cmp}
use Rattle.std.proofs.lemmas.Bool.{cases_Bool, and_parts}
use Rattle.amounts.specs.Rows.{sum_where, amount_if}
use Rattle.amounts.specs.Amounts.{amount, plus, minus, plus_all, minus_all}
use Rattle.amounts.proofs.Lemmas.{same_key, key_same, amount-plus, amount-minus, amount-plus_all, amount-minus_all}
use Rattle.amounts.proofs.Lemmas.AmountLaws.{same_amounts}
use Rattle.std.specs.List.{list_all}
use Rattle.asset_lists.specs.declared.units.Instance.{Instance}
use Rattle.asset_lists.specs.declared.units.Fun.{Fun}
use Rattle.asset_lists.specs.declared.units.Asset.{Asset}
use Rattle.asset_lists.specs.Units.{Unit, unit_of, amount_of, instance_in}
use Rattle.ledgers.specs.Ledgers.{Holder, account_cmp, holder_cmp, Held}
use Rattle.ledgers.specs.RowState.{may_take, MayTake}
use Rattle.ledgers.specs.AccountRows.{account_rows, HasAll, MayTakeAll}
use Rattle.ledgers.proofs.Lemmas.{holder_keys, account_keys}
use Rattle.ledgers.proofs.RowLookups.{apart}
use Rattle.ledgers.proofs.AccountMoves.{minus_first, minus_none, plus_first, plus_none}
use Rattle.ledgers.proofs.Transferring.{no_rows_there, two_accounts}

pub none_left : (o : Option ℕ) → ((x : ℕ) → o ≡ Some x → ⊥) → o ≡ None
none_left None h = refl
none_left (Some x) h = absurd (h x refl)

pub still_enough : (held : Held) (k q : Holder) (n : ℕ) → amount held q ≤ amount (plus held k n) q
still_enough held k q n = let more = amount-plus holder_keys held k n q in omega (arith, more)

module _ (held : Held) (k q : Holder) (n : ℕ) (other : k ≡ q → ⊥) where
  at_key : (x : Holder) → amount (minus (plus held k n) q n) x ≡ amount (plus (minus held q n) k n) x
  at_key x =
      let taken = amount-minus holder_keys (plus held k n) q n x in
      let given = amount-plus holder_keys held k n x in
      let left = amount-minus holder_keys held q n x in
      let whole = amount-plus holder_keys (minus held q n) k n x in
      elim (cases_Bool (eq_by_cmp holder_cmp x q)) [
        | inl here ↦ elim (cases_Bool (eq_by_cmp holder_cmp x k)) [
          | inl there ↦ absurd (other (sym (key_same holder_keys x k there) ∙ key_same holder_keys x q here))
          | inr not_there ↦ (let none : amount_if (eq_by_cmp holder_cmp x k) n ≡ 0 = ap (λ b. amount_if b n) not_there in omega (arith, taken, given, left, whole, none))
        ]
        | inr not_here ↦ (let none : amount_if (eq_by_cmp holder_cmp x q) n ≡ 0 = ap (λ b. amount_if b n) not_here in omega (arith, taken, given, left, whole, none))
      ]

  -- given first and then taken, or the other way round
  pub given_then_taken : minus (plus held k n) q n ≡ plus (minus held q n) k n
  given_then_taken = same_amounts holder_keys _ _ at_key

-- an account may take an amount in before another gives it, where it may then
pub may_before : (fun : Fun) (who : List ℕ) (unit : Unit) (held after : Held) → instance_in fun ≡ None → amount after (who, unit) ≡ amount held (who, unit) → may_take fun who unit after → may_take fun who unit held
may_before (Fun.Fungible n) who unit held after is same may = omega (arith, same, may)
may_before (Fun.NonFungible i) who unit held after is same may = absurd (cc)

-- the same of the one asset of a list
pub may_one : (held : Held) (from to : List ℕ) (xs : List Asset) (a : Asset) → (to ≡ from → ⊥) → xs ≡ a ∷ [] → instance_in a.fun ≡ None → MayTakeAll (minus_all held (account_rows from xs)) to xs → MayTake held to a
may_one held from to xs a other one is may =
    let after : minus_all held (account_rows from xs) ≡ minus held (from, unit_of a) (amount_of a) = ap (λ ys. minus_all held (account_rows from ys)) one ∙ minus_first held from a [] ∙ minus_none _ in
    let left = ap (λ (h : Held). amount h (to, unit_of a)) after ∙ amount-minus holder_keys held (from, unit_of a) (amount_of a) (to, unit_of a) in
    let none : amount_if (eq_by_cmp holder_cmp (to, unit_of a) (from, unit_of a)) (amount_of a) ≡ 0 = ap (λ b. amount_if b (amount_of a)) (apart holder_keys (to, unit_of a) (from, unit_of a) (λ e. other (ap (λ (h : Holder). h.0) e))) in
    may_before a.fun to (unit_of a) held (minus_all held (account_rows from xs)) is (omega (arith, left, none)) (subst (λ ys. MayTakeAll (minus_all held (account_rows from xs)) to ys) one may).0

-- where the one asset of a list was moved, the list was
pub only_passed : {A B : Type 0} (r : Result A B) (held now : Held) (from to : List ℕ) (xs : List Asset) (a : Asset) → xs ≡ a ∷ []
    → OnOk r (now ≡ plus (minus held (from, unit_of a) (amount_of a)) (to, unit_of a) (amount_of a)) → OnOk r (now ≡ plus_all (minus_all held (account_rows from xs)) (account_rows to xs))
only_passed (Ok x) held now from to xs a one moved =
    let first = minus_first held from a [] ∙ minus_none _ in
    moved ∙ ap (λ h. plus h (to, unit_of a) (amount_of a)) (sym first) ∙ sym (plus_first (minus_all held (account_rows from (a ∷ []))) to a [] ∙ plus_none _)
    ∙ ap (λ ys. plus_all (minus_all held (account_rows from ys)) (account_rows to ys)) (sym one)
only_passed (Err e) held now from to xs a one moved = tt

-- ---- what is given and taken back
pub given_there : (held : Held) (k : Holder) (n : ℕ) → n ≤ amount (plus held k n) k
given_there held k n =
    let more = amount-plus holder_keys held k n k in
    let one : amount_if (eq_by_cmp holder_cmp k k) n ≡ n = ap (λ b. amount_if b n) (same_key holder_keys k) in
    omega (arith, more, one)

pub taken_back : (held : Held) (k : Holder) (n : ℕ) → minus (plus held k n) k n ≡ held
taken_back held k n = same_amounts holder_keys _ _ (λ x.
    let taken = amount-minus holder_keys (plus held k n) k n x in
    let given = amount-plus holder_keys held k n x in
    omega (arith, taken, given))

-- ---- a list without a first
pub no_first : {A : Type 0} (o : Option A) (P : Type 0) (Q : A → Type 0) → MatchOption o P Q → ((x : A) → o ≡ Some x → ⊥) → P
no_first None P Q says none = says
no_first (Some x) P Q says none = absurd (none x refl)

pub empty_list : {A : Type 0} (xs : List A) → length xs ≡ 0 → xs ≡ []
empty_list [] none = refl
empty_list (x ∷ xs) none = absurd (omega (arith, none))

-- ---- lists of amounts
pub still_all : (held : Held) (es : List (Holder × ℕ)) (who : List ℕ) (xs : List Asset) → HasAll held who xs → HasAll (plus_all held es) who xs
still_all held es who xs has q =
    let le = has q in
    let more = amount-plus_all holder_keys held es q in
    omega (arith, le, more)

none_of_two : (from to : List ℕ) (xs : List Asset) → (to ≡ from → ⊥) → (q : Holder) → (sum_where (eq_by_cmp holder_cmp q) (account_rows from xs) ≡ 0) ⊎ (sum_where (eq_by_cmp holder_cmp q) (account_rows to xs) ≡ 0)
none_of_two from to xs other q =
    elim (cases_Bool (eq_by_cmp account_cmp to q.0)) [
      | inl here ↦ inl (no_rows_there from q.0 q.1 xs (λ e. other (key_same account_keys to q.0 here ∙ e)))
      | inr not_here ↦ inr (no_rows_there to q.0 q.1 xs (two_accounts to q.0 (eq_by_cmp account_cmp to q.0) refl not_here))
    ]

pub all_given_then_taken : (held : Held) (from to : List ℕ) (xs : List Asset) → (to ≡ from → ⊥)
    → minus_all (plus_all held (account_rows to xs)) (account_rows from xs) ≡ plus_all (minus_all held (account_rows from xs)) (account_rows to xs)
all_given_then_taken held from to xs other = same_amounts holder_keys _ _ (λ q.
    let taken = amount-minus_all holder_keys (plus_all held (account_rows to xs)) (account_rows from xs) q in
    let given = amount-plus_all holder_keys held (account_rows to xs) q in
    let left = amount-minus_all holder_keys held (account_rows from xs) q in
    let whole = amount-plus_all holder_keys (minus_all held (account_rows from xs)) (account_rows to xs) q in
    elim (none_of_two from to xs other q) [
      | inl none ↦ omega (arith, taken, given, left, whole, none)
      | inr none ↦ omega (arith, taken, given, left, whole, none)
    ])

none_is : (o : Option Instance) → is_none o ≡ true → o ≡ None
none_is None h = refl
none_is (Some x) h = absurd (cc)

-- an account may take amounts in before another gives them, where it may then
pub may_amounts : (held : Held) (from to : List ℕ) (xs : List Asset) → (to ≡ from → ⊥) → (ys : List Asset) → list_all (λ a. is_none (instance_in a.fun)) ys ≡ true
    → MayTakeAll (minus_all held (account_rows from xs)) to ys → MayTakeAll held to ys
may_amounts held from to xs other [] all may = tt
may_amounts held from to xs other (a ∷ ys) all may =
    let both = and_parts (is_none (instance_in a.fun)) (list_all (λ b. is_none (instance_in b.fun)) ys) all in
    let left = amount-minus_all holder_keys held (account_rows from xs) (to, unit_of a) in
    let none = no_rows_there from to (unit_of a) xs other in
    (may_before a.fun to (unit_of a) held (minus_all held (account_rows from xs)) (none_is (instance_in a.fun) both.0) (omega (arith, left, none)) may.0, may_amounts held from to xs other ys both.1 may.1)
