-- What rows say after one is written.
use Rattle.std.proofs.Common.{◌≡◌, ℕ, ◌-◌, ◌^◌, ◌<◌, ◌≤◌, Bool, true, false, List, [], ◌∷◌, BTreeMap, refl, sym, ap, ◌∙◌, subst, arith, true≢false}
use Rattle.std.specs.Prelude.{Option, None, Some, unwrap_or, IsSome, is_some, if◌then◌else◌, Result, Ok, Err, OnErr}
use Rattle.std.specs.Ordering.{eq_by_cmp, match_ordering}
use Rattle.std.specs.declared.cmp.Ordering.{Ordering}
use Rattle.std.specs.declared.cmp.Ordering.TheVariants.{Less, Equal, Greater}
use Rattle.std.specs.Map.{lookup, remove_entry, set_value}
use Rattle.std.specs.BTreeMap.{insert_entry}
use Rattle.amounts.proofs.Lemmas.Rows.{IsKeyOrder}
use Rattle.amounts.proofs.Lemmas.{key_same}
use Rattle.ledgers.specs.LedgerRows.{AmountKey, amount_key_cmp, amount_in_row, AreSmall, HasAmountRow}

module _ {K X : Type 0} (R : K → K → Ordering) (k : K) (v : X) (es fs : List (K × X)) (wrote : (q : K) → lookup (eq_by_cmp R q) fs ≡ (if eq_by_cmp R k q then Some v else lookup (eq_by_cmp R q) es)) where
  -- rows stay
  some_after : (b : Bool) (found : Option X) → IsSome found → IsSome (if b then Some v else found)
  some_after true found h = refl
  some_after false found h = h

  pub rows_stay : (q : K) → IsSome (lookup (eq_by_cmp R q) es) → IsSome (lookup (eq_by_cmp R q) fs)
  rows_stay q h = subst (λ o. IsSome o) (sym (wrote q)) (some_after (eq_by_cmp R k q) (lookup (eq_by_cmp R q) es) h)

  -- a new row that says what no row says changes nothing
  pub nothing_said : IsKeyOrder R → lookup (eq_by_cmp R k) es ≡ None → (q : K) → unwrap_or (lookup (eq_by_cmp R q) fs) v ≡ unwrap_or (lookup (eq_by_cmp R q) es) v
  nothing_said o none q =
      ap (λ r. unwrap_or r v) (wrote q)
      ∙ elim (eq_by_cmp R k q) as (λ b. eq_by_cmp R k q ≡ b → unwrap_or (if b then Some v else lookup (eq_by_cmp R q) es) v ≡ unwrap_or (lookup (eq_by_cmp R q) es) v) [
        | true ↦ λ t. ap (λ r. unwrap_or r v) (sym none) ∙ ap (λ x. unwrap_or (lookup (eq_by_cmp R x) es) v) (key_same o k q t)
        | false ↦ λ t. refl
      ] refl

pub small_insert : (k : AmountKey) (v : ℕ) (es : List (AmountKey × ℕ)) → v ≤ 2 ^ 128 - 1 → AreSmall es → AreSmall (insert_entry amount_key_cmp es k v)
small_insert k v [] h small = (h, tt)
small_insert k v (e ∷ es) h small =
    elim (amount_key_cmp k e.0) as (λ r. AreSmall (match_ordering r ((k, v) ∷ e ∷ es) ((e.0, v) ∷ es) (e ∷ insert_entry amount_key_cmp es k v))) [
      | Less ↦ (h, small)
      | Equal ↦ (h, small.1)
      | Greater ↦ (small.0, small_insert k v es h small.1)
    ]

pub small_remove : (test : AmountKey → Bool) (es : List (AmountKey × ℕ)) → AreSmall es → AreSmall (remove_entry test es)
small_remove test [] small = small
small_remove test (e ∷ es) small = elim (test e.0) as (λ b. AreSmall (if b then es else e ∷ remove_entry test es)) [ true ↦ small.1 | false ↦ (small.0, small_remove test es small.1) ]

pub small_set : (test : AmountKey → Bool) (v : ℕ) (es : List (AmountKey × ℕ)) → v ≤ 2 ^ 128 - 1 → AreSmall es → AreSmall (set_value test es v)
small_set test v [] h small = small
small_set test v (e ∷ es) h small =
    elim (test e.0) as (λ b. AreSmall (if b then (e.0, v) ∷ es else e ∷ set_value test es v)) [ true ↦ (h, small.1) | false ↦ (small.0, small_set test v es h small.1) ]

-- a row that is found says what is kept under its key
pub found_says : (rows : List (AmountKey × ℕ)) (number have : ℕ) (who key : List ℕ) → Some have ≡ lookup (eq_by_cmp amount_key_cmp (key, number)) rows → key ≡ who → have ≡ amount_in_row rows (who, number)
found_says rows number have who key found same = ap (λ o. unwrap_or o 0) found ∙ ap (λ w. amount_in_row rows (w, number)) same

-- and a row of the account is one at a key of the same number and account
pub there_too : (rows : List (AmountKey × ℕ)) (number : ℕ) (who key : List ℕ) → key ≡ who → HasAmountRow rows (who, number) → HasAmountRow rows (key, number)
there_too rows number who key same there = subst (λ w. HasAmountRow rows (w, number)) (sym same) there

-- small amounts stay small where one of them is written anew
pub small_written : (old new : List (AmountKey × ℕ)) (test : AmountKey → Bool) (v : ℕ) → new ≡ set_value test old v → v ≤ 2 ^ 128 - 1 → AreSmall old → AreSmall new
small_written old new test v set most small = subst AreSmall (sym set) (small_set test v old most small)

-- what a row of small ones says is small
pub small_at : (rows : List (AmountKey × ℕ)) (k : AmountKey) → AreSmall rows → amount_in_row rows k ≤ 2 ^ 128 - 1
small_at [] k small = omega arith
small_at (row ∷ rows) k small =
    let rest = small_at rows k small.1 in
    elim (eq_by_cmp amount_key_cmp k row.0) as (λ b. unwrap_or (if b then Some row.1 else lookup (eq_by_cmp amount_key_cmp k) rows) 0 ≤ 2 ^ 128 - 1) [ true ↦ small.0 | false ↦ rest ]

pub small_zero : 0 ≤ 2 ^ 128 - 1
small_zero = omega arith

pub none_there : {X : Type 0} (b : Bool) (o : Option X) → b ≡ is_some o → b ≡ false → o ≡ None
none_there b None e f = refl
none_there b (Some x) e f = absurd (true≢false (sym e ∙ f))

pub within_most : (n : ℕ) → n < 2 ^ 128 → n ≤ 2 ^ 128 - 1
within_most n h = omega (arith, h)

-- a row that says what no row says may be taken out
pub nothing_lost : {K X : Type 0} (R : K → K → Ordering) → IsKeyOrder R → (k : K) (v : X) (es fs : List (K × X)) → ((q : K) → lookup (eq_by_cmp R q) fs ≡ (if eq_by_cmp R k q then None else lookup (eq_by_cmp R q) es))
    → unwrap_or (lookup (eq_by_cmp R k) es) v ≡ v → (q : K) → unwrap_or (lookup (eq_by_cmp R q) fs) v ≡ unwrap_or (lookup (eq_by_cmp R q) es) v
nothing_lost R o k v es fs removed says q =
    ap (λ r. unwrap_or r v) (removed q)
    ∙ elim (eq_by_cmp R k q) as (λ b. eq_by_cmp R k q ≡ b → unwrap_or (if b then None else lookup (eq_by_cmp R q) es) v ≡ unwrap_or (lookup (eq_by_cmp R q) es) v) [
      | true ↦ λ t. sym says ∙ ap (λ x. unwrap_or (lookup (eq_by_cmp R x) es) v) (key_same o k q t)
      | false ↦ λ t. refl
    ] refl

pub no_amount : (n : ℕ) → n ≤ 0 → n ≡ 0
no_amount n h = omega (arith, h)

-- a row that is made or written, by the names of the code
pub written_at : (old new with : BTreeMap AmountKey ℕ) → new ≡ with → (number v w : ℕ) (who key : List ℕ) → key ≡ who → v ≡ w
    → ((q : AmountKey) → lookup (eq_by_cmp amount_key_cmp q) with.entries ≡ (if eq_by_cmp amount_key_cmp (key, number) q then Some v else lookup (eq_by_cmp amount_key_cmp q) old.entries))
    → (q : AmountKey) → amount_in_row new.entries q ≡ (if eq_by_cmp amount_key_cmp (who, number) q then w else amount_in_row old.entries q)
written_at old new with is number v w who key same says wrote q =
    ap (λ (m : BTreeMap AmountKey ℕ). amount_in_row m.entries q) is ∙ ap (λ o. unwrap_or o 0) (wrote q) ∙ parted (eq_by_cmp amount_key_cmp (key, number) q)
    ∙ (λ i. if eq_by_cmp amount_key_cmp (same i, number) q then says i else amount_in_row old.entries q)
  where
    parted : (b : Bool) → unwrap_or (if b then Some v else lookup (eq_by_cmp amount_key_cmp q) old.entries) 0 ≡ (if b then v else amount_in_row old.entries q)
    parted true = refl
    parted false = refl

-- what holds in any case holds where an error comes
pub on_err : {A B : Type 0} (r : Result A B) (P : Type 0) → P → OnErr r P
on_err (Ok x) P holds = tt
on_err (Err e) P holds = holds
