-- Lemmas on the definitions of `specs/Entries.antt`: what proofs cite.
use Rattle.std.specs.Prelude.{◌≡◌, ℕ, Bool, true, false, if◌then◌else◌, List, [], ◌∷◌, refl, Option, Some, unwrap_or}
use Rattle.std.specs.Ordering.{eq_by_cmp}
use Rattle.std.specs.declared.cmp.Ordering.{Ordering}
use Rattle.std.specs.List.Sorted.{IsStrictlySortedBy}
use Rattle.std.specs.Map.{keys_of, lookup}
use Rattle.std.specs.FinMap.{find}
use Rattle.std.proofs.Common.{sym, ap, ◌∙◌}
use Rattle.amounts.specs.Rows.{IsPositive, sum_where}
use Rattle.amounts.proofs.Lemmas.Rows.{IsKeyOrder, sum_where-find, is_sorted_of_keys}
use Rattle.amounts.specs.Amounts.{Amounts, amount, rows, total, with_amount, from_rows}
use Rattle.amounts.proofs.Lemmas.AmountLaws.{amount-empty, amount-with_amount, same_amounts, find-rows}
use Rattle.amounts.proofs.Lemmas.{amount-from_rows, rows-from_rows, total-from_rows}
use Rattle.amounts.specs.Entries.{from_entries}

unwrapped : (b : Bool) (n : ℕ) (o : Option ℕ) → (if b then n else unwrap_or o 0) ≡ unwrap_or (if b then Some n else o) 0
unwrapped true n o = refl
unwrapped false n o = refl

unwrapped_either : (b : Bool) (n o : Option ℕ) → (if b then unwrap_or n 0 else unwrap_or o 0) ≡ unwrap_or (if b then n else o) 0
unwrapped_either true n o = refl
unwrapped_either false n o = refl

lookup-find : {K : Type 0} (R : K → K → Ordering) (k : K) (es : List (K × ℕ)) → lookup (eq_by_cmp R k) es ≡ find R k es
lookup-find R k [] = refl
lookup-find R k (e ∷ es) = ap (λ o. if eq_by_cmp R k e.0 then Some e.1 else o) (lookup-find R k es)

module _ {K : Type 0} {R : K → K → Ordering} (o : IsKeyOrder R) where
  pub amount-from_entries : (es : List (K × ℕ)) (q : K) → amount (from_entries {R = R} es) q ≡ unwrap_or (lookup (eq_by_cmp R q) es) 0
  unfolding from_entries
  amount-from_entries [] q = amount-empty o q
  amount-from_entries (e ∷ es) q =
      amount-with_amount o (from_entries es) e.0 e.1 q ∙ ap (λ n. if eq_by_cmp R q e.0 then e.1 else n) (amount-from_entries es q) ∙ unwrapped (eq_by_cmp R q e.0) e.1 (lookup (eq_by_cmp R q) es)

  -- entries that changed at one key alone: a new value there, or none
  pub from_entries_changed : (es fs : List (K × ℕ)) (k : K) (v : Option ℕ) → ((q : K) → lookup (eq_by_cmp R q) fs ≡ (if eq_by_cmp R q k then v else lookup (eq_by_cmp R q) es))
      → from_entries {R = R} fs ≡ with_amount (from_entries es) k (unwrap_or v 0)
  from_entries_changed es fs k v changed = same_amounts o _ _ (λ q.
      amount-from_entries fs q ∙ ap (λ f. unwrap_or f 0) (changed q) ∙ sym (unwrapped_either (eq_by_cmp R q k) v (lookup (eq_by_cmp R q) es))
      ∙ ap (λ n. if eq_by_cmp R q k then unwrap_or v 0 else n) (sym (amount-from_entries es q)) ∙ sym (amount-with_amount o (from_entries es) k (unwrap_or v 0) q))

  pub from_entries-rows : (m : Amounts R) → from_entries (rows m) ≡ m
  from_entries-rows m = same_amounts o _ _ (λ q. amount-from_entries (rows m) q ∙ ap (λ f. unwrap_or f 0) (lookup-find R q (rows m)) ∙ find-rows m q)

  -- where the keys strictly rise, no key is there twice, and the entries may be added up
  pub from_entries-from_rows : (es : List (K × ℕ)) → IsStrictlySortedBy R (keys_of es) → from_entries {R = R} es ≡ from_rows es
  from_entries-from_rows es rising = same_amounts o _ _ (λ q.
      amount-from_entries es q ∙ ap (λ f. unwrap_or f 0) (lookup-find R q es) ∙ sym (sum_where-find o q es (is_sorted_of_keys R es rising)) ∙ sym (amount-from_rows o es q))

  pub rows-from_entries : (es : List (K × ℕ)) → IsStrictlySortedBy R (keys_of es) → IsPositive es → rows (from_entries {R = R} es) ≡ es
  rows-from_entries es rising positive = ap rows (from_entries-from_rows es rising) ∙ rows-from_rows o es (is_sorted_of_keys R es rising) positive

  pub total-from_entries : (p : K → Bool) (es : List (K × ℕ)) → IsStrictlySortedBy R (keys_of es) → total p (from_entries {R = R} es) ≡ sum_where p es
  total-from_entries p es rising = ap (total p) (from_entries-from_rows es rising) ∙ total-from_rows o p es
