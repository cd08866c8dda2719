-- Lemmas on the definitions of `specs/Changed.antt`: what proofs cite.
use Rattle.std.specs.Prelude.{◌≡◌, ℕ, true, false, ◌&&◌, if◌then◌else◌, List, [], ◌∷◌, Some, refl, unwrap_or}
use Rattle.std.specs.Ordering.{eq_by_cmp, is_lt}
use Rattle.std.specs.declared.cmp.Ordering.{Ordering}
use Rattle.std.specs.FinMap.{find, is_sorted}
use Rattle.std.specs.FinMap.Entries.{below_all}
use Rattle.std.proofs.Common.{sym, ap, ◌∙◌, subst, T}
use Rattle.amounts.proofs.Lemmas.Rows.{IsKeyOrder, sum_where-find}
use Rattle.amounts.specs.Amounts.{Amounts, amount, rows}
use Rattle.amounts.proofs.Lemmas.AmountLaws.{rows_sorted, find-rows}
use Rattle.amounts.proofs.Lemmas.{amount-from_rows, key_same}
use Rattle.asset_bundles.specs.Changed.{rows_with, with_amounts}

module _ {K : Type 0} (R : K → K → Ordering) (f : K → ℕ → ℕ) where
  below_all-rows_with : (k : K) (es : List (K × ℕ)) → below_all R k (rows_with f es) ≡ below_all R k es
  below_all-rows_with k [] = refl
  below_all-rows_with k (e ∷ es) = ap (λ b. is_lt (R k e.0) && b) (below_all-rows_with k es)

  pub is_sorted-rows_with : (es : List (K × ℕ)) → is_sorted R (rows_with f es) ≡ is_sorted R es
  is_sorted-rows_with [] = refl
  is_sorted-rows_with (e ∷ es) = λ i. below_all-rows_with e.0 es i && is_sorted-rows_with es i

module _ {K : Type 0} {R : K → K → Ordering} (o : IsKeyOrder R) (f : K → ℕ → ℕ) (none : (k : K) → f k 0 ≡ 0) where
  find-rows_with : (k : K) (es : List (K × ℕ)) → unwrap_or (find R k (rows_with f es)) 0 ≡ f k (unwrap_or (find R k es) 0)
  find-rows_with k [] = sym (none k)
  find-rows_with k (e ∷ es) =
      elim (eq_by_cmp R k e.0) as (λ b. eq_by_cmp R k e.0 ≡ b → unwrap_or (if b then Some (f e.0 e.1) else find R k (rows_with f es)) 0 ≡ f k (unwrap_or (if b then Some e.1 else find R k es) 0)) [
        | true ↦ λ t. ap (λ x. f x e.1) (sym (key_same o k e.0 t))
        | false ↦ λ t. find-rows_with k es
      ] refl

  -- the amount at a key is changed, and nothing comes where nothing is
  pub amount-with_amounts : (m : Amounts R) (k : K) → amount (with_amounts f m) k ≡ f k (amount m k)
  unfolding with_amounts
  amount-with_amounts m k =
      amount-from_rows o (rows_with f (rows m)) k
      ∙ sum_where-find o k (rows_with f (rows m)) (subst T (sym (is_sorted-rows_with R f (rows m))) (rows_sorted m))
      ∙ find-rows_with k (rows m) ∙ ap (f k) (find-rows m k)
