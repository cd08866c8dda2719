-- Totals over a map of which little is known.
use Rattle.std.proofs.Common.{◌≡◌, Bool, true, false, ◌&&◌, if◌then◌else◌, refl, sym, ap, ◌∙◌, arith}
use Rattle.std.specs.Ordering.{eq_by_cmp}
use Rattle.std.specs.declared.cmp.Ordering.{Ordering}
use Rattle.amounts.specs.Rows.{amount_if}
use Rattle.amounts.proofs.Lemmas.Rows.{IsKeyOrder}
use Rattle.amounts.specs.Amounts.{Amounts, amount, total, empty, restriction, with_amount}
use Rattle.amounts.proofs.Lemmas.AmountLaws.{same_amounts, amount-empty, total-empty, total_alike, amount-restriction, total-restriction, amount-with_amount, total-with_amount}

both_same : (b : Bool) → (b && b) ≡ b
both_same true = refl
both_same false = refl

module _ {K : Type 0} {R : K → K → Ordering} (o : IsKeyOrder R) (p : K → Bool) where
  -- nothing at the keys that pass
  pub total_none : (m : Amounts R) → ((k : K) → p k ≡ true → amount m k ≡ 0) → total p m ≡ 0
  total_none m none =
      let nothing : restriction p m ≡ empty = same_amounts o _ _ (λ k. amount-restriction o p m k ∙ by k (p k) refl ∙ sym (amount-empty o k)) in
      sym (total-restriction o p p m ∙ total_alike (λ k. p k && p k) p m (λ k. both_same (p k))) ∙ ap (total p) nothing ∙ total-empty o p
    where
      by : (k : K) (b : Bool) → p k ≡ b → amount_if b (amount m k) ≡ 0
      by k true e = none k e
      by k false e = refl

  -- all at one key
  pub total_one : (m : Amounts R) (k : K) → p k ≡ true → ((q : K) → p q ≡ true → eq_by_cmp R q k ≡ false → amount m q ≡ 0) → total p m ≡ amount m k
  total_one m k passes none =
      let left : total p (with_amount m k 0) ≡ 0 = total_none (with_amount m k 0) (λ q h. amount-with_amount o m k 0 q ∙ by q h (eq_by_cmp R q k) refl) in
      let law = total-with_amount o p m k 0 in
      let here : amount_if (p k) (amount m k) ≡ amount m k = ap (λ b. amount_if b (amount m k)) passes in
      let nothing : amount_if (p k) 0 ≡ 0 = ap (λ b. amount_if b 0) passes in
      omega (arith, left, law, here, nothing)
    where
      by : (q : K) → p q ≡ true → (b : Bool) → eq_by_cmp R q k ≡ b → (if b then 0 else amount m q) ≡ 0
      by q h true e = refl
      by q h false e = none q h e
