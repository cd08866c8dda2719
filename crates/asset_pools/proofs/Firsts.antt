-- The first number of a range that passes a test.
use Rattle.std.proofs.Common.{◌≡◌, ℕ, zero, suc, ◌+◌, ◌<◌, ◌≤◌, Bool, true, false, cond, inl, inr, Option, Some, None, refl, ap, ◌∙◌, arith}
use Rattle.std.specs.Prelude.{find}
use Rattle.std.specs.List.{range_with_len}
use Rattle.std.proofs.lemmas.Bool.{cases_lt}
use Rattle.asset_pools.proofs.Lemmas.ExchangeLaws.{IsFirst}

cond_true : (b : Bool) (x y : Option ℕ) → b ≡ true → cond b x y ≡ x
cond_true b x y h = ap (λ (v : Bool). cond v x y) h

cond_false : (b : Bool) (x y : Option ℕ) → b ≡ false → cond b x y ≡ y
cond_false b x y h = ap (λ (v : Bool). cond v x y) h

pub find-first : (p : ℕ → Bool) (a n k : ℕ) → IsFirst p a n k → find p (range_with_len a n) ≡ Some k
find-first p a zero k first = absurd (omega arith)
find-first p a (suc n) k first =
    elim (cases_lt a k) as (λ _. find p (range_with_len a (suc n)) ≡ Some k) [
      | inl below ↦
          cond_false (p a) (Some a) (find p (range_with_len (a + 1) n)) (first.least a (omega arith) below)
          ∙ find-first p (a + 1) n k (record { from = omega arith; below = omega arith; passes = first.passes; least = λ j from under. first.least j (omega arith) under })
      | inr above ↦
          let same : a ≡ k = omega arith in
          cond_true (p a) (Some a) (find p (range_with_len (a + 1) n)) (ap p same ∙ first.passes) ∙ ap Some same
    ]

pub find-none : (p : ℕ → Bool) (a n : ℕ) → ((j : ℕ) → a ≤ j → j < a + n → p j ≡ false) → find p (range_with_len a n) ≡ None
find-none p a zero none = refl
find-none p a (suc n) none =
    cond_false (p a) (Some a) (find p (range_with_len (a + 1) n)) (none a (omega arith) (omega arith))
    ∙ find-none p (a + 1) n (λ j from below. none j (omega arith) (omega arith))
