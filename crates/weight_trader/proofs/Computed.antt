-- When a program has a weight, from its sums.
use Rattle.std.proofs.Common.{◌≡◌, ℕ, ◌<◌, ◌≤◌, ◌^◌, Bool, true, false, ◌&&◌, List, Some, None, refl, sym, ap, ◌∙◌, arith}
use Rattle.std.specs.Prelude.{nat_le, nat_lt, if◌then◌else◌}
use Rattle.operands.specs.declared.weight.Weight.{Weight}
use Rattle.xcm_program.specs.declared.rule.WeightRule.{WeightRule}
use Rattle.xcm_program.specs.declared.instruction.Instruction.{Instruction}
use Rattle.xcm_program.specs.Weights.{kept_count, ref_time_of, proof_size_of, weight_of}
use Rattle.weight_trader.specs.Sums.{IsSum}
use Rattle.plain_lists.proofs.Lemmas.Facts.{at_most_told as at_most, below_told as below}

if_three : (a b c : Bool) (w : Weight) → a ≡ true → b ≡ true → c ≡ true → (if a && b && c then Some w else None) ≡ Some w
if_three true true true w x y z = refl
if_three true true false w x y z = absurd (cc)
if_three true false c w x y z = absurd (cc)
if_three false b c w x y z = absurd (cc)

if_not_first : (a b c : Bool) (w : Weight) → a ≡ false → (if a && b && c then Some w else None) ≡ None
if_not_first true b c w x = absurd (cc)
if_not_first false b c w x = refl

if_not_second : (a b c : Bool) (w : Weight) → b ≡ false → (if a && b && c then Some w else None) ≡ None
if_not_second true true c w x = absurd (cc)
if_not_second true false c w x = refl
if_not_second false b c w x = refl

if_not_third : (a b c : Bool) (w : Weight) → c ≡ false → (if a && b && c then Some w else None) ≡ None
if_not_third true true true w x = absurd (cc)
if_not_third true true false w x = refl
if_not_third true false c w x = refl
if_not_third false b c w x = refl

not_at_most : (a b : ℕ) → b < a → nat_le a b ≡ false
not_at_most a b h = grind (arith, h)

not_below : (a b : ℕ) → (a < b → ⊥) → nat_lt a b ≡ false
not_below a b h = grind (arith, h)

module _ (rule : WeightRule) (p : List Instruction) (n r z : ℕ) (is : IsSum rule.unit p n r z) where
  pub weighed : (ref_time proof_size : ℕ) → n ≤ rule.max_instructions → r < 2 ^ 64 → z < 2 ^ 64 → ref_time ≡ r → proof_size ≡ z
      → weight_of rule p ≡ Some (record { ref_time = ref_time; proof_size = proof_size })
  unfolding weight_of
  weighed ref_time proof_size few short small r-is z-is =
      let few' : kept_count p ≤ rule.max_instructions = omega (arith, is.instructions_is, few) in
      let short' : ref_time_of rule p < 2 ^ 64 = omega (arith, is.ref_time_is, short) in
      let small' : proof_size_of rule p < 2 ^ 64 = omega (arith, is.proof_size_is, small) in
      if_three _ _ _ _ (at_most _ _ few') (below _ _ short') (below _ _ small')
      ∙ ap (λ (t : ℕ). Some (record { ref_time = t; proof_size = proof_size_of rule p })) (sym (r-is ∙ is.ref_time_is))
      ∙ ap (λ (s : ℕ). Some (record { ref_time = ref_time; proof_size = s })) (sym (z-is ∙ is.proof_size_is))

  pub too_many : rule.max_instructions < n → weight_of rule p ≡ None
  unfolding weight_of
  too_many many = let many' : rule.max_instructions < kept_count p = omega (arith, is.instructions_is, many) in if_not_first _ _ _ _ (not_at_most _ _ many')

  pub too_long : (r < 2 ^ 64 → ⊥) → weight_of rule p ≡ None
  unfolding weight_of
  too_long long = let long' : ref_time_of rule p < 2 ^ 64 → ⊥ = λ h. long (omega (arith, is.ref_time_is, h)) in if_not_second _ _ _ _ (not_below _ _ long')

  pub too_large : (z < 2 ^ 64 → ⊥) → weight_of rule p ≡ None
  unfolding weight_of
  too_large large = let large' : proof_size_of rule p < 2 ^ 64 → ⊥ = λ h. large (omega (arith, is.proof_size_is, h)) in if_not_third (nat_le (kept_count p) rule.max_instructions) (nat_lt (ref_time_of rule p) (2 ^ 64)) _ (record { ref_time = ref_time_of rule p; proof_size = proof_size_of rule p }) (not_below _ _ large')
