-- Walks past programs, step by step.
use Rattle.std.proofs.Common.{◌≡◌, ◌∙◌, ℕ, zero, suc, ◌+◌, ◌-◌, ◌^◌, ◌<◌, ◌≤◌, List, Some, None, refl, sym, ap, arith}
use Rattle.scale_codec.specs.Reading.{below_at}
use Rattle.operands.specs.declared.version.Version.{Version}
use Rattle.xcm_explain.specs.declared.stop.Expected.{Expected}
use Rattle.xcm_explain.specs.declared.stop.Expected.TheVariants as expected
use Rattle.xcm_explain.specs.declared.stop.Walked.{Walked}
use Rattle.xcm_explain.specs.declared.stop.Walked.TheVariants.{Past, Stopped}
use Rattle.xcm_explain.specs.Stops.{Walk, walk_program, walk_instruction, walk_instructions, walk_counted}

pub too_deep : (v : Version) (d left : ℕ) (bytes : List ℕ) → d ≡ 0 → walk_program v d left bytes ≡ (Stopped expected.NoDeeper, bytes)
unfolding walk_program
too_deep v d left bytes e = rw e refl

counted_is : (v : Version) (d left : ℕ) (bytes : List ℕ) → (d ≡ 0 → ⊥) → walk_program v d left bytes ≡ walk_counted v (walk_program v (d - 1)) left bytes (below_at (2 ^ 32) bytes)
unfolding walk_program
counted_is v zero left bytes n = absurd (n refl)
counted_is v (suc d) left bytes n = let e : suc d - 1 ≡ d = omega arith in rw e refl

pub no_count : (v : Version) (d left : ℕ) (bytes : List ℕ) → (d ≡ 0 → ⊥) → below_at (2 ^ 32) bytes ≡ None → walk_program v d left bytes ≡ (Stopped expected.Count, bytes)
no_count v d left bytes n e = counted_is v d left bytes n ∙ ap (walk_counted v (walk_program v (d - 1)) left bytes) e

pub begins : (v : Version) (d left : ℕ) (bytes : List ℕ) (n : ℕ) (rest : List ℕ) → (d ≡ 0 → ⊥) → below_at (2 ^ 32) bytes ≡ Some (n, rest)
    → walk_instructions v (walk_program v (d - 1)) (n - 0) left rest ≡ walk_program v d left bytes
begins v d left bytes n rest some e =
    let k : n - 0 ≡ n = omega arith in
    rw k (sym (counted_is v d left bytes some ∙ ap (walk_counted v (walk_program v (d - 1)) left bytes) e))

module _ (v : Version) (inside : Walk) (count i left : ℕ) (bytes : List ℕ) (whole : Walked × List ℕ) where
  pub goes_on : (after : ℕ) (rest : List ℕ) → i < count → (Past after, rest) ≡ walk_instruction v inside left bytes → walk_instructions v inside (count - i) left bytes ≡ whole
      → walk_instructions v inside (count - (i + 1)) after rest ≡ whole
  unfolding walk_instructions
  goes_on after rest lt one so_far =
      let k : count - i ≡ suc (count - (i + 1)) = omega arith in
      let next : walk_instructions v inside (count - i) left bytes ≡ walk_instructions v inside (count - (i + 1)) after rest = rw (k, ← one) refl in
      sym next ∙ so_far

  pub stops : (what : Expected) (rest : List ℕ) → i < count → (Stopped what, rest) ≡ walk_instruction v inside left bytes → walk_instructions v inside (count - i) left bytes ≡ whole
      → (Stopped what, rest) ≡ whole
  unfolding walk_instructions
  stops what rest lt one so_far =
      let k : count - i ≡ suc (count - (i + 1)) = omega arith in
      let next : walk_instructions v inside (count - i) left bytes ≡ (Stopped what, rest) = rw (k, ← one) refl in
      sym next ∙ so_far

  pub ends : count ≤ i → walk_instructions v inside (count - i) left bytes ≡ whole → (Past left, bytes) ≡ whole
  unfolding walk_instructions
  ends le so_far =
      let k : count - i ≡ 0 = omega arith in
      let next : walk_instructions v inside (count - i) left bytes ≡ (Past left, bytes) = rw k refl in
      sym next ∙ so_far
