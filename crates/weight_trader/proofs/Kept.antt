-- Weights by one layer of an instruction, with the handler or appendix in it.
use Rattle.std.proofs.Common.{◌≡◌, ℕ, ◌+◌, ◌*◌, ◌^◌, ◌<◌, ◌≤◌, List, length, get_or, drop, Option, Some, None, refl, ap, subst, arith}
use Rattle.operands.specs.declared.weight.Weight.{Weight}
use Rattle.xcm_program.specs.declared.instruction.Instruction.{Instruction, out-Instruction}
use Rattle.xcm_program.specs.Measure.{deep_count_one, deep_count}
use Rattle.xcm_program.specs.Weights.{kept, required, kept_one, kept_count, weight_one, weight_in}
use Rattle.weight_trader.specs.Sums.{IsSum}
use Rattle.xcm_program.proofs.Lemmas.{total_inside, total-drop, deep_count_inside, kept_one-is, weight_one-is, deep_count_one-kept}

pub kept-at : (p : List Instruction) (k : ℕ) (i : Instruction) (nested : Option (List Instruction)) → k < length p → i ≡ get_or p k i → nested ≡ kept (out-Instruction i)
    → kept_count (drop k p) ≡ 1 + total_inside kept_one nested + kept_count (drop (k + 1) p)
kept-at p k i nested lt at inside =
    let a = total-drop kept_one p k i lt at in
    let b = kept_one-is i in
    let c = ap (total_inside kept_one) inside in
    omega (arith, a, b, c)

pub weight-at : (dimension : Weight → ℕ) (unit : ℕ) (p : List Instruction) (k : ℕ) (i : Instruction) (nested : Option (List Instruction)) → k < length p → i ≡ get_or p k i → nested ≡ kept (out-Instruction i)
    → weight_in dimension unit (drop k p) ≡ unit + dimension (required (out-Instruction i)) + total_inside (weight_one dimension unit) nested + weight_in dimension unit (drop (k + 1) p)
weight-at dimension unit p k i nested lt at inside =
    let a = total-drop (weight_one dimension unit) p k i lt at in
    let b = weight_one-is dimension unit i in
    let c = ap (total_inside (weight_one dimension unit)) inside in
    omega (arith, a, b, c)

pub count-kept : (p : List Instruction) (k : ℕ) (i : Instruction) (nested : Option (List Instruction)) → k < length p → i ≡ get_or p k i → nested ≡ kept (out-Instruction i)
    → 1 + deep_count_inside nested + deep_count (drop (k + 1) p) ≤ deep_count (drop k p)
count-kept p k i nested lt at inside =
    let a = total-drop deep_count_one p k i lt at in
    let b = deep_count_one-kept i in
    let c = ap deep_count_inside inside in
    omega (arith, a, b, c)

-- what is summed up over the instructions before the index k, of the whole program
pub record IsSumBefore (unit : Weight) (whole p : List Instruction) (k instructions ref_time proof_size : ℕ) : Type 0 where
  pub instructions_is : instructions + kept_count (drop k p) ≡ kept_count whole
  pub ref_time_is : ref_time + weight_in (λ w. w.ref_time) unit.ref_time (drop k p) ≡ weight_in (λ w. w.ref_time) unit.ref_time whole
  pub proof_size_is : proof_size + weight_in (λ w. w.proof_size) unit.proof_size (drop k p) ≡ weight_in (λ w. w.proof_size) unit.proof_size whole
  pub few : instructions + deep_count (drop k p) ≤ deep_count whole
  pub short : ref_time + 2 ^ 65 * deep_count (drop k p) ≤ 2 ^ 65 * deep_count whole
  pub small : proof_size + 2 ^ 65 * deep_count (drop k p) ≤ 2 ^ 65 * deep_count whole

-- what is summed up in a handler or appendix
pub record IsSumInside (unit : Weight) (nested : Option (List Instruction)) (instructions ref_time proof_size : ℕ) : Type 0 where
  pub instructions_is : instructions ≡ total_inside kept_one nested
  pub ref_time_is : ref_time ≡ total_inside (weight_one (λ w. w.ref_time) unit.ref_time) nested
  pub proof_size_is : proof_size ≡ total_inside (weight_one (λ w. w.proof_size) unit.proof_size) nested
  pub few : instructions ≤ deep_count_inside nested
  pub short : ref_time ≤ 2 ^ 65 * deep_count_inside nested
  pub small : proof_size ≤ 2 ^ 65 * deep_count_inside nested

inside_of : (unit : Weight) (p : List Instruction) (n r z : ℕ) → IsSum unit p n r z → IsSumInside unit (Some p) n r z
inside_of unit p n r z is = record { instructions_is = is.instructions_is; ref_time_is = is.ref_time_is; proof_size_is = is.proof_size_is; few = is.few; short = is.short; small = is.small }

pub inside_some : (unit : Weight) (p q : List Instruction) (n r z : ℕ) → q ≡ p → IsSum unit q n r z → IsSumInside unit (Some p) n r z
inside_some unit p q n r z same is = inside_of unit p n r z (subst (λ (l : List Instruction). IsSum unit l n r z) same is)

pub inside_none : (unit : Weight) → IsSumInside unit None 0 0 0
inside_none unit = record { instructions_is = refl; ref_time_is = refl; proof_size_is = refl; few = omega arith; short = omega arith; small = omega arith }

-- one instruction more
pub sum_more : (unit : Weight) (whole p : List Instruction) (k n r z : ℕ) (i : Instruction) (nested : Option (List Instruction)) (call : Weight) (a b c m s t : ℕ)
    → k < length p → i ≡ get_or p k i → nested ≡ kept (out-Instruction i) → call ≡ required (out-Instruction i)
    → unit.ref_time < 2 ^ 64 → unit.proof_size < 2 ^ 64 → call.ref_time < 2 ^ 64 → call.proof_size < 2 ^ 64
    → IsSumBefore unit whole p k n r z → IsSumInside unit nested a b c
    → m ≡ n + 1 + a → s ≡ r + unit.ref_time + call.ref_time + b → t ≡ z + unit.proof_size + call.proof_size + c
    → IsSumBefore unit whole p (k + 1) m s t
sum_more unit whole p k n r z i nested call a b c m s t lt at inside calls ur uz cr cz before within m-is s-is t-is =
    let few = count-kept p k i nested lt at inside in
    let e : n + kept_count (drop k p) ≡ kept_count whole = before.instructions_is in
    record {
      instructions_is = (let h = kept-at p k i nested lt at inside in omega (arith, h, e, within.instructions_is, m-is));
      ref_time_is = (let h = weight-at (λ w. w.ref_time) unit.ref_time p k i nested lt at inside in let w = ap (λ (w : Weight). w.ref_time) calls in omega (arith, h, w, before.ref_time_is, within.ref_time_is, s-is));
      proof_size_is = (let h = weight-at (λ w. w.proof_size) unit.proof_size p k i nested lt at inside in let w = ap (λ (w : Weight). w.proof_size) calls in omega (arith, h, w, before.proof_size_is, within.proof_size_is, t-is));
      few = omega (arith, few, before.few, within.few, m-is);
      short = omega (arith, few, before.short, within.short, s-is);
      small = omega (arith, few, before.small, within.small, t-is);
    }

-- what is summed up in what an instruction keeps
abbrev pub Inside : Weight → Instruction → ℕ → ℕ → ℕ → Type 0
Inside unit i a b c = (nested : Option (List Instruction)) × (nested ≡ kept (out-Instruction i)) × IsSumInside unit nested a b c

pub sum_fits : (unit : Weight) (whole p : List Instruction) (k n r z : ℕ) (i : Instruction) (a b c : ℕ) → k < length p → i ≡ get_or p k i → deep_count whole < 2 ^ 32
    → IsSumBefore unit whole p k n r z → Inside unit i a b c → (n + 1 + a < 2 ^ 32) × (r + b < 2 ^ 127) × (z + c < 2 ^ 127)
sum_fits unit whole p k n r z i a b c lt at fits before within =
    let few = count-kept p k i within.0 lt at within.1 in
    let inside = within.2 in (
      omega (arith, few, before.few, inside.few, fits),
      omega (arith, few, before.short, inside.short, fits),
      omega (arith, few, before.small, inside.small, fits),
    )
