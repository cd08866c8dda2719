-- Whether both versions can say an instruction, by its head and the program inside.
use Rattle.std.proofs.Common.{◌≡◌, ℕ, suc, ◌+◌, ◌<◌, Bool, true, false, ◌&&◌, List, length, get_or, drop, Option, sym, ap, ◌∙◌, add-one, drop-cons}
use Rattle.xcm_program.specs.declared.instruction.Instruction.{Instruction, out-Instruction}
use Rattle.xcm_program.specs.Measure.{inner_of}
use Rattle.xcm_program.specs.Conversions.{names_concrete_ids, is_convertible_one, is_convertible}
use Rattle.xcm_program.proofs.Lemmas.{convertible_inside, is_convertible_one-is}

-- where the head has been looked at, the program inside decides
pub convertible-not : (i : Instruction) → names_concrete_ids (out-Instruction i) ≡ false → false ≡ is_convertible_one i
convertible-not i h = sym (is_convertible_one-is i ∙ ap (λ (b : Bool). b && convertible_inside (inner_of i)) h)

pub convertible-by : (i : Instruction) (nested : Option (List Instruction)) → names_concrete_ids (out-Instruction i) ≡ true → nested ≡ inner_of i → convertible_inside nested ≡ is_convertible_one i
convertible-by i nested h inside = sym (is_convertible_one-is i ∙ ap (λ (b : Bool). b && convertible_inside (inner_of i)) h ∙ ap convertible_inside (sym inside))

-- the instruction at k, and what follows it
pub convertible-at : (p : List Instruction) (k : ℕ) (i : Instruction) → k < length p → i ≡ get_or p k i → is_convertible (drop k p) ≡ is_convertible_one i && is_convertible (drop (k + 1) p)
convertible-at p k i lt at = rw (add-one, drop-cons p k i lt) (ap (λ (j : Instruction). is_convertible_one j && is_convertible (drop (suc k) p)) (sym at))
