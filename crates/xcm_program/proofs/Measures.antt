-- The measures of an instruction, by the program that was found inside.
use Rattle.std.proofs.Common.{◌≡◌, ◌+◌, List, Option, ap, ◌∙◌}
use Rattle.xcm_program.specs.declared.instruction.Instruction.{Instruction, out-Instruction}
use Rattle.xcm_program.specs.Measure.{inner_of, depth_one, sending, sends_one}
use Rattle.xcm_program.proofs.Lemmas.{depth_inside, depth_one-is, sends_inside, sends_one-is}

pub deep_inside : (i : Instruction) (nested : Option (List Instruction)) → inner_of i ≡ nested → depth_one i ≡ depth_inside nested
deep_inside i nested inside = depth_one-is i ∙ ap depth_inside inside

pub sent_inside : (i : Instruction) (nested : Option (List Instruction)) → inner_of i ≡ nested → sends_one i ≡ sending (out-Instruction i) + sends_inside nested
sent_inside i nested inside = sends_one-is i ∙ ap (λ (o : Option (List Instruction)). sending (out-Instruction i) + sends_inside o) inside
