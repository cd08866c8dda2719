use Rattle.xcm_program.specs.declared.instruction.Instruction.{out-Instruction}
use Rattle.xcm_program.proofs.Lemmas.NamesFit.{names_fit}
use Rattle.step_text.proofs.laws.law_of_names_by_number.Goals as goal

pub returns : goal.returns
returns c x = names_fit (out-Instruction x)
