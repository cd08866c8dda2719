use Rattle.xcm_format.proofs.Lemmas.OperandLaws.Written.{response_named}
use Rattle.xcm_format.proofs.operand_laws.law_of_writable_operands.Goals as goal

pub returns : goal.returns
returns c = response_named
