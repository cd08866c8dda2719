use Rattle.std.proofs.Common.{Some, ap}
use Rattle.tree_reading.proofs.Headings.{third, fourth, no_other}
use Rattle.tree_reading.proofs.trees.version_of.Goals as goal

pub returns-in-text : goal.returns-in-text
returns-in-text c = λ v e. ap Some (third c.args.text.now v c.in-text.is e)

pub returns-in-text-2 : goal.returns-in-text-2
returns-in-text-2 c = λ v e. ap Some (fourth c.args.text.now v c.in-text-2.is e)

pub returns-in_default : goal.returns-in_default
returns-in_default c = λ v e. absurd (no_other c.args.text.now v c.in_default.not-text c.in_default.not-text-2 e)
