use Rattle.input_lines.proofs.Lemmas.{concat-lines_of}
use Rattle.input_lines.proofs.Cut.{are_lines, only_cut}
use Rattle.input_lines.proofs.laws.law_of_unique_lines.Goals as goal

pub returns-clause-lines : goal.returns-clause-lines
returns-clause-lines c = are_lines

pub returns-clause-whole : goal.returns-clause-whole
returns-clause-whole c = concat-lines_of

pub returns-clause-only : goal.returns-clause-only
returns-clause-only c = only_cut
