use Rattle.transactors.proofs.Rows.{row_of_kinds}
use Rattle.transactors.proofs.laws.law_of_kinds_covering_rows.Goals as goal

pub returns : goal.returns
returns c = row_of_kinds
