use Rattle.ledgers.proofs.LedgerLaws.{withdrawn_kept, deposited_kept, transferred_kept, sums_kept, others_withdrawn, others_deposited, others_transferred}
use Rattle.ledgers.proofs.laws.law_of_ledgers.Goals as goal

pub returns-clause-withdrawn : goal.returns-clause-withdrawn
returns-clause-withdrawn c = withdrawn_kept

pub returns-clause-deposited : goal.returns-clause-deposited
returns-clause-deposited c = deposited_kept

pub returns-clause-transferred : goal.returns-clause-transferred
returns-clause-transferred c = transferred_kept

pub returns-clause-sums : goal.returns-clause-sums
returns-clause-sums c = sums_kept

pub returns-clause-others_withdrawn : goal.returns-clause-others_withdrawn
returns-clause-others_withdrawn c = others_withdrawn

pub returns-clause-others_deposited : goal.returns-clause-others_deposited
returns-clause-others_deposited c = others_deposited

pub returns-clause-others_transferred : goal.returns-clause-others_transferred
returns-clause-others_transferred c = others_transferred
