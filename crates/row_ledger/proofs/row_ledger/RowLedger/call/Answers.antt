use Rattle.row_ledger.proofs.Lemmas.{held_after, held_in_part}
use Rattle.row_ledger.proofs.row_ledger.RowLedger.call.Goals as goal

pub returns-clause-held : goal.returns-clause-held
returns-clause-held c =
    let b = c.args.self.now in
    let now = c.dispatch.new.m in
    held_after b.rows.items now.rows.items b.ledger.listed now.ledger.listed b.ledger.held now.ledger.held c.dispatch.ensures.beside.other c.args.who.now c.args.call.now c.dispatch.result c.dispatch.ensures.ok

pub returns-clause-err : goal.returns-clause-err
returns-clause-err c =
    let b = c.args.self.now in
    let now = c.dispatch.new.m in
    held_in_part b.rows.items now.rows.items b.ledger.listed now.ledger.listed b.ledger.held now.ledger.held c.dispatch.ensures.beside.other c.args.who.now c.args.call.now c.dispatch.result c.dispatch.ensures.err
