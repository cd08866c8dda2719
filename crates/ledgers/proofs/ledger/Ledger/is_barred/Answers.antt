use Rattle.std.proofs.Common.{ap, ◌∙◌}
use Rattle.ledgers.specs.Ledgers.{Accounts, is_barred}
use Rattle.ledgers.specs.RowState.{rows_held}
use Rattle.ledgers.proofs.Reading.{barred_or_not}
use Rattle.ledgers.proofs.ledger.Ledger.is_barred.Goals as goal

pub returns : goal.returns
returns c = record {
  barred = c.is_some.ensures ∙ barred_or_not (rows_held c.self.inside.rows) c.args.who.now c.args.asset.now c.barred.result c.barred.ensures
      ∙ ap (λ (l : Accounts). is_barred l.held c.args.who.now c.args.asset.now) c.self.view_is;
}
