use Rattle.std.proofs.Common.{ap, ◌∙◌}
use Rattle.std.specs.Prelude.{None}
use Rattle.amounts.specs.Amounts.{amount}
use Rattle.ledgers.specs.Ledgers.{Accounts}
use Rattle.ledgers.specs.RowState.{rows_held}
use Rattle.ledgers.proofs.Reading.{fungible_part}
use Rattle.ledgers.proofs.ledger.Ledger.amount.Goals as goal

pub returns : goal.returns
returns c = record {
  amount = c.part.ensures ∙ fungible_part (rows_held c.self.inside.rows) c.args.who.now c.args.id.now
      ∙ ap (λ (l : Accounts). amount l.held (c.args.who.now, (c.args.id.now, None))) c.self.view_is;
}
