use Rattle.std.proofs.Common.{ap, ◌∙◌}
use Rattle.ledgers.specs.Ledgers.{Accounts, shortage}
use Rattle.ledgers.proofs.ledger.Ledger.shortage.Goals as goal

pub returns : goal.returns
returns c = record {
  shortage = c.shortage.ensures ∙ ap (λ (l : Accounts). shortage l.held c.args.who.now c.args.list.now) c.self.view_is;
}
