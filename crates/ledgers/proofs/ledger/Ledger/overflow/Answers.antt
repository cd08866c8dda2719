use Rattle.std.proofs.Common.{ap, ◌∙◌}
use Rattle.ledgers.specs.Ledgers.{Accounts, overflow}
use Rattle.ledgers.proofs.ledger.Ledger.overflow.Goals as goal

pub returns : goal.returns
returns c = record {
  overflow = c.overflow.ensures ∙ ap (λ (l : Accounts). overflow l.held c.args.who.now c.args.list.now) c.self.view_is;
}
