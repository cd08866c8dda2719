use Rattle.std.proofs.Common.{◌∙◌}
use Rattle.supply_audit.proofs.Naming.{fungible_account}
use Rattle.supply_audit.proofs.places.account.Goals as goal

pub returns-in-Fungible : goal.returns-in-Fungible
returns-in-Fungible c = rw c.in-Fungible.is (c.amount.ensures.amount ∙ fungible_account c.args.ledger.now.held c.args.who.now c.args.id.now)
