use Rattle.std.proofs.Common.{sym}
use Rattle.ledgers.proofs.Reading.{owner_read, owner_unlisted}
use Rattle.ledgers.proofs.rows.Rows.owner.Goals as goal

pub returns-in-Some : goal.returns-in-Some
returns-in-Some c = let r = c.args.self.now in owner_read r.assets r.amounts.entries r.owners.entries r.sums.items c.requires c.in-Some.number c.args.id.now c.args.instance c.owner_in.result (sym c.in-Some.ensures) c.owner_in.ensures

pub returns-in-None : goal.returns-in-None
returns-in-None c = let r = c.args.self.now in owner_unlisted r.assets r.amounts.entries r.owners.entries r.sums.items c.requires c.args.id.now c.args.instance (sym c.in-None.ensures)
