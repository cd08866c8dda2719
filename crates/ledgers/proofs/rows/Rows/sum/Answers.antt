use Rattle.std.proofs.Common.{sym}
use Rattle.ledgers.proofs.Reading.{sum_is, sum_none}
use Rattle.ledgers.proofs.rows.Rows.sum.Goals as goal

pub returns-in-Some : goal.returns-in-Some
returns-in-Some c = let r = c.args.self.now in sum_is r.assets r.amounts.entries r.owners.entries r.sums.items c.requires c.in-Some.number (c.args.id.now, c.args.kind) c.index.result.now (sym c.in-Some.ensures) c.index.ensures

pub returns-in-None : goal.returns-in-None
returns-in-None c = let r = c.args.self.now in sym (sum_none r.assets r.amounts.entries r.owners.entries r.sums.items c.requires (c.args.id.now, c.args.kind) (sym c.in-None.ensures))
