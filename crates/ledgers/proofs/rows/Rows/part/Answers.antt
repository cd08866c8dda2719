use Rattle.std.proofs.Common.{sym, ◌∙◌}
use Rattle.ledgers.proofs.Reading.{part_is, part_none}
use Rattle.ledgers.proofs.rows.Rows.part.Goals as goal

pub returns-in-Some : goal.returns-in-Some
returns-in-Some c = let r = c.args.self.now in c.amount_in.ensures ∙ part_is r.assets r.amounts.entries r.owners.entries r.sums.items c.requires c.in-Some.number c.args.who.now c.args.id.now c.args.kind (sym c.in-Some.ensures)

pub returns-in-None : goal.returns-in-None
returns-in-None c = let r = c.args.self.now in sym (part_none r.assets r.amounts.entries r.owners.entries r.sums.items c.requires c.args.who.now (c.args.id.now, c.args.kind) (sym c.in-None.ensures))
