use Rattle.std.proofs.Common.{sym, ◌∙◌, arith}
use Rattle.asset_lists.specs.Units.{instance_in}
use Rattle.ledgers.proofs.RowChanges.{held_listed}
use Rattle.ledgers.proofs.Passing.{none_left}
use Rattle.ledgers.proofs.rows.Rows.take.Goals as goal

pub unreachable-requires : goal.unreachable-requires
unreachable-requires c =
    let r = c.args.self.now in
    let none = none_left c.number.result c.in_default.not-Some in
    let nothing = held_listed r.assets r.amounts.entries r.owners.entries r.sums.items c.requires.sound c.args.who.now c.args.asset.now.id (instance_in c.args.asset.now.fun) (sym c.number.ensures ∙ none) in
    omega (arith, nothing, c.requires.some, c.requires.enough)
