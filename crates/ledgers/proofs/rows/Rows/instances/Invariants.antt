use Rattle.std.proofs.Common.{◌≡◌, ◌++◌}
use Rattle.ledgers.proofs.AccountGoods.{instances_from}
use Rattle.ledgers.proofs.rows.Rows.instances.Given as goal

abbrev pub invariant-loop-key : goal.invariant-loop-key
invariant-loop-key l = l.goods.items ++ instances_from l.self.assets l.who l.key-iterator ≡ instances_from l.self.assets l.who l.self.owners.entries
