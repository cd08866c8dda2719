use Rattle.std.proofs.Common.{◌≡◌, ◌++◌, drop}
use Rattle.exec_rules.specs.Reports.{named_assets}
use Rattle.exec_transfers.proofs.naming.named_assets.Given as goal

abbrev pub invariant-loop-item : goal.invariant-loop-item
invariant-loop-item l = named_assets l.target l.context l.items ≡ l.named.items ++ named_assets l.target l.context (drop l.item-index l.items)
