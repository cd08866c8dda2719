use Rattle.std.proofs.Common.{◌≡◌, ◌+◌, drop}
use Rattle.std.specs.Prelude.{None}
use Rattle.std.specs.List.{prefix_len}
use Rattle.asset_bundles.specs.Portions.{is_other}
use Rattle.asset_bundles.proofs.spending.place_of_amount.Given as goal

abbrev pub invariant-loop-i : goal.invariant-loop-i
invariant-loop-i l = prefix_len (is_other (l.id, None)) l.items ≡ l.i + prefix_len (is_other (l.id, None)) (drop l.i l.items)
