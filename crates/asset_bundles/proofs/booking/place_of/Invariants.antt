use Rattle.std.proofs.Common.{◌≡◌, ◌+◌, drop}
use Rattle.std.specs.List.{prefix_len}
use Rattle.asset_bundles.specs.BookRows.{is_other_row}
use Rattle.asset_bundles.proofs.booking.place_of.Given as goal

abbrev pub invariant-loop-i : goal.invariant-loop-i
invariant-loop-i l = prefix_len (is_other_row (l.id, l.kind)) l.rows ≡ l.i + prefix_len (is_other_row (l.id, l.kind)) (drop l.i l.rows)
