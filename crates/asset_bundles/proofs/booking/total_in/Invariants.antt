use Rattle.std.proofs.Common.{◌≡◌, drop}
use Rattle.asset_bundles.specs.BookRows.{total_at}
use Rattle.asset_bundles.proofs.booking.total_in.Given as goal

abbrev pub invariant-loop-row : goal.invariant-loop-row
invariant-loop-row l = total_at (l.id, l.kind) l.cause l.rows ≡ total_at (l.id, l.kind) l.cause (drop l.row-index l.rows)
