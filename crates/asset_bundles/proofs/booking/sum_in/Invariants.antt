use Rattle.std.proofs.Common.{◌≡◌, drop}
use Rattle.asset_bundles.specs.declared.book.Cause.{Cause}
use Rattle.asset_bundles.specs.BookRows.{total_at}
use Rattle.asset_bundles.proofs.booking.sum_in.Given as goal

abbrev pub invariant-loop-row : goal.invariant-loop-row
invariant-loop-row l = (cause : Cause) → total_at (l.id, l.kind) cause l.rows ≡ total_at (l.id, l.kind) cause (drop l.row-index l.rows)
