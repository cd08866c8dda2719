use Rattle.std.proofs.Common.{◌≡◌, ◌+◌, ◌-◌, ◌*◌, ◌^◌, ◌≤◌, ◌++◌, drop}
use Rattle.std.specs.Prelude.{min}
use Rattle.amounts.specs.Amounts.{rows}
use Rattle.asset_bundles.specs.Traps.{traps_of}
use Rattle.asset_bundles.proofs.pieces.in_pieces.Given as goal

abbrev pub invariant-loop-piece : goal.invariant-loop-piece
invariant-loop-piece l =
    (l.traps.items ++ traps_of (l.count - l.piece) l.number l.origin (drop (l.piece * 20) (rows l.goods)) ≡ traps_of l.count l.first l.origin (rows l.goods))
    × (min (l.number + (l.count - l.piece)) (2 ^ 64 - 1) ≡ min (l.first + l.count) (2 ^ 64 - 1))
    × (l.number ≤ 2 ^ 64 - 1)
