use Rattle.std.proofs.Common.{◌≡◌, ◌++◌, map, drop}
use Rattle.asset_bundles.specs.declared.book.Cause.{Cause}
use Rattle.asset_bundles.specs.Bundles.{assets_of_rows}
use Rattle.exec_base.specs.Host.{burned_line}
use Rattle.chain_state.specs.PartOf.{part_of}
use Rattle.chain_state.proofs.state.ChainState.above_lines.Given as goal

abbrev pub invariant-loop-one : goal.invariant-loop-one
invariant-loop-one l = l.lines.items ++ map (burned_line (part_of l.self) (λ unit. Cause.Saturated)) (assets_of_rows (drop l.one-index l.above)) ≡ map (burned_line (part_of l.self) (λ unit. Cause.Saturated)) (assets_of_rows l.above)
