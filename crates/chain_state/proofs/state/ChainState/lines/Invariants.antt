use Rattle.std.proofs.Common.{◌≡◌, ◌++◌, map, drop}
use Rattle.exec_base.specs.Host.{burned_line}
use Rattle.chain_state.specs.PartOf.{part_of}
use Rattle.chain_state.specs.Lines.{cause_by}
use Rattle.chain_state.proofs.state.ChainState.lines.Given as goal

abbrev pub invariant-loop-asset : goal.invariant-loop-asset
invariant-loop-asset l = l.lines.items ++ map (burned_line (part_of l.self) (cause_by l.cause)) (drop l.asset-index l.list) ≡ map (burned_line (part_of l.self) (cause_by l.cause)) l.list
