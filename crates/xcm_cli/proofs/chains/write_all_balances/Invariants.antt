use Rattle.std.proofs.Common.{take, flat_map, Ok, None}
use Rattle.std.specs.declared.alloc.AllocError.{AllocError}
use Rattle.chain_state.specs.declared.state.ChainState.{ChainState}
use Rattle.chain_state.specs.PartOf.{part_of}
use Rattle.step_text.specs.Blocks.{balances_of}
use Rattle.xcm_cli.specs.Pieces.{WritesInPieces}
use Rattle.xcm_cli.proofs.chains.write_all_balances.Given as goal

abbrev pub invariant-loop-chain : goal.invariant-loop-chain
invariant-loop-chain g l =
    WritesInPieces {E = AllocError} (flat_map (λ (d : ChainState). balances_of (part_of d)) (take l.chain-index l.chains))
    (g.O.Sink.written l.initial.out) (g.O.Sink.written l.out) (g.O.Sink.faults l.initial.out) (g.O.Sink.faults l.out) (Ok None)
