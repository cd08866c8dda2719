use Rattle.std.proofs.Common.{◌≡◌, take, flat_map, string_bytes}
use Rattle.chain_state.specs.declared.state.ChainState.{ChainState}
use Rattle.chain_state.specs.PartOf.{part_of}
use Rattle.step_text.specs.Blocks.{chain_traps_text}
use Rattle.report_text.proofs.chains.traps_text.Given as goal

abbrev pub invariant-loop-place : goal.invariant-loop-place
invariant-loop-place l = string_bytes l.text ≡ flat_map (λ (c : ChainState). chain_traps_text (part_of c)) (take l.place l.chains)
