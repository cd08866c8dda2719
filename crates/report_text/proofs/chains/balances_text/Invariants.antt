use Rattle.std.proofs.Common.{◌≡◌, take, flat_map, string_bytes}
use Rattle.chain_state.specs.declared.state.ChainState.{ChainState}
use Rattle.chain_state.specs.PartOf.{part_of}
use Rattle.step_text.specs.Blocks.{balances_of}
use Rattle.report_text.proofs.chains.balances_text.Given as goal

abbrev pub invariant-loop-place : goal.invariant-loop-place
invariant-loop-place l = string_bytes l.text ≡ flat_map (λ (c : ChainState). balances_of (part_of c)) (take l.place l.chains)
