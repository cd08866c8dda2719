use Rattle.std.proofs.Common.{◌≡◌, ◌∙◌, ap, Ok}
use Rattle.chain_state.specs.declared.state.ChainState.{ChainState}
use Rattle.chain_state.specs.PartOf.{part_of}
use Rattle.step_text.specs.Blocks.{balances_of}
use Rattle.xcm_cli.proofs.Pieces.{next_piece, fails_at, refused_at}
use Rattle.xcm_cli.proofs.chains.write_all_balances.Goals as goal

pub loop-chain-preserved : goal.loop-chain-preserved
loop-chain-preserved g c =
    next_piece (λ (d : ChainState). balances_of (part_of d)) c.args.chains.now c.loop-chain.chain-index c.chain-item.result c.loop-chain-test.true c.chain-item.is
    _ _ _ _ _ _ c.loop-chain.invariant c.write_chain_balances.result c.write_chain_balances.ensures (c.in-Ok-None.is ∙ ap Ok c.in-Ok-None.field-0-is)

pub returns-in-Ok-Some : goal.returns-in-Ok-Some
returns-in-Ok-Some g c =
    fails_at (λ (d : ChainState). balances_of (part_of d)) c.args.chains.now c.loop-chain.chain-index c.chain-item.result c.loop-chain-test.true c.chain-item.is
    _ _ _ _ _ _ c.loop-chain.invariant c.write_chain_balances.result c.write_chain_balances.ensures c.in-Ok-Some.status (c.in-Ok-Some.is ∙ ap Ok c.in-Ok-Some.field-0-is)

pub returns-in-Err : goal.returns-in-Err
returns-in-Err g c =
    refused_at (λ (d : ChainState). balances_of (part_of d)) c.args.chains.now c.loop-chain.chain-index c.chain-item.result c.loop-chain-test.true c.chain-item.is
    _ _ _ _ _ _ c.loop-chain.invariant c.write_chain_balances.result c.write_chain_balances.ensures c.in-Err.refused
