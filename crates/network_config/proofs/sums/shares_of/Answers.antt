use Rattle.std.proofs.Common.{◌≡◌, ◌∙◌, List, length, sym, ap, arith}
use Rattle.network_spec.specs.declared.chain.ChainSpec.{ChainSpec}
use Rattle.document_entries.specs.Forms.{next_index}
use Rattle.network_config.specs.Sums.{shares_of}
use Rattle.network_config.proofs.Summing.{chain_added, chains_end}
use Rattle.network_config.proofs.sums.shares_of.Goals as goal

pub loop-chain-preserved : goal.loop-chain-preserved
loop-chain-preserved c =
    let index : c.saturating_add-index.result ≡ next_index c.loop-chain.index = c.saturating_add-index.ensures in
    rw (c.in_ok-add_shares.ensures, index, c.path.ensures, c.items.ensures) (sym (chain_added _ _ c.loop-chain.chain-index _ _ _ c.loop-chain-test.true c.chain-item.is) ∙ c.loop-chain.invariant)

pub returns : goal.returns
returns c =
    let all : length c.items-chains.result.now ≡ c.loop-chain.chain-index = omega arith in
    sym (chains_end _ _ c.loop-chain.chain-index _ _ all) ∙ c.loop-chain.invariant ∙ ap (λ (cs : List ChainSpec). shares_of c.args.network.now.network 0 cs) c.items-chains.ensures
