use Rattle.std.proofs.Common.{◌≡◌, ◌∙◌, ◌<◌, length, get_or, ap, arith}
use Rattle.std.proofs.lemmas.Result.{err_from_is_err_and}
use Rattle.document_entries.specs.Forms.{next_index}
use Rattle.network_config.proofs.ChainsChecked.{chain_checked, chain_refused, chains_checked}
use Rattle.network_config.proofs.Holding.{stops_with}
use Rattle.network_config.proofs.references.check_chains.Goals as goal

pub returns-in_err-check_chain : goal.returns-in_err-check_chain
returns-in_err-check_chain c =
    let inside : c.loop-at.at < length c.args.chains.now = omega (arith, ap length c.items-chain-items.ensures, c.loop-at-test.true) in
    let here : c.chain-item.result ≡ get_or c.args.chains.now c.loop-at.at c.chain-item.result = c.chain-item.is ∙ ap (λ xs. get_or xs c.loop-at.at c.chain-item.result) c.items-chain-items.ensures in
    let p = err_from_is_err_and c.from_residual.result c.from_residual.ensures.1 in
    rw (p.1, p.2) (stops_with c.in_err-check_chain.field-0.0 _ _ c.in_err-check_chain.ensures (λ fault e. c.loop-at.invariant ∙ chain_refused _ _ _ c.loop-at.at _ _ fault inside here e))

pub loop-at-preserved : goal.loop-at-preserved
loop-at-preserved c =
    let inside : c.loop-at.at < length c.args.chains.now = omega (arith, ap length c.items-chain-items.ensures, c.loop-at-test.true) in
    let here : c.chain-item.result ≡ get_or c.args.chains.now c.loop-at.at c.chain-item.result = c.chain-item.is ∙ ap (λ xs. get_or xs c.loop-at.at c.chain-item.result) c.items-chain-items.ensures in
    let index : c.saturating_add-index.result ≡ next_index c.loop-at.index = c.saturating_add-index.ensures in
    rw index (c.loop-at.invariant ∙ chain_checked _ _ _ c.loop-at.at _ _ inside here c.in_ok-check_chain.ensures)

pub returns : goal.returns
returns c =
    let all : length c.args.chains.now ≡ c.loop-at.at = omega (arith, ap length c.items-chain-items.ensures) in
    c.loop-at.invariant ∙ chains_checked _ _ _ c.loop-at.at _ _ all
