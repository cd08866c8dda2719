use Rattle.std.proofs.Common.{◌≡◌, ◌∙◌, length, sym, arith}
use Rattle.network_validity.proofs.Rising.{risen, all_risen}
use Rattle.network_validity.proofs.valid.rises.Goals as goal

pub returns-then-not-comes_before : goal.returns-then-not-comes_before
returns-then-not-comes_before c = sym (c.loop-chain.invariant ∙ risen _ _ c.loop-chain.chain-index _ _ c.loop-chain-test.true c.chain-item.is (sym c.comes_before.ensures ∙ c.if-not-comes_before.true))

pub loop-chain-preserved : goal.loop-chain-preserved
loop-chain-preserved c = c.loop-chain.invariant ∙ risen _ _ c.loop-chain.chain-index _ _ c.loop-chain-test.true c.chain-item.is (sym c.comes_before.ensures ∙ c.if-not-comes_before.false)

pub returns : goal.returns
returns c = let all : length c.args.chains.now ≡ c.loop-chain.chain-index = omega arith in sym (c.loop-chain.invariant ∙ all_risen _ _ c.loop-chain.chain-index all)
