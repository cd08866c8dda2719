use Rattle.std.proofs.Common.{◌∙◌, arith}
use Rattle.chain_state.specs.Fees.{cleared}
use Rattle.chain_state.proofs.Lemmas.Mapped.{one_more, all_mapped}
use Rattle.chain_state.proofs.fees.rows.clear_all.Goals as goal

pub loop-row-preserved : goal.loop-row-preserved
loop-row-preserved c =
    one_more cleared c.args.rows.now c.loop-row.rows c.loop-row.row-index c.row-item.result c.clear.new.self (omega (arith, c.loop-row-test.true)) c.loop-row.invariant c.clear.ensures

pub returns : goal.returns
returns c = c.loop-row.invariant ∙ all_mapped cleared c.args.rows.now c.loop-row.row-index (omega (arith, c.loop-row-test.false))
