use Rattle.std.proofs.Common.{◌+◌, ap, ◌∙◌}
use Rattle.std.specs.Prelude.{min}
use Rattle.asset_bundles.specs.Totals.{total_value}
use Rattle.asset_bundles.specs.Books.{most_burned}
use Rattle.asset_bundles.specs.Traps.{trapped_amount}
use Rattle.asset_bundles.proofs.SumRows.{counted_more, no_more_than, counted_all}
use Rattle.asset_bundles.proofs.sums.counted.Goals as goal

pub loop-trap-preserved : goal.loop-trap-preserved
loop-trap-preserved c =
    let step = c.plus-sum.ensures ∙ ap (λ n. min (total_value c.loop-trap.sum + n) most_burned) c.total.ensures in (
      counted_more c.args.id.now c.args.kind c.loop-trap.trap-iterator c.next.new.self c.in-Some.trap.now _ _ (trapped_amount c.args.id.now c.args.kind c.args.traps.now) c.in-Some.ensures.steps step c.loop-trap.invariant.0,
      no_more_than _ _ step,
    )

pub returns : goal.returns
returns c = counted_all c.args.id.now c.args.kind c.loop-trap.trap-iterator _ _ c.in-None.ensures.steps.0 c.loop-trap.invariant.1 c.loop-trap.invariant.0
