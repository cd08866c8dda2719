use Rattle.std.proofs.Common.{sym, ◌∙◌, arith}
use Rattle.asset_bundles.proofs.Finding.{counted, not_counted}
use Rattle.asset_bundles.proofs.items.count.Goals as goal
use Rattle.asset_bundles.proofs.items.count.Goals.{then-is_instance_of, else-is_instance_of}

pub loop-item-preserved : goal.loop-item-preserved
loop-item-preserved c =
    elim c.if-is_instance_of.branch [
      | then-is_instance_of w ↦ (
        omega (arith, c.loop-item.invariant.0),
        w.number-is ∙ counted _ _ c.loop-item.item-index _ _ c.loop-item-test.true c.item-item.is (sym c.is_instance_of.ensures ∙ w.if-is_instance_of.true) c.loop-item.invariant.1,
      )
      | else-is_instance_of w ↦ (
        omega (arith, c.loop-item.invariant.0),
        w.number-is ∙ not_counted _ _ c.loop-item.item-index _ _ c.loop-item-test.true c.item-item.is (sym c.is_instance_of.ensures ∙ w.if-is_instance_of.false) c.loop-item.invariant.1,
      )
    ]
