use Rattle.std.proofs.Common.{◌≡◌, sym, ap, subst, ◌∙◌}
use Rattle.asset_bundles.specs.BookRows.{row_key, total_at, total_for}
use Rattle.asset_bundles.specs.declared.book.BookRow.{BookRow}
use Rattle.asset_bundles.specs.Totals.{total_value}
use Rattle.asset_bundles.proofs.Burning.{keys_more, new-push, unburned_none}
use Rattle.asset_bundles.proofs.booking.new_rows.Goals as goal

pub loop-asset-preserved : goal.loop-asset-preserved
loop-asset-preserved c = record {
  keys = keys_more _ c.loop-asset.asset-index _ _ _ _ c.loop-asset-test.true c.asset-item.is (ap row_key c.in_ok-row.ensures) c.in_ok-push.ensures.items c.loop-asset.invariant.keys;
  none = λ k d. subst (λ rs. total_at k d rs ≡ 0) (sym c.in_ok-push.ensures.items) (new-push k d _ _ (λ cause. ap (λ (r : BookRow). total_value (total_for cause r)) c.in_ok-row.ensures ∙ unburned_none c.asset-item.result cause) (c.loop-asset.invariant.none k d));
}
