use Rattle.std.proofs.Common.{◌≡◌, ◌<◌, ◌≤◌, length, ap, ◌∙◌, arith}
use Rattle.asset_bundles.specs.Portions.{asset_with}
use Rattle.asset_bundles.proofs.Growing.{first_more, first_all}
use Rattle.asset_bundles.proofs.Naming.{written_back}
use Rattle.asset_bundles.proofs.joining.grow.Goals as goal

pub loop-item-preserved : goal.loop-item-preserved
loop-item-preserved c =
    let len : length c.deref_mut-item-items.result.now ≡ length c.args.items.now.items = ap length c.deref_mut-item-items.ensures.value in
    let inside : c.loop-item.item-index < length c.args.items.now.items = omega (arith, c.loop-item-test.true, len) in
    first_more c.args.more.now c.args.items.now.items _ c.loop-item.item-index _ _ inside c.loop-item.invariant (c.set_amount.ensures ∙ ap (asset_with _) c.grown_amount-amount.ensures)

pub returns : goal.returns
returns c =
    let len : length c.deref_mut-item-items.result.now ≡ length c.args.items.now.items = ap length c.deref_mut-item-items.ensures.value in
    let all : length c.args.items.now.items ≤ length c.loop-item.item-items = omega (arith, len, c.loop-item.auto.item-items) in
    let past : length c.args.items.now.items ≤ c.loop-item.item-index = omega (arith, c.loop-item-test.false, len) in
    let fits : length c.loop-item.item-items ≤ c.args.items.now.len = omega (arith, len, c.loop-item.auto.item-items, c.deref_mut-item-items.ensures.len) in
    written_back c.args.items.now.len c.loop-item.item-items c.args.items.now.items all fits ∙ c.loop-item.invariant ∙ first_all c.args.more.now c.args.items.now.items c.loop-item.item-index past c.requires.positive
