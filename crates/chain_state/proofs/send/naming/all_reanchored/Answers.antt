use Rattle.std.proofs.Common.{◌≡◌, sym, subst, drop}
use Rattle.asset_lists.specs.Moves.{all_reanchored}
use Rattle.asset_lists.proofs.Lemmas.Naming.{behind, goes_on_named, stops}
use Rattle.chain_state.proofs.send.naming.all_reanchored.Goals as goal

pub loop-asset-preserved : goal.loop-asset-preserved
loop-asset-preserved c =
    let target = c.args.target.now in
    let context = c.args.context.now in
    let list = c.args.list.now in
    goes_on_named target context list _ _ c.loop-asset.asset-index _ c.loop-asset-test.true c.asset-item.is
    (c.push_reanchored.ensures.named c.if-not-push_reanchored.false)
    (subst (λ ys. all_reanchored target context list ≡ behind ys (all_reanchored target context (drop c.loop-asset.asset-index list)))
    (sym c.in_ok-make_room.ensures.items) c.loop-asset.invariant)

pub returns-then-not-push_reanchored : goal.returns-then-not-push_reanchored
returns-then-not-push_reanchored c =
    stops c.args.target.now c.args.context.now c.args.list.now _ c.loop-asset.asset-index _ c.loop-asset-test.true c.asset-item.is
    (c.push_reanchored.ensures.unnamed c.if-not-push_reanchored.true) c.loop-asset.invariant
