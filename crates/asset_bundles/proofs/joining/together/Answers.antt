use Rattle.std.proofs.Common.{ap, ◌++◌, ◌∙◌}
use Rattle.asset_bundles.specs.Portions.{changed, new_to}
use Rattle.asset_bundles.proofs.SumFacts.{is_together}
use Rattle.asset_bundles.proofs.joining.together.Goals as goal

pub returns : goal.returns
returns c =
    is_together c.args.items.now c.args.more.now _ _ c.requires.items c.requires.more c.requires.within
    (c.in_ok-push_new.ensures ∙ ap (λ xs. xs ++ changed (new_to c.args.items.now) c.args.more.now) c.in_ok-all.ensures)
    c.sort_unstable.ensures.permutation c.sort_unstable.ensures.sorted
