use Rattle.std.proofs.Common.{ap, ◌∙◌}
use Rattle.asset_bundles.specs.Portions.{changed, left_of}
use Rattle.asset_bundles.proofs.Parts.{taken_list, left_list}
use Rattle.asset_bundles.proofs.portions.parted.Goals as goal

pub returns-clause-taken : goal.returns-clause-taken
returns-clause-taken c = taken_list c.args.filter.now c.args.items.now _ c.in_ok-taken.ensures.listed c.requires c.in_ok-taken.ensures.taken

pub returns-clause-left : goal.returns-clause-left
returns-clause-left c =
    left_list c.args.filter.now c.args.items.now c.in_ok-taken.taken.items _ (taken_list c.args.filter.now c.args.items.now _ c.in_ok-taken.ensures.listed c.requires c.in_ok-taken.ensures.taken)
    c.requires (c.in_ok-left.ensures ∙ ap (λ ys. changed (left_of ys) c.args.items.now) c.as_slice.ensures.value)
