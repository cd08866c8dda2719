use Rattle.std.proofs.Common.{ap, ◌∙◌}
use Rattle.asset_lists.specs.declared.filters.Filter.TheVariants.{Definite}
use Rattle.asset_bundles.specs.Portions.{changed, left_of, common_with}
use Rattle.asset_bundles.proofs.Parts.{taken_list, left_list}
use Rattle.asset_bundles.proofs.portions.parted_by_list.Goals as goal

pub returns-clause-taken : goal.returns-clause-taken
returns-clause-taken c =
    taken_list (Definite c.args.asked.now) c.args.items.now _ c.items.ensures.list c.requires
    (c.in_ok-taken.ensures ∙ ap (λ ys. changed (common_with ys) c.args.items.now) c.items.ensures.value)

pub returns-clause-left : goal.returns-clause-left
returns-clause-left c =
    left_list (Definite c.args.asked.now) c.args.items.now c.in_ok-taken.taken.items _
    (taken_list (Definite c.args.asked.now) c.args.items.now _ c.items.ensures.list c.requires
    (c.in_ok-taken.ensures ∙ ap (λ ys. changed (common_with ys) c.args.items.now) c.items.ensures.value))
    c.requires (c.in_ok-left.ensures ∙ ap (λ ys. changed (left_of ys) c.args.items.now) c.as_slice.ensures.value)
