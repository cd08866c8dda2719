use Rattle.std.proofs.Common.{sym, ap, ◌∙◌}
use Rattle.asset_lists.specs.Lists.{is_rising}
use Rattle.exec_transfers.proofs.NamedLists.{tellable_list, untold_list}
use Rattle.exec_transfers.proofs.naming.named_list.Goals as goal

pub returns-then-is_rising : goal.returns-then-is_rising
returns-then-is_rising c =
    tellable_list c.args.target.now c.args.context.now c.args.items.now _ _ c.in_ok-named.ensures c.requires.some c.sort_unstable.ensures.permutation
    (sym (c.is_rising.ensures ∙ ap is_rising c.as_slice.ensures.value) ∙ c.if-is_rising.true)

pub returns-else-is_rising : goal.returns-else-is_rising
returns-else-is_rising c =
    untold_list c.args.target.now c.args.context.now c.args.items.now _ _ c.in_ok-named.ensures c.sort_unstable.ensures.permutation c.sort_unstable.ensures.sorted
    (sym (c.is_rising.ensures ∙ ap is_rising c.as_slice.ensures.value) ∙ c.if-is_rising.false)
