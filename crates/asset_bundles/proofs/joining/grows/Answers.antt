use Rattle.std.proofs.Common.{sym}
use Rattle.asset_bundles.proofs.Growing.{grown_list}
use Rattle.asset_bundles.proofs.SumFacts.{is_above}
use Rattle.asset_bundles.proofs.joining.grows.Goals as goal

pub returns-then-are_held-clause-kept : goal.returns-then-are_held-clause-kept
returns-then-are_held-clause-kept c = λ _.
    grown_list c.args.items.now c.args.more.now c.requires.items c.requires.more c.requires.within (c.are_held.ensures c.if-are_held.true)

pub returns-then-are_held-clause-above : goal.returns-then-are_held-clause-above
returns-then-are_held-clause-above c = λ kept.
    is_above c.args.items.now c.args.more.now _ c.requires.items c.requires.more c.requires.within (sym (c.are_kept.ensures kept))
