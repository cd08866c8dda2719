use Rattle.std.proofs.Common.{ap}
use Rattle.std.proofs.lemmas.Bool.{leb-true}
use Rattle.asset_lists.specs.declared.filters.Filter.{Filter}
use Rattle.asset_bundles.proofs.Whole.{all_taken, all_counted}
use Rattle.asset_bundles.proofs.portions.is_for_all.Goals as goal

pub returns-in-All : goal.returns-in-All
returns-in-All c = λ _. all_taken (Filter.Wild c.args.wild.now) c.args.items.now c.requires (ap Filter.Wild c.in-All.is)

pub returns-in-AllCounted : goal.returns-in-AllCounted
returns-in-AllCounted c =
    λ few. all_counted (Filter.Wild c.args.wild.now) c.in-AllCounted.count c.args.items.now c.requires
    (ap Filter.Wild c.in-AllCounted.is) (leb-true _ _ few)
