use Rattle.std.proofs.Common.{◌≤◌, arith}
use Rattle.asset_lists.specs.Units.{unit_of}
use Rattle.asset_bundles.specs.Bundles.{found}
use Rattle.asset_bundles.specs.Joins.{most_of}
use Rattle.asset_bundles.proofs.SumFacts.{found_within}
use Rattle.asset_bundles.proofs.joining.amount_above.Goals as goal

pub returns : goal.returns
returns c =
    let within : found (unit_of c.args.item.now) c.args.more.now ≤ most_of (unit_of c.args.item.now).1 = found_within (unit_of c.args.item.now) c.held.result c.args.more.now c.held.type_inv c.held.ensures in
    omega (arith, c.saturating_sub.ensures, c.saturating_sub-room.ensures, c.most_of.ensures, c.held.ensures, c.amount.ensures, within)
