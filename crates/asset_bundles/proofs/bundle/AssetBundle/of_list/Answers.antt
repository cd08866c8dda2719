use Rattle.std.proofs.Common.{◌∙◌}
use Rattle.asset_bundles.proofs.Minting.{bundle_of-IsPermutation, sorted_holding}
use Rattle.asset_bundles.proofs.bundle.AssetBundle.of_list.Goals as goal

pub invariant_of-result : goal.invariant_of-result
invariant_of-result c = sorted_holding _ _ c.sort_unstable.ensures.permutation c.sort_unstable.ensures.sorted c.requires.once c.requires.no_zero

pub returns : goal.returns
returns c = bundle_of-IsPermutation _ _ c.sort_unstable.ensures.permutation
