use Rattle.std.proofs.Common.{◌∙◌}
use Rattle.std.specs.Cmp.{eq_by_cmp_equiv}
use Rattle.asset_lists.specs.UnitLaws.{asset_id_total}
use Rattle.asset_bundles.proofs.items.is_stored_as.Goals as goal

pub returns : goal.returns
returns c = c.is.ensures ∙ (eq_by_cmp_equiv asset_id_total).symm c.args.other.now c.args.id.now
