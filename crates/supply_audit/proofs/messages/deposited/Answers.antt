use Rattle.std.proofs.Common.{◌∙◌, ap, min}
use Rattle.asset_lists.specs.declared.units.AssetId.TheVariants.{Concrete}
use Rattle.std.specs.Prelude.{sum_by}
use Rattle.asset_bundles.specs.Books.{most_burned}
use Rattle.supply_audit.specs.Places.{list_share}
use Rattle.supply_audit.proofs.Naming.{in_list_is}
use Rattle.supply_audit.proofs.messages.deposited.Goals as goal

pub returns : goal.returns
returns c =
    c.in_list.ensures
    ∙ ap (λ n. min n most_burned) (ap (sum_by (list_share (Concrete c.args.id.now) c.args.kind)) c.items.ensures.value ∙ in_list_is (Concrete c.args.id.now) c.args.kind c.args.list.now)
