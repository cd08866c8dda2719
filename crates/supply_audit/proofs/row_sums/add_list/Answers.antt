use Rattle.std.proofs.Common.{ap, ◌∙◌}
use Rattle.std.specs.Prelude.{sum_by}
use Rattle.asset_bundles.specs.Bundles.{bundle_of}
use Rattle.supply_audit.specs.Places.{asset_amount_in, list_share}
use Rattle.supply_audit.proofs.Found.{rise_along}
use Rattle.supply_audit.proofs.Naming.{in_list_is}
use Rattle.supply_audit.proofs.row_sums.add_list.Goals as goal

pub returns-clause-rise : goal.returns-clause-rise
returns-clause-rise c =
    rise_along c.args.ledger.now.listed c.args.sums.now c.add_assets.new.sums
    (λ k. sum_by (list_share k.0 k.1) c.items.result.now) (λ k. asset_amount_in k.0 k.1 (bundle_of c.args.list.now))
    (λ k. ap (sum_by (list_share k.0 k.1)) c.items.ensures.value ∙ in_list_is k.0 k.1 c.args.list.now) c.add_assets.ensures.rise
