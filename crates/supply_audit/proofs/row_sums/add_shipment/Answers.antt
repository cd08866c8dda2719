use Rattle.std.proofs.Common.{◌≡◌}
use Rattle.std.specs.Prelude.{sum_by}
use Rattle.supply_audit.specs.Places.{by_way, list_share}
use Rattle.supply_audit.proofs.Found.{rise_along, shipped}
use Rattle.supply_audit.proofs.row_sums.add_shipment.Goals as goal

pub returns-in-Withdrawal-Withdrawal-clause-rise : goal.returns-in-Withdrawal-Withdrawal-clause-rise
returns-in-Withdrawal-Withdrawal-clause-rise c =
    let shipment = c.args.shipment.now in
    let asked = c.in-Withdrawal-Withdrawal.is-0 in
    let found = c.in-Withdrawal-Withdrawal.is-1 in
    let told = c.way.ensures in
    let same : c.args.way ≡ shipment.way = cc in
    rise_along c.args.ledger.now.listed c.args.sums.now c.add_assets.new.sums
    (λ k. sum_by (list_share k.0 k.1) c.items.result.now) (λ k. by_way c.args.way shipment.way k.0 k.1 shipment.units)
    (λ k. shipped c.args.way shipment.way shipment.units c.items.result.now c.items.ensures.bundle same k) c.add_assets.ensures.rise

pub returns-in-Teleport-Teleport-clause-rise : goal.returns-in-Teleport-Teleport-clause-rise
returns-in-Teleport-Teleport-clause-rise c =
    let shipment = c.args.shipment.now in
    let asked = c.in-Teleport-Teleport.is-0 in
    let found = c.in-Teleport-Teleport.is-1 in
    let told = c.way.ensures in
    let same : c.args.way ≡ shipment.way = cc in
    rise_along c.args.ledger.now.listed c.args.sums.now c.add_assets-in-Teleport-Teleport.new.sums
    (λ k. sum_by (list_share k.0 k.1) c.items-in-Teleport-Teleport.result.now) (λ k. by_way c.args.way shipment.way k.0 k.1 shipment.units)
    (λ k. shipped c.args.way shipment.way shipment.units c.items-in-Teleport-Teleport.result.now c.items-in-Teleport-Teleport.ensures.bundle same k) c.add_assets-in-Teleport-Teleport.ensures.rise
