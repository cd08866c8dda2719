use Rattle.std.proofs.Common.{◌∙◌}
use Rattle.test_assets.proofs.Empty.{listed_none, listed_join}
use Rattle.test_assets.proofs.bundle_rows.give_up_nothing.Goals as goal

pub burn-requires : goal.burn-requires
burn-requires c = listed_none _ _ c.empty.ensures

pub lose-requires : goal.lose-requires
lose-requires c = listed_none _ _ (c.ship-shipment.ensures.units ∙ c.empty-2.ensures)

pub join-requires : goal.join-requires
join-requires c = listed_join _ _ _ c.empty-holding.ensures c.empty-other.ensures
