-- What a chain keeps aside of an asset: what is paid for weight, the fee in the slot, what is kept for deliveries, and what is parked.
-- Source: this project's own rule.
use Rattle.std.specs.Prelude.{ℕ, ◌+◌, List}
use Rattle.std.specs.List.{sum_by}
use Rattle.amounts.specs.Amounts.{total}
use Rattle.asset_lists.specs.declared.units.AssetId.{AssetId}
use Rattle.asset_lists.specs.declared.units.Kind.{Kind}
use Rattle.asset_bundles.specs.Bundles.{Bundle, is_asset}
use Rattle.weight_trader.specs.Purchases.{paid_goods}
use Rattle.exec_base.specs.Part.{ChainPart}

-- the amount of a fungible asset in its smallest unit, or the number of instances of a class
abbrev pub asset_in : AssetId → Kind → Bundle → ℕ
asset_in id kind goods = total (is_asset id kind) goods

abbrev pub parked_total : AssetId → Kind → List Bundle → ℕ
parked_total id kind parked = sum_by (asset_in id kind) parked

unfoldable pub aside : ChainPart → AssetId → Kind → ℕ
aside p id kind = parked_total id kind p.parked + asset_in id kind (paid_goods p.lines) + asset_in id kind p.fee_slot + asset_in id kind p.fees
