-- That the order of assets is total, that only one asset ties, and that equal assets are hashed alike. A reader can skip it.
use Rattle.std.specs.Prelude.{◌≡◌, true}
use Rattle.std.proofs.Common.{◌∙◌}
use Rattle.std.specs.Cmp.{IsTotalOrder, nat_cmp_total, on_total, then_total, first_so, tied_then}
use Rattle.std.specs.Ordering.{nat_cmp, eq_by_cmp, is_eq}
use Rattle.locations.specs.Order.{junctions_cmp}
use Rattle.locations.specs.Hashing.{junctions_input}
use Rattle.locations.specs.HashLaws.{junctions_alike}
use Rattle.locations.specs.OrderLaws.{junctions_total}
use Rattle.asset_lists.specs.Listed.{kind_number}
use Rattle.law_coherence.specs.UniversalAssets.{UniversalAsset}
use Rattle.supply_audit.specs.Assets.{universal_asset_cmp}

pub universal_assets_total : IsTotalOrder universal_asset_cmp
universal_assets_total = then_total (on_total (λ (a : UniversalAsset). a.0) junctions_total) (on_total (λ (a : UniversalAsset). kind_number a.1) nat_cmp_total)

pub assets_alike : (x y : UniversalAsset) → eq_by_cmp universal_asset_cmp x y ≡ true → junctions_input x.0 ≡ junctions_input y.0
assets_alike x y same =
    let paths = junctions_cmp x.0 y.0 in
    let kinds = nat_cmp (kind_number x.1) (kind_number y.1) in
    junctions_alike x.0 y.0 (first_so (is_eq paths) (is_eq kinds) (tied_then paths kinds ∙ same))
