-- The assets that chains list: their order, and the asset of a row. This project's own rule.
use Rattle.std.specs.Ordering.{nat_cmp, on, then_cmp}
use Rattle.std.specs.declared.cmp.Ordering.{Ordering}
use Rattle.locations.specs.Chains.{path_of}
use Rattle.locations.specs.Order.{junctions_cmp}
use Rattle.asset_lists.specs.Listed.{kind_number}
use Rattle.trust_tables.specs.declared.chains.Site.{Site}
use Rattle.trust_tables.specs.declared.rows.AssetRow.{AssetRow}
use Rattle.trust_tables.specs.Chains.{path_of_site}
use Rattle.law_coherence.specs.UniversalAssets.{UniversalAsset}

-- by path (number of junctions, then junctions), then fungible assets before classes
abbrev pub universal_asset_cmp : UniversalAsset → UniversalAsset → Ordering
universal_asset_cmp =
    then_cmp (on (λ (a : UniversalAsset). a.0) junctions_cmp)
    (on (λ (a : UniversalAsset). kind_number a.1) nat_cmp)

-- the asset of a row of the chain at a site
abbrev pub listed_at : Site → AssetRow → UniversalAsset
listed_at site row = (path_of (path_of_site site) row.id, row.kind)
