-- The list of assets as the code keeps it.
use Rattle.std.specs.Prelude.{List, map}
use Rattle.std.specs.Ordering.{on}
use Rattle.std.specs.declared.cmp.Ordering.{Ordering}
use Rattle.std.specs.Cmp.{IsTotalOrder, on_total}
use Rattle.std.specs.Coded.{Coded, coded_list}
use Rattle.locations.specs.declared.relative.Location.{Location}
use Rattle.asset_lists.specs.declared.units.AssetId.TheVariants.{Concrete}
use Rattle.asset_lists.specs.declared.units.Kind.{Kind}
use Rattle.asset_lists.specs.Listed.{Listed, listed_cmp}
use Rattle.asset_bundles.specs.BookCode.{listed_code}
use Rattle.asset_bundles.proofs.Lemmas.{listed_keys}
use Rattle.ledgers.specs.declared.listed_asset.ListedAsset.{ListedAsset}

abbrev pub listed_key_of : ListedAsset → Listed
listed_key_of a = (Concrete a.id, a.kind)

abbrev pub listed_asset_of : Location → Kind → ListedAsset
listed_asset_of id kind = record { id = id; kind = kind }

abbrev pub row_cmp : ListedAsset → ListedAsset → Ordering
row_cmp = on listed_key_of listed_cmp

pub rows_total : IsTotalOrder row_cmp
rows_total = on_total listed_key_of listed_keys.total

abbrev pub table_keys : List ListedAsset → List Listed
table_keys assets = map listed_key_of assets

abbrev pub table_code : Coded (List Listed)
table_code = coded_list listed_code
