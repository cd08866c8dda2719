-- What a filter takes of a bundle, and what it leaves. Source: the XCM format's asset filters, and how
-- xcm-executor's documentation takes assets from the holding register. The order in which a count counts
-- is this project's own: holding order, a kind being one fungible id or one instance.
use Rattle.std.specs.Prelude.{ℕ, Bool, true, false, ◌&&◌, take, Option, Some, None}
use Rattle.std.specs.Ordering.{eq_by_cmp}
use Rattle.amounts.specs.Amounts.{rows, from_rows, lesser, difference, restriction}
use Rattle.asset_lists.specs.declared.units.AssetId.{AssetId}
use Rattle.asset_lists.specs.declared.units.Instance.{Instance}
use Rattle.asset_lists.specs.declared.filters.WildFun.{WildFun}
use Rattle.asset_lists.specs.declared.filters.Wild.{Wild}
use Rattle.asset_lists.specs.declared.filters.Filter.{Filter}
use Rattle.asset_lists.specs.Units.{Unit, asset_id_cmp}
use Rattle.asset_bundles.specs.Bundles.{Bundle, bundle_of}

abbrev pub is_fun : WildFun → Option Instance → Bool
is_fun WildFun.Fungible None = true
is_fun WildFun.Fungible (Some instance) = false
is_fun WildFun.NonFungible None = false
is_fun WildFun.NonFungible (Some instance) = true

-- the unit is an amount of the id, or an instance of the class, as the wildcard says
abbrev pub is_all_of : AssetId → WildFun → Unit → Bool
is_all_of id fun unit = eq_by_cmp asset_id_cmp id unit.0 && is_fun fun unit.1

-- the first kinds in holding order, at most n
unfoldable pub first_kinds : ℕ → Bundle → Bundle
first_kinds n b = from_rows (take n (rows b))

-- listed assets are taken as far as they are held
unfoldable pub Taken : Filter → Bundle → Bundle
Taken (Filter.Definite list) b = lesser (bundle_of list) b
Taken (Filter.Wild Wild.All) b = b
Taken (Filter.Wild (Wild.AllOf id fun)) b = restriction (is_all_of id fun) b
Taken (Filter.Wild (Wild.AllCounted count)) b = first_kinds count b
Taken (Filter.Wild (Wild.AllOfCounted id fun count)) b = first_kinds count (restriction (is_all_of id fun) b)

unfoldable pub Left : Filter → Bundle → Bundle
Left filter b = difference b (Taken filter b)
