-- An asset, wherever it is looked at from: its path and its kind. Every sum over a chain is a total over the
-- one test here. This is the project's own rule, over the XCM format's universal locations.
use Rattle.std.specs.Prelude.{Bool, true, false, ◌&&◌, List, Option}
use Rattle.std.specs.Ordering.{eq_by_cmp}
use Rattle.locations.specs.declared.grammar.Junction.{Junction}
use Rattle.locations.specs.Order.{junctions_cmp}
use Rattle.locations.specs.Chains.{HasPath, path_of}
use Rattle.asset_lists.specs.declared.units.AssetId.{AssetId}
use Rattle.asset_lists.specs.declared.units.AssetId.TheVariants.{Concrete, Abstract}
use Rattle.asset_lists.specs.declared.units.Instance.{Instance}
use Rattle.asset_lists.specs.declared.units.Kind.{Kind}
use Rattle.std.specs.Option.{option_cmp}
use Rattle.asset_lists.specs.Units.{Unit, instance_cmp}
use Rattle.asset_lists.specs.Listed.{Listed, listed_of, same_kind}
use Rattle.asset_bundles.specs.Books.{Burn}

-- its path and its kind
abbrev pub UniversalAsset : Type 0
UniversalAsset = List Junction × Kind

-- the id leads from the chain to this path
abbrev pub leads_to_path : List Junction → List Junction → AssetId → Bool
leads_to_path context path (Concrete l) = eq_by_cmp junctions_cmp (path_of context l) path
leads_to_path context path (Abstract name) = false

-- a listed asset of a chain is this asset
abbrev pub is_asset_at : List Junction → UniversalAsset → Listed → Bool
is_asset_at context a k = leads_to_path context a.0 k.0 && same_kind k.1 a.1

-- which instances of a class are meant; of a fungible asset there is just the one unit
abbrev pub Choice : Type 0
Choice = Option Instance → Bool

abbrev pub every : Choice
every instance = true

-- just this instance, or the one unit of a fungible asset
abbrev pub just : Option Instance → Choice
just one instance = eq_by_cmp (option_cmp instance_cmp) one instance

-- a unit of a chain is one of these units of the asset
abbrev pub is_unit_at : List Junction → UniversalAsset → Choice → Unit → Bool
is_unit_at context a choice u = is_asset_at context a (listed_of u) && choice u.1

-- a burn of a chain is of the asset
abbrev pub is_burn_at : List Junction → UniversalAsset → Burn → Bool
is_burn_at context a burn = is_asset_at context a burn.0

-- the id leads to a path
abbrev pub IsPlaced : List Junction → AssetId → Type 0
IsPlaced context (Concrete l) = HasPath context l
IsPlaced context (Abstract name) = ⊥
