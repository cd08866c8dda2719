-- The assets that a chain lists: an id, and whether it has amounts or is a class of instances. This is the project's
-- own vocabulary.
use Rattle.std.specs.Prelude.{ℕ, Bool, true, false, List, Option, Some, None}
use Rattle.std.specs.List.{list_any}
use Rattle.std.specs.Ordering.{nat_cmp, on, then_cmp, eq_by_cmp}
use Rattle.std.specs.declared.cmp.Ordering.{Ordering}
use Rattle.asset_lists.specs.declared.units.AssetId.{AssetId}
use Rattle.asset_lists.specs.declared.units.Instance.{Instance}
use Rattle.asset_lists.specs.declared.units.Kind.{Kind}
use Rattle.asset_lists.specs.declared.units.Kind.TheVariants.{Fungible, Class}
use Rattle.asset_lists.specs.Units.{Unit, asset_id_cmp}

-- a unit without an instance is of a fungible asset, and one with an instance of a class
abbrev pub kind_of : Option Instance → Kind
kind_of None = Fungible
kind_of (Some instance) = Class

abbrev pub kind_number : Kind → ℕ
kind_number Fungible = 0
kind_number Class = 1

-- whether two kinds are one
abbrev pub same_kind : Kind → Kind → Bool
same_kind Fungible Fungible = true
same_kind Class Class = true
same_kind _ _ = false

-- an asset that a chain lists: an id, which has amounts or is a class of instances
abbrev pub Listed : Type 0
Listed = AssetId × Kind

-- by id, then fungibles before classes
abbrev pub listed_cmp : Listed → Listed → Ordering
listed_cmp = then_cmp (on (λ (k : Listed). k.0) asset_id_cmp) (on (λ (k : Listed). kind_number k.1) nat_cmp)

-- the listed asset that a unit is of
abbrev pub listed_of : Unit → Listed
listed_of unit = (unit.0, kind_of unit.1)

-- whether the asset is among those listed
abbrev pub lists : List Listed → Listed → Bool
lists listed k = list_any (λ l. eq_by_cmp listed_cmp k l) listed
