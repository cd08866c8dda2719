-- What an asset is an amount of, its unit, and the order of units: fungibles before instances, then by id,
-- then by instance. Ids and instances are ordered by variant, then by their field. It is this project's
-- own rule; the XCM format asks for a sorted list.
use Rattle.std.specs.Prelude.{ℕ, Bool, List, [], ◌∷◌, Option, Some, None, nat_eq}
use Rattle.std.specs.declared.cmp.Ordering.{Ordering}
use Rattle.std.specs.declared.cmp.Ordering.TheVariants.{Less, Greater}
use Rattle.std.specs.Option.{option_cmp}
use Rattle.std.specs.Ordering.{nat_cmp, on, then_cmp, is_lt}
use Rattle.std.specs.Cmp.Lexicographic.{slice_cmp}
use Rattle.locations.specs.Order.{one, fields_cmp, location_cmp}
use Rattle.asset_lists.specs.declared.units.AssetId.{AssetId}
use Rattle.asset_lists.specs.declared.units.AssetId.TheVariants.{Concrete, Abstract}
use Rattle.asset_lists.specs.declared.units.Instance.{Instance}
use Rattle.asset_lists.specs.declared.units.Instance.TheVariants.{Undefined, Index, Array4, Array8, Array16, Array32}
use Rattle.asset_lists.specs.declared.units.Fun.{Fun}
use Rattle.asset_lists.specs.declared.units.Fun.TheVariants.{Fungible, NonFungible}
use Rattle.asset_lists.specs.declared.units.Asset.{Asset}

-- the index of an instance, then its field
abbrev pub instance_fields : Instance → List (List ℕ)
instance_fields Undefined = one 0 ∷ []
instance_fields (Index index) = one 1 ∷ one index ∷ []
instance_fields (Array4 bytes) = one 2 ∷ bytes ∷ []
instance_fields (Array8 bytes) = one 3 ∷ bytes ∷ []
instance_fields (Array16 bytes) = one 4 ∷ bytes ∷ []
instance_fields (Array32 bytes) = one 5 ∷ bytes ∷ []

abbrev pub instance_cmp : Instance → Instance → Ordering
instance_cmp = on instance_fields fields_cmp

abbrev pub asset_id_cmp : AssetId → AssetId → Ordering
asset_id_cmp (Concrete l) (Concrete m) = location_cmp l m
asset_id_cmp (Concrete l) (Abstract b) = Less
asset_id_cmp (Abstract a) (Concrete m) = Greater
asset_id_cmp (Abstract a) (Abstract b) = slice_cmp nat_cmp a b

-- an id, and for one of a class the instance
abbrev pub Unit : Type 0
Unit = AssetId × Option Instance

abbrev pub instance_in : Fun → Option Instance
instance_in (Fungible amount) = None
instance_in (NonFungible instance) = Some instance

-- the amount of an instance is 1
abbrev pub amount_in : Fun → ℕ
amount_in (Fungible amount) = amount
amount_in (NonFungible instance) = 1

abbrev pub unit_of : Asset → Unit
unit_of a = (a.id, instance_in a.fun)

abbrev pub amount_of : Asset → ℕ
amount_of a = amount_in a.fun

abbrev pub is_zero : Asset → Bool
is_zero a = nat_eq (amount_of a) 0

-- 0 for a fungible, 1 for an instance
abbrev pub kind_index : Option Instance → ℕ
kind_index None = 0
kind_index (Some instance) = 1

abbrev pub unit_cmp : Unit → Unit → Ordering
unit_cmp = then_cmp (on (λ (u : Unit). kind_index u.1) nat_cmp)
    (then_cmp (on (λ (u : Unit). u.0) asset_id_cmp) (on (λ (u : Unit). u.1) (option_cmp instance_cmp)))

-- by unit, then by amount
abbrev pub asset_cmp : Asset → Asset → Ordering
asset_cmp = then_cmp (on unit_of unit_cmp) (on amount_of nat_cmp)

-- the unit of a comes before that of b
abbrev pub is_before : Asset → Asset → Bool
is_before a b = is_lt (unit_cmp (unit_of a) (unit_of b))

-- asset by asset; it tells two lists apart
abbrev pub assets_cmp : List Asset → List Asset → Ordering
assets_cmp = slice_cmp asset_cmp
