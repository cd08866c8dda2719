-- What an account holds, as a list of assets, and what a row adds to that list.
use Rattle.std.specs.Prelude.{◌≡◌, ℕ, ◌≤◌, Bool, if◌then◌else◌, nat_lt, List, Option, None, Some, IsFalse}
use Rattle.asset_lists.specs.declared.units.AssetId.{AssetId}
use Rattle.asset_lists.specs.declared.units.Instance.{Instance}
use Rattle.asset_lists.specs.declared.units.Kind.{Kind}
use Rattle.asset_lists.specs.declared.units.Fun.{Fun}
use Rattle.asset_lists.specs.declared.units.Asset.{Asset}
use Rattle.asset_lists.specs.Units.{Unit}
use Rattle.asset_lists.specs.Lists.{has_zero}
use Rattle.asset_lists.specs.Moves.{occurrences}
use Rattle.asset_bundles.specs.Bundles.{Bundle, bundle_of, is_kind}
use Rattle.asset_lists.specs.Listed.{Listed}

-- a list of what is in a bundle, in any order: each unit once, and no amount of 0
pub record IsUnsortedListOf (goods : Bundle) (assets : List Asset) : Type 0 where
  pub once : (unit : Unit) → occurrences unit assets ≤ 1
  pub no_zero : IsFalse (has_zero assets)
  pub whole : bundle_of assets ≡ goods

-- an amount of a fungible asset, and no instance
abbrev pub is_amount : Unit → Bool
is_amount unit = is_kind Kind.Fungible unit.1

-- so much of a fungible asset. The amount of a class says nothing, since instances have rows of their own
abbrev pub fungible_of : AssetId → Kind → ℕ → Option Asset
fungible_of id Kind.Fungible amount = if nat_lt 0 amount then Some (record { id = id; fun = Fun.Fungible amount }) else None
fungible_of id Kind.Class amount = None

abbrev pub fungible_held_at : Option Listed → ℕ → Option Asset
fungible_held_at None amount = None
fungible_held_at (Some asset) amount = fungible_of asset.0 asset.1 amount

-- an instance of a class, where the account has 1 of it
abbrev pub owned_instance : AssetId → Kind → Instance → ℕ → Option Asset
owned_instance id Kind.Fungible instance amount = None
owned_instance id Kind.Class instance amount = if nat_lt 0 amount then Some (record { id = id; fun = Fun.NonFungible instance }) else None

abbrev pub instance_held_at : Option Listed → Instance → ℕ → Option Asset
instance_held_at None instance amount = None
instance_held_at (Some asset) instance amount = owned_instance asset.0 asset.1 instance amount
