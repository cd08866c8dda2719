-- What the target names keeps its path, so each asset's amount is the same before and after.
use Rattle.std.specs.Prelude.{◌≡◌, ◌<◌, List, Some}
use Rattle.amounts.specs.Amounts.{amount}
use Rattle.locations.specs.declared.grammar.Junction.{Junction}
use Rattle.locations.specs.declared.relative.Location.{Location}
use Rattle.asset_lists.specs.declared.units.AssetId.{AssetId}
use Rattle.asset_lists.specs.Units.{Unit}
use Rattle.asset_lists.specs.Moves.{reanchored_id}
use Rattle.asset_bundles.specs.Bundles.{Bundle}
use Rattle.law_coherence.specs.UniversalAssets.{IsPlaced}

-- the target can name the id
abbrev pub CanBeNamed : Location → List Junction → AssetId → Type 0
CanBeNamed target context id = (new : AssetId) × (reanchored_id target context id ≡ Some new)

-- each unit that is there has a path, and the target can name it
pub record HasReanchorableUnits (target : Location) (context : List Junction) (b : Bundle) : Type 0 where
  pub placed : (u : Unit) → 0 < amount b u → IsPlaced context u.0
  pub named : (u : Unit) → 0 < amount b u → CanBeNamed target context u.0
