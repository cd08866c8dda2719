-- Why a list of assets isn't taken from a bundle. Memory is refused only where all of it is held.
use Rattle.std.specs.Prelude.{List}
use Rattle.amounts.specs.Amounts.{IsWithin}
use Rattle.asset_lists.specs.declared.units.Asset.{Asset}
use Rattle.asset_bundles.specs.declared.faults.TakeFault.{TakeFault}
use Rattle.asset_bundles.specs.Bundles.{Bundle, bundle_of}

abbrev pub IsTakeFault : Bundle → List Asset → TakeFault → Type 0
IsTakeFault b list TakeFault.NotHeld = IsWithin (bundle_of list) b → ⊥
IsTakeFault b list TakeFault.Memory = IsWithin (bundle_of list) b
