-- The list that a target names, and what a report needs of it. This project's own vocabulary.
use Rattle.std.specs.Prelude.{◌≡◌, ℕ, true, false, List, Option, Some, None}
use Rattle.std.specs.List.{filter}
use Rattle.std.specs.Str.{bytes_eq}
use Rattle.operands.specs.declared.pallet.PalletInfo.{PalletInfo}
use Rattle.asset_lists.specs.declared.units.Asset.{Asset}
use Rattle.asset_lists.specs.Lists.{has_zero, is_rising}
use Rattle.xcm_program.specs.Conversions.{have_concrete_ids}

-- assets in order, with no amount 0 and no id by bytes
pub record IsTellable (list : List Asset) : Type 0 where
  pub rising : is_rising list ≡ true
  pub some : has_zero list ≡ false
  pub places : have_concrete_ids list ≡ true

-- what is told of a list that is expected, or that there is none
abbrev pub TellsList : Option (List Asset) → Option (List Asset) → Type 0
TellsList expected None = expected ≡ None
TellsList expected (Some list) = (expected ≡ Some list) × IsTellable list

-- the pallets with that module name, in the order given
abbrev pub pallets_named : List PalletInfo → List ℕ → List PalletInfo
pallets_named pallets name = filter (λ (info : PalletInfo). bytes_eq info.module_name name) pallets
