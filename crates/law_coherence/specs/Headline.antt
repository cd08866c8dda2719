-- Where no cause is found, every world that safe changes lead to is conserved and backed, and its checking accounts are right.
use Rattle.std.specs.Prelude.{◌≡◌, ℕ, ◌+◌, ◌<◌, ◌≤◌, ◌^◌, Some, slice_get}
use Rattle.asset_lists.specs.declared.units.Instance.{Instance}
use Rattle.trust_tables.specs.declared.rows.AssetRow.{AssetRow}
use Rattle.law_coherence.specs.UniversalAssets.{UniversalAsset, Choice, every, just}
use Rattle.law_coherence.specs.Networks.{IsIn, asset_of_row, Agrees}
use Rattle.law_coherence.specs.Parts.{Part, WorldView, stock, burned, supply, population, Conserved, Backed, NoCoverShrinks}
use Rattle.law_coherence.specs.Checking.{AllChecked, AllWithin, AllBounded}
use Rattle.law_coherence.specs.Steps.{tables_of}

-- what a network is sure of for ever
pub record IsKept (genesis w : WorldView) : Type 0 where
  pub agrees : Agrees (tables_of w)
  pub conserved : Conserved genesis w
  -- there is less than 2^127 of each asset, so that its sum is printed in decimal
  pub below : (a : UniversalAsset) → supply a w < 2 ^ 127
  pub backed : Backed w
  -- and what covers a derivative beyond that, or what is missing there, doesn't get worse
  pub cover : NoCoverShrinks genesis w
  pub small : (k : ℕ) (p : Part) (row : AssetRow) → slice_get w k ≡ Some p → IsIn p.table.rows row → stock (asset_of_row p.table row) every p + burned (asset_of_row p.table row) p < 2 ^ 127
  pub once : (k : ℕ) (p : Part) (row : AssetRow) (instance : Instance) → slice_get w k ≡ Some p → IsIn p.table.rows row → stock (asset_of_row p.table row) (just (Some instance)) p ≤ 1
  -- over all homes and teleports under way, no unit is there more often than at first, and an instance at most once
  pub rare : (a : UniversalAsset) (choice : Choice) → population a choice w ≤ population a choice genesis
  pub single : (a : UniversalAsset) (instance : Instance) → population a (just (Some instance)) w ≤ 1
  -- each checking account is at least what there is of its asset at the other homes, and under way from any home
  pub checked : AllChecked w
  -- each is there where it was at first, and with what its chain has of the asset it is no more than then
  pub within : AllWithin genesis w
  -- and that stays below 2^128-1
  pub bounded : AllBounded w
