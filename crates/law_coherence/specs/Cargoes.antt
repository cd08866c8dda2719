-- What trust gives of a cargo in a network that agrees: a teleport is at home at both ends, a deposit is owed by its
-- receiver to its sender, and what leaves as a withdrawal is at home elsewhere.
use Rattle.std.specs.Prelude.{◌≡◌}
use Rattle.asset_lists.specs.Units.{Unit}
use Rattle.trust_tables.specs.declared.rows.AssetRow.{AssetRow}
use Rattle.trust_tables.specs.declared.rows.AssetRole.TheVariants.{Derivative}
use Rattle.law_coherence.specs.UniversalAssets.{UniversalAsset, Choice, is_unit_at}
use Rattle.law_coherence.specs.Networks.{Table, context_of, IsIn, IsUnitOf}

-- a unit of a deposit, its unit at the receiver, and the row there
pub record IsDepositFor (s t : Table) (u : Unit) : Type 0 where
  pub unit : Unit
  pub alike : (a : UniversalAsset) (choice : Choice) → is_unit_at (context_of s) a choice u ≡ is_unit_at (context_of t) a choice unit
  pub row : AssetRow
  pub listed : IsIn t.rows row
  pub of : IsUnitOf unit row
  pub derivative : row.role ≡ Derivative s.site.chain
