-- An admitted withdrawal is paid: unit by unit, the account of its sender has what the message asks for.
use Rattle.std.specs.Prelude.{◌≡◌, ◌<◌, true, Option}
use Rattle.amounts.specs.Amounts.{amount}
use Rattle.asset_lists.specs.declared.units.Instance.{Instance}
use Rattle.asset_lists.specs.declared.units.Kind.{Kind}
use Rattle.asset_lists.specs.Listed.{kind_of}
use Rattle.ledgers.specs.Ledgers.{Holder, Held}
use Rattle.trust_tables.specs.declared.rows.AssetRow.{AssetRow}
use Rattle.law_coherence.specs.UniversalAssets.{Choice}
use Rattle.law_coherence.specs.Networks.{Table, IsIn, IsUnitOf}

-- every unit that is there is of a listed row
abbrev pub AreHeldListed : Table → Held → Type 0
AreHeldListed t held = (h : Holder) → 0 < amount held h → (row : AssetRow) × IsIn t.rows row × IsUnitOf h.1 row

-- the choice takes just this unit of the kind
pub record IsJust (k : Kind) (choice : Choice) (one : Option Instance) : Type 0 where
  pub kind : kind_of one ≡ k
  pub taken : choice one ≡ true
  pub only : (other : Option Instance) → kind_of other ≡ k → choice other ≡ true → one ≡ other
