-- The positions of the derivative in a chain's row and of what covers it, by what chains list, and its figures by these positions. This project's own
-- rule.
use Rattle.std.specs.Prelude.{ℕ, ◌+◌, Bool, true, false, List, Option, Some, None, slice_get}
use Rattle.std.specs.List.{position_or_len}
use Rattle.chain_ids.specs.declared.chain.ChainId.{ChainId}
use Rattle.chain_ids.specs.Chains.{same_chain}
use Rattle.trust_tables.specs.declared.rows.AssetRow.{AssetRow}
use Rattle.trust_tables.specs.declared.rows.AssetRole.{AssetRole}
use Rattle.trust_tables.specs.declared.rows.AssetRole.TheVariants.{Native, Derivative}
use Rattle.trust_tables.specs.Accounts.{sovereign_account}
use Rattle.law_coherence.specs.Networks.{Table, asset_of_row}
use Rattle.exec_base.specs.Part.{ChainPart}
use Rattle.supply_audit.specs.declared.figures.Carried.TheVariants.{Deposits, Withdrawals}
use Rattle.supply_audit.specs.declared.figures.Figure.TheVariants.{Placed, Account, Sent}
use Rattle.supply_audit.specs.RowPlaces.{chain_places, over_places}
use Rattle.supply_audit.specs.Stale.{are_touched}
use Rattle.supply_audit.specs.Covered.{Covered}

-- the number of the first chain of this name, or how many chains there are
abbrev pub number_of : List Table → ChainId → ℕ
number_of tables chain = position_or_len (λ (t : Table). same_chain t.site.chain chain) tables

-- a row of a chain with its number, by what its reserve lists and the number of that
abbrev pub cover_between : ℕ × Table → AssetRow → ℕ → Option Table → Option Covered
cover_between here row other None = None
cover_between here row other (Some there) = Some (record {
  here = here.1.site.chain;
  there = there.site.chain;
  own = chain_places true (asset_of_row here.1 row) here;
  kept = chain_places true (asset_of_row here.1 row) (other, there);
})

abbrev pub cover_by : List Table → ℕ × Table → AssetRow → AssetRole → Option Covered
cover_by tables here row (Native partners checking) = None
cover_by tables here row (Derivative reserve) =
    cover_between here row (number_of tables reserve) (slice_get tables (number_of tables reserve))

abbrev pub cover_of_row : List Table → ℕ × Table → Option AssetRow → Option Covered
cover_of_row tables here None = None
cover_of_row tables here (Some row) = cover_by tables here row row.role

abbrev pub cover_of_chain : List Table → ℕ → ℕ → Option Table → Option Covered
cover_of_chain tables row number None = None
cover_of_chain tables row number (Some here) =
    cover_of_row tables (number, here) (slice_get here.rows row)

-- None where the chain, the row or its reserve isn't there, or the row is native
abbrev pub cover_at : List Table → ChainId → ℕ → Option Covered
cover_at tables chain row =
    cover_of_chain tables row (number_of tables chain) (slice_get tables (number_of tables chain))

-- what the chain's account at the reserve has
abbrev pub held_at : List ChainPart → Covered → ℕ
held_at parts c = over_places (Account (sovereign_account c.there c.here)) parts c.kept

-- what the chain has, what is on its way to it as deposits, and what is on its way back as withdrawals
abbrev pub owed_at : List ChainPart → Covered → ℕ
owed_at parts c =
    over_places Placed parts c.own + over_places (Sent Deposits (Some c.here)) parts c.kept
    + over_places (Sent Withdrawals (Some c.there)) parts c.own

-- what is on its way to the chain, and what the chain has with what is on its way back: the one depends on the reserve alone, the other on the
-- chain
abbrev pub coming_at : List ChainPart → Covered → ℕ
coming_at parts c = over_places (Sent Deposits (Some c.here)) parts c.kept

abbrev pub standing_at : List ChainPart → Covered → ℕ
standing_at parts c =
    over_places Placed parts c.own + over_places (Sent Withdrawals (Some c.there)) parts c.own

-- a position at the chain, or one at the reserve, is at a chain that may have changed
abbrev pub own_touched : List Bool → Option Covered → Bool
own_touched stale None = false
own_touched stale (Some c) = are_touched stale c.own

abbrev pub kept_touched : List Bool → Option Covered → Bool
kept_touched stale None = false
kept_touched stale (Some c) = are_touched stale c.kept

-- a figure of a derivative; 0 where there is none
abbrev pub of_cover : (Covered → ℕ) → Option Covered → ℕ
of_cover has None = 0
of_cover has (Some c) = has c
