-- What accounts hold of a chain's fungible rows, by the number of the row; and what they hold once those amounts changed. This project's
-- own rule.
--     fungible_rows rows      the rows that are fungible, by their index in the listing, from 0
--     row_amounts rows held      what each account has of each of them
--     with_row_amounts rows held m      what accounts hold with these amounts of the fungible rows, and all else as it is
use Rattle.std.specs.Prelude.{ℕ, suc, Bool, true, false, not, is_some, if◌then◌else◌, List, [], ◌∷◌, Option, Some, None, slice_get, unwrap_or}
use Rattle.amounts.specs.Amounts.{merge, restriction, map_keys}
use Rattle.asset_lists.specs.declared.units.AssetId.TheVariants.{Concrete, Abstract}
use Rattle.asset_lists.specs.declared.units.Kind.{Kind}
use Rattle.asset_lists.specs.declared.units.Kind.TheVariants.{Fungible, Class}
use Rattle.asset_lists.specs.Units.{Unit}
use Rattle.trust_tables.specs.declared.rows.AssetRow.{AssetRow}
use Rattle.trust_tables.specs.Trust.{listing}
use Rattle.ledgers.specs.Ledgers.{Holder, Held, number_in}
use Rattle.call_dispatch.specs.Shifts.{AccountRow, RowAmounts, Floors}

abbrev pub is_fungible_kind : Kind → Bool
is_fungible_kind Fungible = true
is_fungible_kind Class = false

abbrev pub is_fungible : AssetRow → Bool
is_fungible row = is_fungible_kind row.kind

-- the row is there and fungible
abbrev pub is_fungible_row : Option AssetRow → Bool
is_fungible_row None = false
is_fungible_row (Some row) = is_fungible row

-- the indices of the fungible rows, counted on from n
abbrev pub fungible_from : ℕ → List AssetRow → List ℕ
fungible_from n [] = []
fungible_from n (row ∷ rows) =
    if is_fungible row then n ∷ fungible_from (suc n) rows else fungible_from (suc n) rows

abbrev pub fungible_rows : List AssetRow → List ℕ
fungible_rows rows = fungible_from 0 rows

-- the row of an amount of an asset; an instance has none
unfoldable pub row_of_unit : List AssetRow → Unit → Option ℕ
row_of_unit rows (id, None) = number_in (listing rows) (id, Fungible)
row_of_unit rows (id, Some instance) = None

abbrev pub has_row_number : List AssetRow → Holder → Bool
has_row_number rows h = is_some (row_of_unit rows h.1)

-- a holder of an amount of a row, as an account and the number of the row
abbrev pub numbered : List AssetRow → Holder → AccountRow
numbered rows h = (h.0, unwrap_or (row_of_unit rows h.1) 0)

-- the unit of a row
abbrev pub unit_of_row : Option AssetRow → Unit
unit_of_row None = (Abstract [], None)
unit_of_row (Some row) = (Concrete row.id, None)

unfoldable pub unit_at : List AssetRow → ℕ → Unit
unit_at rows row = unit_of_row (slice_get rows row)

abbrev pub holder_at : List AssetRow → AccountRow → Holder
holder_at rows k = (k.0, unit_at rows k.1)

-- what each account has of each fungible row
unfoldable pub row_amounts : List AssetRow → Held → RowAmounts
row_amounts rows held = map_keys (numbered rows) (restriction (has_row_number rows) held)

-- what is held of no fungible row
unfoldable pub held_aside : List AssetRow → Held → Held
held_aside rows held = restriction (λ (h : Holder). not (has_row_number rows h)) held

-- what accounts hold with these amounts of the fungible rows
unfoldable pub with_row_amounts : List AssetRow → Held → RowAmounts → Held
with_row_amounts rows held m = merge (held_aside rows held) (map_keys (holder_at rows) m)

-- no account must keep anything
abbrev pub no_floors : Floors
no_floors k = 0
