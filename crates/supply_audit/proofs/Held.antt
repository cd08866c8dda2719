-- What an account has, row by row of a chain's list.
use Rattle.std.specs.Prelude.{◌≡◌, ℕ, zero, suc, List, [], ◌∷◌, get_or, map, refl, slice_get}
use Rattle.asset_lists.specs.Listed.{Listed}
use Rattle.trust_tables.specs.declared.rows.AssetRow.{AssetRow}
use Rattle.trust_tables.specs.Trust.{listing}
use Rattle.supply_audit.specs.RowPlaces.{figure_of_row}

pub held_in_row : (has : Listed → ℕ) (rows : List AssetRow) (row : ℕ) → get_or (map has (listing rows)) row 0 ≡ figure_of_row (λ id kind. has (id, kind)) (slice_get rows row)
held_in_row has [] row = refl
held_in_row has (x ∷ rows) zero = refl
held_in_row has (x ∷ rows) (suc row) = held_in_row has rows row
