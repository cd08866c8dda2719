-- The rows that the code keeps, as the book that they are.
use Rattle.std.specs.Prelude.{◌≡◌, ℕ, ◌+◌, ◌≤◌, min, Bool, true, false, not, if◌then◌else◌, List, [], ◌∷◌}
use Rattle.std.specs.Ordering.{eq_by_cmp, nat_cmp}
use Rattle.amounts.specs.Entries.{from_entries}
use Rattle.asset_bundles.specs.declared.book.Cause.{Cause}
use Rattle.asset_bundles.specs.declared.totals.Total.{Total}
use Rattle.asset_bundles.specs.declared.book.BookRow.{BookRow}
use Rattle.asset_bundles.specs.Books.{cause_index, Burn, Book, most_burned}
use Rattle.asset_lists.specs.Listed.{Listed, listed_cmp}
use Rattle.asset_bundles.specs.Totals.{total_value}

abbrev pub row_key : BookRow → Listed
row_key r = (r.id, r.kind)

-- the row of an asset of which nothing was burned
abbrev pub unburned_row : Listed → BookRow
unburned_row k =
    let none : Total = record { high = 0; low = 0 } in
    record { id = k.0; kind = k.1; burned = none; lost = none; merged = none; saturated = none }

abbrev pub total_for : Cause → BookRow → Total
total_for Cause.BurnAsset r = r.burned
total_for Cause.LostTeleport r = r.lost
total_for Cause.Merged r = r.merged
total_for Cause.Saturated r = r.saturated

abbrev pub entry_for : Cause → BookRow → Burn × ℕ
entry_for cause r = ((row_key r, cause), total_value (total_for cause r))

abbrev pub book_keys_in : List BookRow → List Listed
book_keys_in [] = []
book_keys_in (r ∷ rs) = row_key r ∷ book_keys_in rs

abbrev pub burn_entries_in : List BookRow → List (Burn × ℕ)
burn_entries_in [] = []
burn_entries_in (r ∷ rs) = entry_for Cause.BurnAsset r ∷ entry_for Cause.LostTeleport r ∷ entry_for Cause.Merged r ∷ entry_for Cause.Saturated r ∷ burn_entries_in rs

unfoldable pub book_of_rows : List BookRow → Book
book_of_rows rs = record { listed = book_keys_in rs; burns = from_entries (burn_entries_in rs) }

-- the total of the first row of an asset, or 0
abbrev pub total_at : Listed → Cause → List BookRow → ℕ
total_at k cause [] = 0
total_at k cause (r ∷ rs) = if eq_by_cmp listed_cmp k (row_key r) then total_value (total_for cause r) else total_at k cause rs

-- what was burned for all causes together: of the asset of a row, and of the first row of an asset
abbrev pub row_causes : BookRow → ℕ
row_causes r =
    total_value (total_for Cause.BurnAsset r) + total_value (total_for Cause.LostTeleport r)
    + total_value (total_for Cause.Merged r) + total_value (total_for Cause.Saturated r)

abbrev pub causes_at : Listed → List BookRow → ℕ
causes_at k rs =
    total_at k Cause.BurnAsset rs + total_at k Cause.LostTeleport rs + total_at k Cause.Merged rs
    + total_at k Cause.Saturated rs

-- no total is above the most that it holds
abbrev pub AreInRange : List BookRow → Type 0
AreInRange rs = (k : Listed) (cause : Cause) → total_at k cause rs ≤ most_burned

abbrev pub is_other_row : Listed → BookRow → Bool
is_other_row k r = not (eq_by_cmp listed_cmp k (row_key r))

abbrev pub is_cause : Cause → Cause → Bool
is_cause c d = eq_by_cmp nat_cmp (cause_index c) (cause_index d)

-- a row with so much more for one cause
pub record IsBurned (cause : Cause) (n : ℕ) (old new : BookRow) : Type 0 where
  pub key : row_key new ≡ row_key old
  pub totals : (c : Cause) → total_value (total_for c new) ≡ (if is_cause c cause then min (total_value (total_for c old) + n) most_burned else total_value (total_for c old))

abbrev pub CasesOf : Bool → Type 0 → Type 0 → Type 0
CasesOf true P Q = P
CasesOf false P Q = Q

-- the first row of the asset with so much more
abbrev pub IsBooked : Listed → Cause → ℕ → List BookRow → List BookRow → Type 0
IsBooked k cause n [] new = new ≡ []
IsBooked k cause n (r ∷ rs) [] = ⊥
IsBooked k cause n (r ∷ rs) (s ∷ ss) = CasesOf (eq_by_cmp listed_cmp k (row_key r)) (IsBurned cause n r s × (ss ≡ rs)) ((s ≡ r) × IsBooked k cause n rs ss)
