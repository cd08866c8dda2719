-- Running sums over traps: a row for each asset that was ever trapped, with how much of it lies in all traps. A sum saturates at 2^160-1.
use Rattle.std.specs.Prelude.{ℕ, ◌+◌, ◌-◌, nat_lt, min, Bool, if◌then◌else◌, List, map}
use Rattle.std.specs.List.{find}
use Rattle.std.specs.Option.{option_map_or}
use Rattle.std.specs.Ordering.{eq_by_cmp}
use Rattle.amounts.specs.Amounts.{total}
use Rattle.asset_lists.specs.Listed.{Listed, listed_cmp}
use Rattle.asset_bundles.specs.Bundles.{Bundle, is_asset}
use Rattle.asset_bundles.specs.Books.{most_burned}
use Rattle.asset_bundles.specs.declared.trap.Trap.{Trap}
use Rattle.asset_bundles.specs.Traps.{trapped_amount}

-- an asset, and how much of it there is
abbrev pub SumRow : Type 0
SumRow = Listed × ℕ

abbrev pub is_row : Listed → SumRow → Bool
is_row k row = eq_by_cmp listed_cmp k row.0

abbrev pub keys_in : List SumRow → List Listed
keys_in rows = map (λ (row : SumRow). row.0) rows

-- what the first row of an asset says; 0 where there is none
abbrev pub sum_at : Listed → List SumRow → ℕ
sum_at k rows = option_map_or (λ (row : SumRow). row.1) (find (is_row k) rows) 0

-- how much of a row's asset is in a bundle
abbrev pub listed_amount : Bundle → Listed → ℕ
listed_amount goods k = total (is_asset k.0 k.1) goods

-- the row with these goods more
abbrev pub raised_sum_row : Bundle → SumRow → SumRow
raised_sum_row goods row = (row.0, min (row.1 + listed_amount goods row.0) most_burned)

-- the row where these goods were taken out and these traps are left: a sum that saturated is counted anew
abbrev pub settled_sum_row : Bundle → List Trap → SumRow → SumRow
settled_sum_row goods traps row = (row.0, if nat_lt row.1 most_burned then row.1 - listed_amount goods row.0 else min (trapped_amount row.0.0 row.0.1 traps) most_burned)
