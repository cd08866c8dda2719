-- Checking accounts, row by row: which rows have one, and how its amount changes. This project's own rule.
use Rattle.std.specs.Prelude.{ℕ, ◌+◌, ◌-◌, ◌^◌, min, ◌&&◌, Bool, true, false, List, [], ◌∷◌, Option}
use Rattle.trust_tables.specs.declared.rows.AssetRow.{AssetRow}
use Rattle.network_steps.specs.Tests.{may_check}

-- only a row of an asset that has amounts has a checking account
abbrev pub are_checked : List AssetRow → List (Option ℕ) → Bool
are_checked [] cs = true
are_checked (row ∷ rows) [] = true
are_checked (row ∷ rows) (c ∷ cs) = may_check row.kind c && are_checked rows cs

-- an amount that rises, at most to 2^128-1, or falls, at most to 0
abbrev pub change_by : Bool → ℕ → ℕ → ℕ
change_by true n a = min (n + a) (2 ^ 128 - 1)
change_by false n a = n - a
