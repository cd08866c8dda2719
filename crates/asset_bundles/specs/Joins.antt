-- Two bundles as one. A sum saturates at 2^128-1, and an instance that both hold is kept once; what is
-- above is given up. This is the project's own rule.
use Rattle.std.specs.Prelude.{◌≡◌, ℕ, ◌-◌, ◌^◌, ◌≤◌, min, List, Option, Some, None}
use Rattle.amounts.specs.Amounts.{amount, merge}
use Rattle.asset_lists.specs.declared.units.Instance.{Instance}
use Rattle.asset_lists.specs.declared.units.Asset.{Asset}
use Rattle.asset_lists.specs.Units.{Unit}
use Rattle.asset_bundles.specs.Bundles.{Bundle, bundle_of, IsHolding}
use Rattle.asset_bundles.specs.Changed.{with_amounts}

-- the most that a bundle holds of a unit
abbrev pub most_of : Option Instance → ℕ
most_of None = 2 ^ 128 - 1
most_of (Some instance) = 1

abbrev pub within_most : Unit → ℕ → ℕ
within_most unit amount = min amount (most_of unit.1)

abbrev pub above_most : Unit → ℕ → ℕ
above_most unit amount = amount - most_of unit.1

-- what is kept of the sum of both, and what is given up
unfoldable pub Joined : Bundle → Bundle → Bundle
Joined m n = with_amounts within_most (merge m n)

unfoldable pub Excess : Bundle → Bundle → Bundle
Excess m n = with_amounts above_most (merge m n)

-- no amount is above the most that a bundle holds
abbrev pub IsWithinMost : Bundle → Type 0
IsWithinMost b = (unit : Unit) → amount b unit ≤ most_of unit.1

-- the assets of the bundle in holding order
pub record IsListOf (b : Bundle) (xs : List Asset) : Type 0 where
  pub holding : IsHolding xs
  pub bundle : bundle_of xs ≡ b
