-- The book of burns: for each listed asset and each cause a total, which saturates at 2^160-1. This is the
-- project's own rule.
use Rattle.std.specs.Prelude.{ℕ, ◌+◌, ◌-◌, ◌^◌, ◌<◌, ◌≤◌, min, Bool, IsTrue, List, Option, Some, None}
use Rattle.std.specs.Ordering.{nat_cmp, on, then_cmp, eq_by_cmp}
use Rattle.std.specs.declared.cmp.Ordering.{Ordering}
use Rattle.amounts.specs.Amounts.{Amounts, amount, merge, map_keys}
use Rattle.asset_lists.specs.declared.units.AssetId.{AssetId}
use Rattle.asset_lists.specs.declared.units.Instance.{Instance}
use Rattle.asset_lists.specs.declared.units.Kind.{Kind}
use Rattle.asset_lists.specs.Units.{Unit}
use Rattle.asset_lists.specs.Listed.{Listed, listed_cmp, listed_of, lists}
use Rattle.asset_bundles.specs.Bundles.{Bundle}
use Rattle.asset_bundles.specs.Changed.{with_amounts}
use Rattle.asset_bundles.specs.Joins.{Excess}
use Rattle.asset_bundles.specs.declared.book.Cause.{Cause}

abbrev pub cause_index : Cause → ℕ
cause_index Cause.BurnAsset = 0
cause_index Cause.LostTeleport = 1
cause_index Cause.Merged = 2
cause_index Cause.Saturated = 3

-- what a total of the book is of: an asset, and why it was given up
abbrev pub Burn : Type 0
Burn = Listed × Cause

abbrev pub burn_cmp : Burn → Burn → Ordering
burn_cmp = then_cmp (on (λ (k : Burn). k.0) listed_cmp) (on (λ (k : Burn). cause_index k.1) nat_cmp)

abbrev pub Burns : Type 0
Burns = Amounts burn_cmp

-- the book: the assets that it lists, and what was burned
pub record Book : Type 0 where
  pub listed : List Listed
  pub burns : Burns

-- what was burned of an asset, for all causes together
abbrev pub burned_by_any_cause : Burns → AssetId → Kind → ℕ
burned_by_any_cause burns id kind =
    amount burns ((id, kind), Cause.BurnAsset) + amount burns ((id, kind), Cause.LostTeleport)
    + amount burns ((id, kind), Cause.Merged) + amount burns ((id, kind), Cause.Saturated)

-- why units above the limits of a bundle are given up
abbrev pub excess_cause : Option Instance → Cause
excess_cause None = Cause.Saturated
excess_cause (Some instance) = Cause.Merged

-- all units of a bundle, burned for one cause
unfoldable pub burned_for : Cause → Bundle → Burns
burned_for cause b = map_keys (λ unit. (listed_of unit, cause)) b

-- what a join gives up
unfoldable pub given_up : Bundle → Bundle → Burns
given_up m n = map_keys (λ (unit : Unit). (listed_of unit, excess_cause unit.1)) (Excess m n)

-- the most that a total of the book holds
abbrev pub most_burned : ℕ
most_burned = 2 ^ 160 - 1

-- what of these burns there is room for below the most that a total holds
unfoldable pub WithRoom : Burns → Burns → Burns
WithRoom burns more = with_amounts (λ k n. min n (most_burned - amount burns k)) more

-- the book with these burns added: each total rises by them, and saturates
unfoldable pub Booked : Book → Burns → Book
Booked book more = record { listed = book.listed; burns = merge book.burns (WithRoom book.burns more) }

-- no total is above the most that it holds
abbrev pub AreTotals : Burns → Type 0
AreTotals burns = (k : Burn) → amount burns k ≤ most_burned

-- each asset of the bundle is listed
abbrev pub AreListed : List Listed → Bundle → Type 0
AreListed listed goods = (unit : Unit) → 0 < amount goods unit → IsTrue (lists listed (listed_of unit))

-- the units, and the burns, of the assets that pass a test
abbrev pub is_unit_where : (Listed → Bool) → Unit → Bool
is_unit_where test unit = test (listed_of unit)

abbrev pub is_burn_where : (Listed → Bool) → Burn → Bool
is_burn_where test burn = test burn.0

-- those of one asset
abbrev pub is_unit_of : Listed → Unit → Bool
is_unit_of k = is_unit_where (eq_by_cmp listed_cmp k)
