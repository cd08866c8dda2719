-- What a chain keeps of the fees for deliveries. This project's own.
--     kept_goods fees      what is kept, as a bundle
--     has_row fees unit      there is a row for the unit
--     Kept fees more      a bundle of fees with more of them
use Rattle.std.specs.Prelude.{◌≡◌, ℕ, ◌+◌, ◌-◌, ◌<◌, min, Bool, IsTrue, ◌&&◌, nat_lt, if◌then◌else◌, List, [], ◌∷◌, None, is_some, is_none}
use Rattle.std.specs.FinMap.{find}
use Rattle.amounts.specs.Amounts.{amount, from_rows, merge}
use Rattle.asset_lists.specs.declared.units.AssetId.{AssetId}
use Rattle.asset_lists.specs.declared.units.Kind.{Kind}
use Rattle.asset_lists.specs.Units.{Unit, unit_cmp}
use Rattle.asset_lists.specs.Listed.{Listed, listed_of, lists}
use Rattle.asset_bundles.specs.Bundles.{Bundle}
use Rattle.asset_bundles.specs.Books.{most_burned}
use Rattle.asset_bundles.specs.Changed.{with_amounts}

-- a unit, and how much of it is kept
abbrev pub Fee : Type 0
Fee = Unit × ℕ

-- all rows, as a bundle
unfoldable pub kept_goods : List Fee → Bundle
kept_goods fees = from_rows fees

abbrev pub has_row : List Fee → Unit → Bool
has_row fees unit = is_some (find unit_cmp unit fees)

-- the unit is of a fungible asset that is listed
abbrev pub is_coin : List Listed → Unit → Bool
is_coin listed unit = is_none unit.1 && lists listed (listed_of unit)

-- just the fungible ones of the listed assets have a row
abbrev pub HaveRows : List Listed → List Fee → Type 0
HaveRows listed fees = (unit : Unit) → has_row fees unit ≡ is_coin listed unit

-- each asset of the goods has a row
abbrev pub HaveRowsFor : List Fee → Bundle → Type 0
HaveRowsFor fees goods = (unit : Unit) → 0 < amount goods unit → IsTrue (has_row fees unit)

-- fees with more of them, asset by asset; each sum saturates at 2^160-1
unfoldable pub saturated_fees : Bundle → Bundle → Bundle
saturated_fees fees more = merge fees (with_amounts (λ (unit : Unit) n. min n (most_burned - amount fees unit)) more)

-- ---- row by row

-- the ids of the fungible ones of these assets
abbrev pub fungible_ids : List Listed → List AssetId
fungible_ids [] = []
fungible_ids ((id, Kind.Fungible) ∷ rest) = id ∷ fungible_ids rest
fungible_ids ((id, Kind.Class) ∷ rest) = fungible_ids rest

abbrev pub no_fee : AssetId → Fee
no_fee id = ((id, None), 0)

-- a row with what the goods have of its asset more
abbrev pub raised_fee : Bundle → Fee → Fee
raised_fee goods fee = (fee.0, fee.1 + min (amount goods fee.0) (most_burned - fee.1))

abbrev pub cleared : Fee → Fee
cleared fee = (fee.0, 0)

-- a row with an amount, if it isn't 0
abbrev pub some_row : Unit → ℕ → List Fee
some_row unit n = if nat_lt 0 n then (unit, n) ∷ [] else []
