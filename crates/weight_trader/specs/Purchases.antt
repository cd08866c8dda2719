-- A trader's record, and what a purchase of weight does to it. Source: xcm-executor's documentation of traders (buying weight). More
-- rates than one, and the ends at which numbers saturate, are this project's own rule.
use Rattle.std.specs.Prelude.{◌≡◌, ℕ, zero, suc, ◌+◌, ◌-◌, ◌^◌, ◌<◌, ◌≤◌, min, Bool, IsTrue, nat_eq, nat_le, if◌then◌else◌, List, map, Option, Some, None}
use Rattle.std.specs.List.{find, count_by, AllByRecursion}
use Rattle.std.specs.Ordering.{eq_by_cmp}
use Rattle.locations.specs.declared.relative.Location.{Location}
use Rattle.locations.specs.Order.{location_cmp}
use Rattle.operands.specs.declared.weight.Weight.{Weight}
use Rattle.amounts.specs.Amounts.{amount, single, minus, from_rows}
use Rattle.asset_lists.specs.declared.units.AssetId.{AssetId}
use Rattle.asset_lists.specs.Units.{Unit}
use Rattle.asset_bundles.specs.declared.book.Cause.{Cause}
use Rattle.asset_bundles.specs.Bundles.{Bundle}
use Rattle.asset_bundles.specs.Books.{Book, Booked}
use Rattle.asset_lists.specs.Listed.{Listed, listed_of, lists}
use Rattle.plain_lists.specs.Firsts.{change_first}
use Rattle.weight_trader.specs.declared.rate.Rate.{Rate}
use Rattle.weight_trader.specs.Prices.{price}

-- ---- the record: a line for each rate, in listed order

-- what is bought at a rate, and what is paid for it in its asset, in the smallest unit
pub record Line : Type 0 where
  pub rate : Rate
  pub bought : Weight
  pub paid : ℕ

abbrev pub no_weight : Weight
no_weight = record { ref_time = 0; proof_size = 0 }

-- a line at which nothing is bought
abbrev pub new_line : Rate → Line
new_line rate = record { rate = rate; bought = no_weight; paid = 0 }

-- the record with nothing bought
abbrev pub new_lines : List Rate → List Line
new_lines rates = map new_line rates

-- the unit that a rate is paid in
abbrev pub coin_of : Rate → Unit
coin_of rate = (AssetId.Concrete rate.asset, None)

abbrev pub is_in : Location → Rate → Bool
is_in asset rate = eq_by_cmp location_cmp rate.asset asset

-- no two rates name the same asset
abbrev pub NameEachOnce : List Rate → Type 0
NameEachOnce rates = (asset : Location) → count_by (is_in asset) rates ≤ 1

-- no two lines are of the same asset
abbrev pub AreApart : List Line → Type 0
AreApart lines = (asset : Location) → count_by (λ (line : Line). is_in asset line.rate) lines ≤ 1

-- all that is still paid
unfoldable pub paid_goods : List Line → Bundle
paid_goods lines = from_rows (map (λ (line : Line). (coin_of line.rate, line.paid)) lines)

-- the asset of each rate is listed
abbrev pub AreRatesListed : List Listed → List Line → Type 0
AreRatesListed listed lines = AllByRecursion (λ (line : Line). IsTrue (lists listed (listed_of (coin_of line.rate)))) lines

-- no amount that is paid is above the most of an amount
abbrev pub AreWithinEnd : List Line → Type 0
AreWithinEnd lines = AllByRecursion (λ (line : Line). line.paid ≤ 2 ^ 128 - 1) lines

-- ---- a purchase

-- the payment has the price in the rate's asset
abbrev pub is_covered : Weight → Bundle → Line → Bool
is_covered w payment line = nat_le (price line.rate w) (amount payment (coin_of line.rate))

-- the line that is bought at: the first in listed order whose price the payment covers
abbrev pub paying : Weight → Bundle → List Line → Option Line
paying w payment lines = find (is_covered w payment) lines

-- each price passes what the payment has
abbrev pub IsTooExpensive : Weight → Bundle → List Line → Type 0
IsTooExpensive w payment lines = AllByRecursion (λ (line : Line). amount payment (coin_of line.rate) < price line.rate w) lines

-- more weight; each dimension saturates at 2^64-1
abbrev pub weight_plus : Weight → Weight → Weight
weight_plus v w = record { ref_time = min (v.ref_time + w.ref_time) (2 ^ 64 - 1); proof_size = min (v.proof_size + w.proof_size) (2 ^ 64 - 1) }

-- a line after weight is bought at it: nothing is recorded where the price is 0, and what is paid saturates at 2^128-1
abbrev pub with_purchase : Weight → Line → Line
with_purchase w line =
    if nat_eq (price line.rate w) 0
    then line
    else (record { rate = line.rate; bought = weight_plus line.bought w; paid = min (line.paid + price line.rate w) (2 ^ 128 - 1) })

-- what would pass that
abbrev pub excess : Weight → Line → ℕ
excess w line = line.paid + price line.rate w - (2 ^ 128 - 1)

-- an amount of an asset, if it isn't 0
abbrev pub some_amount : Location → ℕ → Option (Location × ℕ)
some_amount asset zero = None
some_amount asset (suc n) = Some (asset, suc n)

abbrev pub excess_at : Weight → Option Line → Option (Location × ℕ)
excess_at w None = None
excess_at w (Some line) = some_amount line.rate.asset (excess w line)

-- what a purchase would book as saturated: the asset, and the amount in its smallest unit; none where that is 0
abbrev pub excess_of : Weight → Bundle → List Line → Option (Location × ℕ)
excess_of w payment lines = excess_at w (paying w payment lines)

-- the record after a purchase
unfoldable pub Bought : Weight → Bundle → List Line → List Line
Bought w payment lines = change_first (is_covered w payment) (with_purchase w) lines

-- what is left of the payment
abbrev pub unspent_at : Weight → Bundle → Line → Bundle
unspent_at w payment line = minus payment (coin_of line.rate) (price line.rate w)

-- the book with so much of an asset that would have passed the end
abbrev pub with_saturated : Listed → ℕ → Book → Book
with_saturated asset zero book = book
with_saturated asset (suc n) book = Booked book (single (asset, Cause.Saturated) (suc n))

-- a purchase at a line: what is left of the payment, and the record and the book after it
pub record IsPurchase (w : Weight) (payment : Bundle) (lines : List Line) (book : Book) (left : Bundle) (lines_after : List Line) (book_after : Book) : Type 0 where
  pub line : Line
  pub first : paying w payment lines ≡ Some line
  pub left_is : left ≡ unspent_at w payment line
  pub lines_are : lines_after ≡ Bought w payment lines
  pub book_is : book_after ≡ with_saturated (listed_of (coin_of line.rate)) (excess w line) book
