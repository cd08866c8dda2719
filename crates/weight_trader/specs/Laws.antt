-- What purchases and refunds do to payments, to what is paid and to the book, over any list of them. This project's own rule.
use Rattle.std.specs.Prelude.{◌≡◌, ℕ, ◌+◌, ◌-◌, ◌<◌, ◌≤◌, min, List, [], ◌∷◌, Option, Some, None}
use Rattle.locations.specs.declared.relative.Location.{Location}
use Rattle.asset_lists.specs.declared.units.AssetId.{AssetId}
use Rattle.asset_lists.specs.declared.units.Kind.{Kind}
use Rattle.operands.specs.declared.weight.Weight.{Weight}
use Rattle.amounts.specs.Amounts.{amount, empty, single, merge}
use Rattle.asset_lists.specs.Units.{Unit}
use Rattle.asset_bundles.specs.declared.book.Cause.{Cause}
use Rattle.asset_bundles.specs.Bundles.{Bundle}
use Rattle.asset_bundles.specs.Books.{Book, Booked, most_burned, cause_index}
use Rattle.asset_lists.specs.Listed.{Listed, listed_of}
use Rattle.weight_trader.specs.declared.rate.Rate.{Rate}
use Rattle.weight_trader.specs.Prices.{price}
use Rattle.weight_trader.specs.Purchases.{Line, new_lines, coin_of, AreRatesListed, AreWithinEnd, paying, IsTooExpensive, unspent_at, excess, excess_of, Bought, with_saturated, IsPurchase, paid_goods}
use Rattle.weight_trader.specs.Refunds.{refund_of, goods_of, Refunded, Closed}

-- a purchase of weight with a payment, a refund of weight, or the closing of the record
pub data Move : Type 0 where
  Purchase : Weight → Bundle → Move
  Refund : Weight → Move
  Closing : Move

-- the record after it
abbrev pub lines_after : Move → List Line → List Line
lines_after (Purchase w payment) lines = Bought w payment lines
lines_after (Refund w) lines = Refunded w lines
lines_after Closing lines = Closed lines

abbrev pub book_by : Weight → Option Line → Book → Book
book_by w None book = book
book_by w (Some line) book = with_saturated (listed_of (coin_of line.rate)) (excess w line) book

-- the book after it
abbrev pub book_after : Move → List Line → Book → Book
book_after (Purchase w payment) lines book = book_by w (paying w payment lines) book
book_after (Refund w) lines book = book
book_after Closing lines book = book

-- what it takes in
abbrev pub payment_of_move : Move → List Line → Bundle
payment_of_move (Purchase w payment) lines = payment
payment_of_move (Refund w) lines = empty
payment_of_move Closing lines = empty

abbrev pub unspent_by : Weight → Bundle → Option Line → Bundle
unspent_by w payment None = payment
unspent_by w payment (Some line) = unspent_at w payment line

-- what it hands back of the payment, which is all of it where it is too little
abbrev pub unspent_of : Move → List Line → Bundle
unspent_of (Purchase w payment) lines = unspent_by w payment (paying w payment lines)
unspent_of (Refund w) lines = empty
unspent_of Closing lines = empty

abbrev pub saturated_by : Weight → Option Line → Bundle
saturated_by w None = empty
saturated_by w (Some line) = single (coin_of line.rate) (excess w line)

-- what it books as saturated
abbrev pub saturated_of : Move → List Line → Bundle
saturated_of (Purchase w payment) lines = saturated_by w (paying w payment lines)
saturated_of (Refund w) lines = empty
saturated_of Closing lines = empty

abbrev pub paid_by : Weight → Option Line → Bundle
paid_by w None = empty
paid_by w (Some line) = single (coin_of line.rate) (price line.rate w - excess w line)

-- what it adds to what is paid
abbrev pub paid_of : Move → List Line → Bundle
paid_of (Purchase w payment) lines = paid_by w (paying w payment lines)
paid_of (Refund w) lines = empty
paid_of Closing lines = empty

-- what it gives back as a refund, or hands out where the record is closed
abbrev pub given_of : Move → List Line → Bundle
given_of (Purchase w payment) lines = empty
given_of (Refund w) lines = goods_of (refund_of w lines)
given_of Closing lines = paid_goods lines

-- the record after all moves, one after the other
abbrev pub lines_after_all : List Move → List Line → List Line
lines_after_all [] lines = lines
lines_after_all (m ∷ ms) lines = lines_after_all ms (lines_after m lines)

-- the book after all moves
abbrev pub book_after_all : List Move → List Line → Book → Book
book_after_all [] lines book = book
book_after_all (m ∷ ms) lines book = book_after_all ms (lines_after m lines) (book_after m lines book)

-- what is booked as saturated of a unit's asset
abbrev pub booked_of : Unit → Book → ℕ
booked_of unit book = amount book.burns (listed_of unit, Cause.Saturated)

-- how much of a unit all moves take or give together
abbrev pub summed : (Move → List Line → Bundle) → Unit → List Move → List Line → ℕ
summed part unit [] lines = 0
summed part unit (m ∷ ms) lines = amount (part m lines) unit + summed part unit ms (lines_after m lines)

-- no amount that is paid passes its end: not in a new record, and not after moves
abbrev pub EndsAreKept : Type 0
EndsAreKept = (moves : List Move) (lines : List Line) → AreWithinEnd lines → AreWithinEnd (lines_after_all moves lines)

abbrev pub NewLinesAreWithinEnd : Type 0
NewLinesAreWithinEnd = (rates : List Rate) → AreWithinEnd (new_lines rates)

-- what comes in as payment is what is handed back unspent, what is paid and what is booked as saturated
abbrev pub PaymentsAreKept : Type 0
PaymentsAreKept = (moves : List Move) (lines : List Line) (unit : Unit) → AreWithinEnd lines
    → summed payment_of_move unit moves lines ≡ summed unspent_of unit moves lines + summed paid_of unit moves lines + summed saturated_of unit moves lines

-- a refund is taken from what is paid
abbrev pub RefundsArePaid : Type 0
RefundsArePaid = (moves : List Move) (lines : List Line) (unit : Unit) → AreWithinEnd lines
    → summed given_of unit moves lines + amount (paid_goods (lines_after_all moves lines)) unit ≡ amount (paid_goods lines) unit + summed paid_of unit moves lines

-- what a new trader has given back is at most what was paid
abbrev pub RefundsAreCovered : Type 0
RefundsAreCovered = (moves : List Move) (rates : List Rate) (unit : Unit) → summed given_of unit moves (new_lines rates) ≤ summed paid_of unit moves (new_lines rates)

-- what would pass the end of what is paid is booked as saturated, as far as there is room in the total
abbrev pub ExcessIsBooked : Type 0
ExcessIsBooked = (moves : List Move) (lines : List Line) (book : Book) (unit : Unit)
    → booked_of unit (book_after_all moves lines book) ≡ booked_of unit book + min (summed saturated_of unit moves lines) (most_burned - booked_of unit book)

-- nothing is booked for any other cause
abbrev pub OthersAreKept : Type 0
OthersAreKept = (moves : List Move) (lines : List Line) (book : Book) (asset : Listed) (cause : Cause) → cause_index cause < cause_index Cause.Saturated
    → amount (book_after_all moves lines book).burns (asset, cause) ≡ amount book.burns (asset, cause)

abbrev pub book_with : Option (Location × ℕ) → Book → Book
book_with None book = book
book_with (Some told) book = Booked book (single ((AssetId.Concrete told.0, Kind.Fungible), Cause.Saturated) told.1)

-- what `excess_of` tells before a purchase is what the purchase books
abbrev pub ExcessIsTold : Type 0
ExcessIsTold = (w : Weight) (payment : Bundle) (lines : List Line) (book : Book) → book_after (Purchase w payment) lines book ≡ book_with (excess_of w payment lines) book

-- what comes in as payment is what is handed back unspent, what is paid and what the book then has more as saturated, as long as its total is
-- below its end
abbrev pub PaymentsAreBooked : Type 0
PaymentsAreBooked = (moves : List Move) (lines : List Line) (book : Book) (unit : Unit) → AreWithinEnd lines → booked_of unit (book_after_all moves lines book) < most_burned
    → summed payment_of_move unit moves lines + booked_of unit book
    ≡ summed unspent_of unit moves lines + summed paid_of unit moves lines + booked_of unit (book_after_all moves lines book)

-- what one move takes in is what it hands back unspent, what it adds to what is paid and what it books; what it gives and what is paid
-- after it is what was paid before it and what it adds: equations of bundles, so of each sum of their amounts
abbrev pub MovesAreKept : Type 0
MovesAreKept = (m : Move) (lines : List Line) → AreWithinEnd lines
    → (payment_of_move m lines ≡ merge (unspent_of m lines) (merge (paid_of m lines) (saturated_of m lines)))
    × (merge (given_of m lines) (paid_goods (lines_after m lines)) ≡ merge (paid_goods lines) (paid_of m lines))

-- the assets of the rates are still listed after all moves
abbrev pub RowsAreKept : Type 0
RowsAreKept = (moves : List Move) (lines : List Line) (book : Book) → AreRatesListed book.listed lines
    → AreRatesListed (book_after_all moves lines book).listed (lines_after_all moves lines)

-- a call that buys is the move: what it hands back, the record and the book after it
abbrev pub PurchasesAreMoves : Type 0
PurchasesAreMoves = (w : Weight) (payment left : Bundle) (lines lines_then : List Line) (book book_then : Book) → IsPurchase w payment lines book left lines_then book_then
    → (left ≡ unspent_of (Purchase w payment) lines) × (lines_then ≡ lines_after (Purchase w payment) lines) × (book_then ≡ book_after (Purchase w payment) lines book)

-- and so is one that is refused
abbrev pub RefusalsAreMoves : Type 0
RefusalsAreMoves = (w : Weight) (payment : Bundle) (lines : List Line) (book : Book) → IsTooExpensive w payment lines
    → (payment ≡ unspent_of (Purchase w payment) lines) × (lines ≡ lines_after (Purchase w payment) lines) × (book ≡ book_after (Purchase w payment) lines book)
