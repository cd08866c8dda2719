-- What purchases book, over any list of moves.
use Rattle.std.proofs.Common.{◌≡◌, ℕ, zero, suc, ◌+◌, ◌-◌, ◌<◌, false, List, [], ◌∷◌, Option, Some, None, refl, sym, ap, ◌∙◌, subst, arith}
use Rattle.std.specs.Prelude.{min}
use Rattle.std.specs.Ordering.{eq_by_cmp, is_eq, ordering_then}
use Rattle.std.specs.declared.cmp.Ordering.{Ordering}
use Rattle.std.specs.declared.cmp.Ordering.TheVariants.{Less, Equal, Greater}
use Rattle.operands.specs.declared.weight.Weight.{Weight}
use Rattle.amounts.specs.Rows.{amount_if}
use Rattle.amounts.proofs.Lemmas.Rows.{amount_if-zero}
use Rattle.amounts.specs.Amounts.{amount, single}
use Rattle.amounts.proofs.Lemmas.AmountLaws.{amount-empty}
use Rattle.amounts.proofs.Lemmas.{amount-single}
use Rattle.locations.specs.declared.relative.Location.{Location}
use Rattle.asset_lists.specs.declared.units.AssetId.TheVariants.{Concrete}
use Rattle.asset_lists.specs.declared.units.Kind.{Kind}
use Rattle.asset_lists.specs.Units.{Unit, unit_cmp, asset_id_cmp}
use Rattle.asset_bundles.specs.declared.book.Cause.{Cause}
use Rattle.asset_bundles.proofs.Lemmas.Bundles.{unit_keys}
use Rattle.asset_bundles.specs.Books.{Book, most_burned, Booked, Burn, burn_cmp, cause_index}
use Rattle.asset_lists.specs.Listed.{Listed, listed_cmp, listed_of}
use Rattle.asset_bundles.proofs.Lemmas.{burn_keys, amount-Booked}
use Rattle.weight_trader.specs.declared.rate.Rate.{Rate}
use Rattle.weight_trader.specs.Purchases.{Line, coin_of, AreRatesListed, paying, excess, some_amount, excess_at, Bought, with_saturated}
use Rattle.weight_trader.proofs.Lemmas.ListedLaws.{bought_listed, saturated_rows, refunded_listed, closed_listed}
use Rattle.weight_trader.specs.Laws.{Move, Purchase, Refund, Closing, lines_after, unspent_by, saturated_by, saturated_of, book_by, book_after, book_with, booked_of, ExcessIsBooked, ExcessIsTold, OthersAreKept, PaymentsAreBooked, RowsAreKept, PurchasesAreMoves, RefusalsAreMoves}
use Rattle.weight_trader.proofs.Charging.{paying_none, bought_none}
use Rattle.weight_trader.proofs.Trading.{payments_kept}

-- ---- the burns of a unit's asset

abbrev pub saturated_burn : Unit → Burn
saturated_burn unit = (listed_of unit, Cause.Saturated)

same_fungible : (o : Ordering) → is_eq (ordering_then (ordering_then o Equal) Equal) ≡ is_eq (ordering_then o Equal)
same_fungible Less = refl
same_fungible Equal = refl
same_fungible Greater = refl

no_class : (o : Ordering) → is_eq (ordering_then (ordering_then o Greater) Equal) ≡ false
no_class Less = refl
no_class Equal = refl
no_class Greater = refl

same_burn : (u : Unit) (rate : Rate) → eq_by_cmp burn_cmp (saturated_burn u) (saturated_burn (coin_of rate)) ≡ eq_by_cmp unit_cmp u (coin_of rate)
same_burn (id, None) rate = same_fungible (asset_id_cmp id (Concrete rate.asset))
same_burn (id, Some instance) rate = no_class (asset_id_cmp id (Concrete rate.asset))

-- ---- one move

booked_here : (u : Unit) (rate : Rate) (n : ℕ) (book : Book)
    → booked_of u (with_saturated (listed_of (coin_of rate)) n book) ≡ booked_of u book + min (amount (single {R = unit_cmp} (coin_of rate) n) u) (most_burned - booked_of u book)
booked_here u rate zero book =
    let one = amount-single unit_keys (coin_of rate) 0 u in
    let none = amount_if-zero (eq_by_cmp unit_cmp u (coin_of rate)) in
    omega (arith, one, none)
booked_here u rate (suc n) book =
    let booked = amount-Booked book (single (saturated_burn (coin_of rate)) (suc n)) (saturated_burn u) in
    let more = amount-single burn_keys (saturated_burn (coin_of rate)) (suc n) (saturated_burn u) in
    let same = ap (λ b. amount_if b (suc n)) (same_burn u rate) in
    let one = amount-single unit_keys (coin_of rate) (suc n) u in
    omega (arith, booked, more, same, one)

booked_by : (w : Weight) (o : Option Line) (book : Book) (u : Unit)
    → booked_of u (book_by w o book) ≡ booked_of u book + min (amount (saturated_by w o) u) (most_burned - booked_of u book)
booked_by w None book u = let none = amount-empty unit_keys u in omega (arith, none)
booked_by w (Some l) book u = booked_here u l.rate (excess w l) book

move_booked : (m : Move) (lines : List Line) (book : Book) (u : Unit)
    → booked_of u (book_after m lines book) ≡ booked_of u book + min (amount (saturated_of m lines) u) (most_burned - booked_of u book)
move_booked (Purchase w payment) lines book u = booked_by w (paying w payment lines) book u
move_booked (Refund w) lines book u = let none = amount-empty unit_keys u in omega (arith, none)
move_booked Closing lines book u = let none = amount-empty unit_keys u in omega (arith, none)

-- ---- other causes

earlier_cause : (o : Ordering) → is_eq (ordering_then o Less) ≡ false
earlier_cause Less = refl
earlier_cause Equal = refl
earlier_cause Greater = refl

other_burn : (asset row : Listed) (cause : Cause) → cause_index cause < cause_index Cause.Saturated → eq_by_cmp burn_cmp (asset, cause) (row, Cause.Saturated) ≡ false
other_burn asset row Cause.BurnAsset lt = earlier_cause (listed_cmp asset row)
other_burn asset row Cause.LostTeleport lt = earlier_cause (listed_cmp asset row)
other_burn asset row Cause.Merged lt = earlier_cause (listed_cmp asset row)
other_burn asset row Cause.Saturated lt = absurd (omega (arith, lt))

module _ (asset : Listed) (cause : Cause) (other : cause_index cause < cause_index Cause.Saturated) where
  other_here : (row : Listed) (n : ℕ) (book : Book) → amount (with_saturated row n book).burns (asset, cause) ≡ amount book.burns (asset, cause)
  other_here row zero book = refl
  other_here row (suc n) book =
      let booked = amount-Booked book (single (row, Cause.Saturated) (suc n)) (asset, cause) in
      let more = amount-single burn_keys (row, Cause.Saturated) (suc n) (asset, cause) in
      let none = ap (λ b. amount_if b (suc n)) (other_burn asset row cause other) in
      omega (arith, booked, more, none)

  other_by : (w : Weight) (o : Option Line) (book : Book) → amount (book_by w o book).burns (asset, cause) ≡ amount book.burns (asset, cause)
  other_by w None book = refl
  other_by w (Some l) book = other_here (listed_of (coin_of l.rate)) (excess w l) book

  other_move : (m : Move) (lines : List Line) (book : Book) → amount (book_after m lines book).burns (asset, cause) ≡ amount book.burns (asset, cause)
  other_move (Purchase w payment) lines book = other_by w (paying w payment lines) book
  other_move (Refund w) lines book = refl
  other_move Closing lines book = refl

-- ---- all moves

pub others_kept : OthersAreKept
others_kept [] lines book asset cause other = refl
others_kept (m ∷ ms) lines book asset cause other =
    others_kept ms (lines_after m lines) (book_after m lines book) asset cause other ∙ other_move asset cause other m lines book

pub excess_booked : ExcessIsBooked
excess_booked [] lines book u = omega arith
excess_booked (m ∷ ms) lines book u =
    let here = move_booked m lines book u in
    let rest = excess_booked ms (lines_after m lines) (book_after m lines book) u in
    omega (arith, here, rest)

-- what is told before a purchase
told_of : (row : Listed) (n : ℕ) (book : Book) (asset : Location) → row ≡ (Concrete asset, Kind.Fungible)
    → with_saturated row n book ≡ book_with (some_amount asset n) book
told_of row zero book asset is = refl
told_of row (suc n) book asset is = ap (λ (r : Listed). Booked book (single (r, Cause.Saturated) (suc n))) is

told_by : (w : Weight) (o : Option Line) (book : Book) → book_by w o book ≡ book_with (excess_at w o) book
told_by w None book = refl
told_by w (Some l) book = told_of (listed_of (coin_of l.rate)) (excess w l) book l.rate.asset refl

pub excess_told : ExcessIsTold
excess_told w payment lines book = told_by w (paying w payment lines) book

pub payments_booked : PaymentsAreBooked
payments_booked moves lines book u all below =
    let kept = payments_kept moves lines u all in
    let booked = excess_booked moves lines book u in
    omega (arith, kept, booked, below)

listed_by : (w : Weight) (o : Option Line) (book : Book) → (book_by w o book).listed ≡ book.listed
listed_by w None book = refl
listed_by w (Some l) book = saturated_rows (listed_of (coin_of l.rate)) (excess w l) book

move_listed : (m : Move) (lines : List Line) (book : Book) → AreRatesListed book.listed lines → AreRatesListed (book_after m lines book).listed (lines_after m lines)
move_listed (Purchase w payment) lines book listed =
    subst (λ rows. AreRatesListed rows (Bought w payment lines)) (sym (listed_by w (paying w payment lines) book)) (bought_listed w payment lines book.listed listed)
move_listed (Refund w) lines book listed = refunded_listed w lines book.listed listed
move_listed Closing lines book listed = closed_listed lines book.listed listed

pub rows_kept : RowsAreKept
rows_kept [] lines book listed = listed
rows_kept (m ∷ ms) lines book listed = rows_kept ms (lines_after m lines) (book_after m lines book) (move_listed m lines book listed)

-- ---- what calls do

pub purchases_move : PurchasesAreMoves
purchases_move w payment left lines lines_then book book_then bought = (
  bought.left_is ∙ ap (unspent_by w payment) (sym bought.first),
  bought.lines_are,
  bought.book_is ∙ ap (λ (o : Option Line). book_by w o book) (sym bought.first),
)

pub refusals_move : RefusalsAreMoves
refusals_move w payment lines book dear = (
  ap (unspent_by w payment) (sym (paying_none w payment lines dear)),
  sym (bought_none w payment lines dear),
  ap (λ (o : Option Line). book_by w o book) (sym (paying_none w payment lines dear)),
)
