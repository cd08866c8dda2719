-- Proofs that a reader skips: the assets of a record's rates are still listed after each purchase, refund and closing.
use Rattle.std.specs.Prelude.{◌≡◌, ℕ, zero, suc, Bool, true, false, IsTrue, nat_eq, if◌then◌else◌, List, [], ◌∷◌, ◌||◌, map, refl}
use Rattle.std.specs.List.{AllByRecursion}
use Rattle.std.proofs.Common.{sym, ap, ◌∙◌, subst}
use Rattle.operands.specs.declared.weight.Weight.{Weight}
use Rattle.asset_bundles.specs.Bundles.{Bundle}
use Rattle.asset_bundles.specs.Books.{Book, Booked}
use Rattle.asset_lists.specs.Listed.{Listed, listed_of, lists}
use Rattle.amounts.proofs.Lemmas.{same_key}
use Rattle.asset_bundles.proofs.Lemmas.{listed_keys}
use Rattle.plain_lists.specs.Firsts.{change_first}
use Rattle.weight_trader.specs.declared.rate.Rate.{Rate}
use Rattle.weight_trader.specs.Prices.{price}
use Rattle.weight_trader.specs.Purchases.{Line, coin_of, AreRatesListed, is_covered, with_purchase, Bought, with_saturated, IsPurchase}
use Rattle.weight_trader.specs.Refunds.{is_refunded, without_refund, Refunded, Closed}

-- what all have, all still have after one is changed
pub changed_all : {X : Type 0} (P : X → Type 0) (p : X → Bool) (f : X → X) → ((x : X) → P x → P (f x)) → (xs : List X) → AllByRecursion P xs → AllByRecursion P (change_first p f xs)
changed_all P p f keeps [] all = tt
changed_all P p f keeps (x ∷ xs) all =
    elim (p x) as (λ b. AllByRecursion P (if b then f x ∷ xs else x ∷ change_first p f xs)) [
      | true ↦ (keeps x all.0, all.1)
      | false ↦ (all.0, changed_all P p f keeps xs all.1)
    ]

abbrev is_listed : List Listed → Line → Type 0
is_listed listed line = IsTrue (lists listed (listed_of (coin_of line.rate)))

if_rate : (b : Bool) (l m : Line) (r : Rate) → l.rate ≡ r → m.rate ≡ r → (if b then l else m).rate ≡ r
if_rate true l m r h k = h
if_rate false l m r h k = k

-- a purchase keeps the rate
pub rate_kept : (w : Weight) (l : Line) → (with_purchase w l).rate ≡ l.rate
rate_kept w l = if_rate (nat_eq (price l.rate w) 0) l _ l.rate refl refl

purchase_listed : (w : Weight) (listed : List Listed) (l : Line) → is_listed listed l → is_listed listed (with_purchase w l)
purchase_listed w listed l all = subst (λ (r : Rate). IsTrue (lists listed (listed_of (coin_of r)))) (sym (rate_kept w l)) all

-- booking an excess leaves the rows of the book
pub saturated_rows : (asset : Listed) (n : ℕ) (book : Book) → (with_saturated asset n book).listed ≡ book.listed
unfolding Booked
saturated_rows asset zero book = refl
saturated_rows asset (suc n) book = refl

-- after a purchase
pub bought_listed : (w : Weight) (payment : Bundle) (lines : List Line) (listed : List Listed) → AreRatesListed listed lines → AreRatesListed listed (Bought w payment lines)
unfolding Bought
bought_listed w payment lines listed all = changed_all (is_listed listed) (is_covered w payment) (with_purchase w) (purchase_listed w listed) lines all

pub purchased_listed : (w : Weight) (payment left : Bundle) (lines lines_after : List Line) (book book_after : Book) → AreRatesListed book.listed lines
    → IsPurchase w payment lines book left lines_after book_after → AreRatesListed book_after.listed lines_after
purchased_listed w payment left lines lines_after book book_after listed bought =
    subst (λ rows. AreRatesListed rows lines_after) (sym (ap (λ (b : Book). b.listed) bought.book_is ∙ saturated_rows _ _ book))
    (subst (AreRatesListed book.listed) (sym bought.lines_are) (bought_listed w payment lines book.listed listed))

-- after a refund
pub refunded_listed : (w : Weight) (lines : List Line) (listed : List Listed) → AreRatesListed listed lines → AreRatesListed listed (Refunded w lines)
unfolding Refunded
refunded_listed w lines listed all = changed_all (is_listed listed) (is_refunded w) (without_refund w) (λ l h. h) lines all

-- after closing
pub closed_listed : (lines : List Line) (listed : List Listed) → AreRatesListed listed lines → AreRatesListed listed (Closed lines)
closed_listed [] listed all = tt
closed_listed (l ∷ ls) listed all = (all.0, closed_listed ls listed all.1)

-- ---- a list made of the assets of a record's rates

abbrev pub listed_at : Line → Listed
listed_at line = listed_of (coin_of line.rate)

or_later : (b c : Bool) → IsTrue c → (b || c) ≡ true
or_later true c later = refl
or_later false c later = later

more_listed : (k : Listed) (listed : List Listed) (lines : List Line) → AreRatesListed listed lines → AreRatesListed (k ∷ listed) lines
more_listed k listed [] all = tt
more_listed k listed (l ∷ ls) all = (or_later _ _ all.0, more_listed k listed ls all.1)

pub lines_listed : (lines : List Line) → AreRatesListed (map listed_at lines) lines
lines_listed [] = tt
lines_listed (l ∷ ls) = (ap (λ b. b || lists (map listed_at ls) (listed_at l)) (same_key listed_keys (listed_at l)), more_listed (listed_at l) (map listed_at ls) ls (lines_listed ls))
