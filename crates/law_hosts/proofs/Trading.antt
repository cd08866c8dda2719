-- What is paid, and what is given back of it.
use Rattle.std.proofs.Common.{◌≡◌, ◌+◌, ◌-◌, ◌^◌, Bool, List, [], ◌∷◌, Option, Some, None, refl, ap, ◌∙◌, arith}
use Rattle.std.specs.Option.{option_map_or}
use Rattle.amounts.specs.Amounts.{amount, total, empty, merge, map_keys, IsWithin}
use Rattle.amounts.proofs.Lemmas.AmountLaws.{total-empty}
use Rattle.amounts.proofs.Lemmas.{total-merge, total-difference, total-map_keys, total-single}
use Rattle.operands.specs.declared.weight.Weight.{Weight}
use Rattle.asset_lists.specs.declared.units.Fun.{Fun}
use Rattle.asset_lists.specs.Units.{Unit, unit_cmp}
use Rattle.asset_lists.specs.Listed.{Listed, listed_of}
use Rattle.asset_bundles.specs.declared.book.Cause.{Cause}
use Rattle.asset_bundles.specs.Bundles.{Bundle}
use Rattle.asset_bundles.proofs.Lemmas.Bundles.{unit_keys}
use Rattle.asset_bundles.proofs.Lemmas.BundleLaws.{total-bundle_of}
use Rattle.asset_bundles.proofs.Lemmas.Changed.{amount-with_amounts}
use Rattle.asset_bundles.specs.Books.{burned_for, is_unit_where, is_burn_where, Booked}
use Rattle.asset_bundles.proofs.Lemmas.{burn_keys, booked_below, burned_for_total}
use Rattle.weight_trader.specs.Purchases.{Line, coin_of, paying, unspent_at, excess, Bought, paid_goods, AreWithinEnd}
use Rattle.weight_trader.specs.Refunds.{refund_of, goods_of, Refunded, Closed}
use Rattle.weight_trader.specs.Laws.{Purchase, Refund, Closing, MovesAreKept, paid_by, saturated_by, unspent_by}
use Rattle.ledgers.proofs.Lemmas.{holder_keys}
use Rattle.ledgers.specs.Ledgers.{Holder}
use Rattle.exec_base.specs.Part.{ChainPart, book_of}
use Rattle.exec_base.specs.Host.{above, burned_lines, unspent, bought, booked, refund_goods, refunded, all_fees, fees_above, fees_within, settled_burns, settled}
use Rattle.law_hosts.specs.Wholes.{on_chain, whole, Conserves, BooksBelow, BuysBelow, IsFeeAccountWithin}
use Rattle.law_hosts.proofs.Booking.{whole_booked}

-- ---- refunds
pub conserves_refund : MovesAreKept → (p : ChainPart) (w : Weight) → AreWithinEnd p.lines → Conserves empty (refund_goods p w) p (refunded p w)
unfolding refunded refund_goods on_chain
conserves_refund law p w within test =
    let t = is_unit_where test in
    let kept = ap (total t) (law (Refund w) p.lines within).1 in
    let given = total-merge unit_keys t (goods_of (refund_of w p.lines)) (paid_goods (Refunded w p.lines)) in
    let before = total-merge unit_keys t (paid_goods p.lines) empty in
    let none = total-empty unit_keys t in
    omega (arith, kept, given, before, none)

-- ---- purchases
abbrev pub above_at : Weight → Line → Bundle
above_at w line = above (listed_of (coin_of line.rate)) (excess w line)

bought_at : ChainPart → Weight → Bundle → Option Line → ChainPart
bought_at p w payment o = option_map_or (λ (line : Line).
    booked (record p { lines = Bought w payment p.lines }) (burned_for Cause.Saturated (above_at w line)) (burned_lines p (λ unit. Cause.Saturated) (above_at w line))) o p

-- what the lines say is part of the chain
lines_whole : (test : Listed → Bool) (p : ChainPart) (lines : List Line)
    → whole test (record p { lines = lines }) + total (is_unit_where test) (paid_goods p.lines) ≡ whole test p + total (is_unit_where test) (paid_goods lines)
unfolding on_chain
lines_whole test p lines = omega arith

pub above_total : (test : Listed → Bool) (w : Weight) (line : Line) → total (is_burn_where test) (burned_for Cause.Saturated (above_at w line)) ≡ total (is_unit_where test) (saturated_by w (Some line))
above_total test w line =
    let burns = burned_for_total test Cause.Saturated (above_at w line) in
    let one = total-bundle_of (is_unit_where test) (record { id = (listed_of (coin_of line.rate)).0; fun = Fun.Fungible (excess w line) } ∷ []) in
    let single_is = total-single unit_keys (is_unit_where test) (coin_of line.rate) (excess w line) in
    omega (arith, burns, one, single_is)

conserves_purchase_at : MovesAreKept → (p : ChainPart) (w : Weight) (payment : Bundle) (o : Option Line) → paying w payment p.lines ≡ o → AreWithinEnd p.lines → BuysBelow p w payment
    → Conserves payment (option_map_or (λ (line : Line). unspent_at w payment line) o payment) p (bought_at p w payment o)
unfolding bought_at
conserves_purchase_at law p w payment None e within below test = refl
conserves_purchase_at law p w payment (Some line) e within below test =
    let t = is_unit_where test in
    let kept = law (Purchase w payment) p.lines within in
    let payment_is : total t payment ≡ total t (merge (unspent_at w payment line) (merge (paid_by w (Some line)) (saturated_by w (Some line)))) =
    ap (total t) kept.0 ∙ ap (λ (o : Option Line). total t (merge (unspent_by w payment o) (merge (paid_by w o) (saturated_by w o)))) e in
    let paid_is : total t (merge empty (paid_goods (Bought w payment p.lines))) ≡ total t (merge (paid_goods p.lines) (paid_by w (Some line))) =
    ap (total t) kept.1 ∙ ap (λ (o : Option Line). total t (merge (paid_goods p.lines) (paid_by w o))) e in
    let parts = total-merge unit_keys t (unspent_at w payment line) (merge (paid_by w (Some line)) (saturated_by w (Some line))) in
    let rest = total-merge unit_keys t (paid_by w (Some line)) (saturated_by w (Some line)) in
    let after = total-merge unit_keys t empty (paid_goods (Bought w payment p.lines)) in
    let before = total-merge unit_keys t (paid_goods p.lines) (paid_by w (Some line)) in
    let none = total-empty unit_keys t in
    let with_lines = lines_whole test p (Bought w payment p.lines) in
    let with_book = whole_booked test (record p { lines = Bought w payment p.lines }) (burned_for Cause.Saturated (above_at w line)) (burned_lines p (λ unit. Cause.Saturated) (above_at w line)) (below line e) in
    let burns = above_total test w line in
    omega (arith, payment_is, paid_is, parts, rest, after, before, none, with_lines, with_book, burns)

pub conserves_purchase : MovesAreKept → (p : ChainPart) (w : Weight) (payment : Bundle) → AreWithinEnd p.lines → BuysBelow p w payment → Conserves payment (unspent p w payment) p (bought p w payment)
unfolding bought unspent bought_at
conserves_purchase law p w payment within below = conserves_purchase_at law p w payment (paying w payment p.lines) refl within below

-- ---- settlement
with_amounts_within : (p : ChainPart) → IsFeeAccountWithin p → IsWithin (fees_above p) (all_fees p)
with_amounts_within p within unit =
    let above = amount-with_amounts unit_keys (λ (unit : Unit) n. (amount p.held (p.fee_account, unit) + n) - (2 ^ 128 - 1)) (λ unit. omega (arith, within unit)) (all_fees p) unit in
    let le = within unit in
    omega (arith, above, le)

pub conserves_settlement : MovesAreKept → (p : ChainPart) → AreWithinEnd p.lines → IsFeeAccountWithin p → BooksBelow p (settled_burns p) → Conserves empty empty p (settled p)
unfolding settled on_chain
conserves_settlement law p ends within below test =
    let t = is_unit_where test in
    let held = total-merge holder_keys (λ (h : Holder). t h.1) p.held (map_keys (λ (unit : Unit). (p.fee_account, unit)) (fees_within p)) in
    let got = total-map_keys {S = unit_cmp} holder_keys (λ (h : Holder). t h.1) (λ (unit : Unit). (p.fee_account, unit)) (fees_within p) in
    let parts = total-difference unit_keys t (all_fees p) (fees_above p) (with_amounts_within p within) in
    let fees = total-merge unit_keys t (paid_goods p.lines) p.fees in
    let closing = ap (total t) (law Closing p.lines ends).1 in
    let closing_before = total-merge unit_keys t (paid_goods p.lines) (paid_goods (Closed p.lines)) in
    let closing_after = total-merge unit_keys t (paid_goods p.lines) empty in
    let burns : total (is_burn_where test) (Booked (book_of p) (settled_burns p)).burns ≡ total (is_burn_where test) p.burns + total (is_burn_where test) (settled_burns p) =
    ap (total (is_burn_where test)) (booked_below (book_of p) (settled_burns p) below) ∙ total-merge burn_keys (is_burn_where test) p.burns (settled_burns p) in
    let book = burned_for_total test Cause.Saturated (fees_above p) in
    let none = total-empty unit_keys t in
    omega (arith, held, got, parts, fees, closing, closing_before, closing_after, burns, book, none)
