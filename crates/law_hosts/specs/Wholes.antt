-- How much of listed assets there is on a chain, and what a call conserves: what is on the chain, what is burned there, and what is handed
-- in or out have the same sum before and after. This project's own vocabulary.
--
--   t          a test of units; their amounts are summed up, an instance as 1
--   test       a test of listed assets: a unit counts where its asset passes, and so does a burn, since the book of burns doesn't tell instances apart
use Rattle.std.specs.Prelude.{◌≡◌, ℕ, ◌+◌, ◌-◌, ◌^◌, ◌≤◌, ◌&&◌, Bool, false, List, Option, Some, None, ⊤}
use Rattle.std.specs.Ordering.{eq_by_cmp}
use Rattle.std.specs.List.{sum_by}
use Rattle.amounts.specs.Amounts.{amount, total, merge}
use Rattle.asset_lists.specs.Units.{Unit}
use Rattle.operands.specs.declared.weight.Weight.{Weight}
use Rattle.asset_lists.specs.Listed.{Listed, listed_of}
use Rattle.asset_bundles.specs.declared.book.Cause.{Cause}
use Rattle.asset_bundles.specs.Bundles.{Bundle}
use Rattle.asset_bundles.specs.Books.{Burns, AreTotals, burned_for, is_unit_where, is_burn_where, most_burned}
use Rattle.ledgers.specs.Ledgers.{Holder, account_cmp, is_account}
use Rattle.asset_bundles.specs.Traps.{trapped_where}
use Rattle.weight_trader.specs.Purchases.{Line, coin_of, paying, excess, paid_goods}
use Rattle.channel_parts.specs.declared.cargo.Cargo.{Cargo}
use Rattle.channel_parts.specs.declared.cargo.Cargo.TheVariants.{Nothing, Deposit, Away}
use Rattle.channel_parts.specs.Channels.{Waiting, Outgoing}
use Rattle.exec_base.specs.Part.{ChainPart}
use Rattle.exec_base.specs.Host.{above}

-- ---- where units are

abbrev pub in_accounts : (Unit → Bool) → ChainPart → ℕ
in_accounts t p = total (λ (h : Holder). t h.1) p.held

abbrev pub in_traps : (Unit → Bool) → ChainPart → ℕ
in_traps t p = trapped_where t p.traps.traps

-- paid for weight, kept for deliveries, and in the fee slot
abbrev pub in_fees : (Unit → Bool) → ChainPart → ℕ
in_fees t p = total t (paid_goods p.lines) + total t p.fees + total t p.fee_slot

abbrev pub in_parked : (Unit → Bool) → ChainPart → ℕ
in_parked t p = sum_by (λ (b : Bundle). total t b) p.parked

-- a deposit is in the receiver's account, so its message carries nothing
abbrev pub carried : (Unit → Bool) → Cargo → ℕ
carried t Nothing = 0
carried t (Deposit list) = 0
carried t (Away shipment) = total t shipment.units

abbrev pub in_queue : (Unit → Bool) → Outgoing → ℕ
in_queue t c = sum_by (λ (m : Waiting). carried t m.cargo) c.queue

abbrev pub in_queues : (Unit → Bool) → ChainPart → ℕ
in_queues t p = sum_by (in_queue t) p.channels

-- all of them
unfoldable pub on_chain : (Unit → Bool) → ChainPart → ℕ
on_chain t p = in_accounts t p + in_traps t p + in_fees t p + in_parked t p + in_queues t p

-- ---- the whole

abbrev pub burn_total_where : (Listed → Bool) → ChainPart → ℕ
burn_total_where test p = total (is_burn_where test) p.burns

-- what is on the chain and what is burned
abbrev pub whole : (Listed → Bool) → ChainPart → ℕ
whole test p = on_chain (is_unit_where test) p + burn_total_where test p

-- a call that takes goods in and hands goods out, either of them maybe empty
abbrev pub Conserves : Bundle → Bundle → ChainPart → ChainPart → Type 0
Conserves goods_in goods_out before now =
    (test : Listed → Bool) → whole test now + total (is_unit_where test) goods_out ≡ whole test before + total (is_unit_where test) goods_in

-- ---- what a law needs of a chain

-- no sum of burns passes its maximum by these
abbrev pub BooksBelow : ChainPart → Burns → Type 0
BooksBelow p more = AreTotals (merge p.burns more)

-- no sum of kept delivery fees passes its maximum by what the slot holds
abbrev pub KeepsBelow : ChainPart → Type 0
KeepsBelow p = (unit : Unit) → amount p.fees unit + amount p.fee_slot unit ≤ most_burned

-- the fee account has no more of a unit than an account may have
abbrev pub IsFeeAccountWithin : ChainPart → Type 0
IsFeeAccountWithin p = (unit : Unit) → amount p.held (p.fee_account, unit) ≤ 2 ^ 128 - 1

-- no sum of burns passes its maximum by what a purchase books
abbrev pub BuysBelow : ChainPart → Weight → Bundle → Type 0
BuysBelow p w payment = (line : Line) → paying w payment p.lines ≡ Some line → BooksBelow p (burned_for Cause.Saturated (above (listed_of (coin_of line.rate)) (excess w line)))

-- ---- one account

-- what an account holds of the units that pass
abbrev pub account_total : List ℕ → (Unit → Bool) → ChainPart → ℕ
account_total who t p = total (λ (h : Holder). is_account who h && t h.1) p.held

-- another account, or none
abbrev pub IsOtherAccount : List ℕ → Option (List ℕ) → Type 0
IsOtherAccount who None = ⊤
IsOtherAccount who (Some other) = eq_by_cmp account_cmp who other ≡ false
