-- Lemmas that proofs cite, in this crate and above it: where all that a machine has is listed, so is what it has after each accepted call. A
-- reader of the contracts may skip this file.
use Rattle.std.proofs.Common.{◌≡◌, ℕ, zero, suc, ◌+◌, ◌-◌, ◌^◌, ◌<◌, ◌≤◌, Bool, true, false, List, [], ◌∷◌, ◌++◌, take, drop, length, Option, Some, None, get_or, refl, sym, subst, arith}
use Rattle.std.specs.Prelude.{nat_eq, if◌then◌else◌, position, remove, find, IsTrue}
use Rattle.std.specs.List.{AllByRecursion}
use Rattle.std.specs.Option.{option_map, option_map_or}
use Rattle.std.specs.Ordering.{eq_by_cmp}
use Rattle.std.proofs.lemmas.List.Quantifiers.{position-Some}
use Rattle.amounts.specs.Amounts.{rows, from_rows, empty, difference, single, IsWithin}
use Rattle.amounts.proofs.Lemmas.AmountLaws.{amount-empty}
use Rattle.amounts.specs.Rows.{amount_if, sum_where}
use Rattle.amounts.proofs.Lemmas.{key_same, amount-difference, amount-minus, amount-single, amount-from_rows, amount-rows}
use Rattle.locations.specs.declared.relative.Location.{Location}
use Rattle.operands.specs.declared.weight.Weight.{Weight}
use Rattle.asset_lists.specs.declared.units.Asset.{Asset}
use Rattle.asset_lists.specs.Units.{Unit, unit_cmp}
use Rattle.asset_lists.specs.Listed.{Listed, listed_of, lists}
use Rattle.asset_bundles.specs.Bundles.{Bundle, bundle_of}
use Rattle.asset_bundles.proofs.Lemmas.Bundles.{unit_keys}
use Rattle.asset_bundles.specs.Books.{AreListed}
use Rattle.asset_bundles.proofs.Lemmas.{listed_within, listed_joined, listed_taken, listed_left}
use Rattle.trust_tables.specs.Trust.{listing}
use Rattle.asset_bundles.specs.declared.trap.Trap.{Trap}
use Rattle.asset_bundles.specs.Traps.{number_after, piece_count, traps_of, pieces_of}
use Rattle.weight_trader.specs.Prices.{price}
use Rattle.weight_trader.specs.Purchases.{Line, coin_of, paying, unspent_at, is_covered, with_purchase, Bought, AreRatesListed, AreWithinEnd}
use Rattle.weight_trader.specs.Refunds.{goods_of, refund_at, is_refunded, without_refund, Refunded, Closed}
use Rattle.weight_trader.proofs.Lemmas.ListedLaws.{changed_all, bought_listed, refunded_listed, closed_listed}
use Rattle.asset_pools.specs.declared.exchanges.Exchange.{Exchange}
use Rattle.asset_pools.specs.Exchanges.{goods_after}
use Rattle.asset_pools.specs.Spending.{ArePoolsListed}
use Rattle.asset_pools.proofs.Lemmas.Keeping.{exchange_says}
use Rattle.asset_pools.proofs.Lemmas.SpendingLaws.{exchange_listed}
use Rattle.exec_base.specs.Part.{ChainPart}
use Rattle.exec_base.specs.Host.{booked, is_trap, claim_refusal, claimed, unspent, bought, refund_goods, refunded, trapped, settled}
use Rattle.exec_base.specs.Pools.{exchange_at, exchange_goods}
use Rattle.exec_rules.specs.Holdings.{payment_of}
use Rattle.exec_rules.proofs.Lemmas.AnswerLaws.{unless_held, withdrawn_is_listed, received_is_listed, goods_of_trap, found_somewhere}
use Rattle.exec_rules.proofs.Lemmas.HoldingLaws.{payment_within}
use Rattle.exec_rules.specs.Readiness.{AreTrapsListed}
use Rattle.exec_rules.specs.HostCalls.{MachineWithGoods, here, MachineCall, why_not, after}

-- an effect that changes a part only where there is something
option_part : {A : Type 0} (P : ChainPart → Type 0) (o : Option A) (f : A → ChainPart) (p : ChainPart) → P p → ((x : A) → P (f x)) → P (option_map_or f o p)
option_part P None f p none some = none
option_part P (Some x) f p none some = some x

-- ---- claims
removed_all : (P : Trap → Type 0) (xs : List Trap) (i : ℕ) → AllByRecursion P xs → AllByRecursion P (remove xs i)
removed_all P [] zero all = tt
removed_all P [] (suc i) all = tt
removed_all P (x ∷ xs) zero all = all.1
removed_all P (x ∷ xs) (suc i) all = (all.0, removed_all P xs i all.1)

claimed_traps : (listed : List Listed) (p : ChainPart) (list : List Asset) (origin : Location) → AreTrapsListed listed p.traps.traps → AreTrapsListed listed (claimed p list origin).traps.traps
unfolding claimed
claimed_traps listed p list origin all =
    option_part (λ (q : ChainPart). AreTrapsListed listed q.traps.traps) (position (is_trap list origin) p.traps.traps) _ p all
    (λ place. removed_all (λ (t : Trap). AreListed listed t.goods) p.traps.traps place all)

all_at : (P : Trap → Type 0) (xs : List Trap) (i : ℕ) (d : Trap) → AllByRecursion P xs → i < length xs → P (get_or xs i d)
all_at P [] i d all h = absurd (omega (arith, h))
all_at P (x ∷ xs) zero d all h = all.0
all_at P (x ∷ xs) (suc i) d all h = all_at P xs i d all.1 (omega (arith, h))

listed_at : (listed : List Listed) (list : List Asset) (origin : Location) (xs : List Trap) (o : Option ℕ) → AreTrapsListed listed xs → position (is_trap list origin) xs ≡ o → (o ≡ None → ⊥) → AreListed listed (bundle_of list)
listed_at listed list origin xs None all at some = absurd (some refl)
listed_at listed list origin [] (Some place) all at some = absurd cc
listed_at listed list origin (x ∷ xs) (Some place) all at some =
    let first = position-Some (is_trap list origin) (x ∷ xs) place x at in
    subst (AreListed listed) (goods_of_trap list origin (get_or (x ∷ xs) place x) first.1) (all_at (λ (t : Trap). AreListed listed t.goods) (x ∷ xs) place x all first.0)

-- what is claimed is listed
pub claimed_is_listed : (p : ChainPart) (list : List Asset) (origin : Location) → AreTrapsListed (listing p.rows) p.traps.traps → claim_refusal p list origin ≡ None → AreListed (listing p.rows) (bundle_of list)
claimed_is_listed p list origin all ok = listed_at (listing p.rows) list origin p.traps.traps (position (is_trap list origin) p.traps.traps) all refl (found_somewhere p list origin ok)

-- ---- what is trapped is listed
cut : (p : Unit → Bool) (n : ℕ) (xs : List (Unit × ℕ)) → sum_where p (take n xs) + sum_where p (drop n xs) ≡ sum_where p xs
cut p zero [] = omega arith
cut p zero (r ∷ xs) = omega arith
cut p (suc n) [] = omega arith
cut p (suc n) (r ∷ xs) = let rest = cut p n xs in omega (arith, rest)

abbrev AreUnitsListed : List Listed → List (Unit × ℕ) → Type 0
AreUnitsListed listed es = (u : Unit) → 0 < sum_where (eq_by_cmp unit_cmp u) es → IsTrue (lists listed (listed_of u))

piece_listed : (listed : List Listed) (es : List (Unit × ℕ)) → AreUnitsListed listed es → AreListed listed (from_rows es)
piece_listed listed es all u some = all u (subst (λ (n : ℕ). 0 < n) (amount-from_rows unit_keys es u) some)

pieces_listed : (listed : List Listed) (count number : ℕ) (origin : Location) (es : List (Unit × ℕ)) → AreUnitsListed listed es → AreTrapsListed listed (traps_of count number origin es)
pieces_listed listed zero number origin es all = tt
pieces_listed listed (suc count) number origin es all = (
  piece_listed listed (take 20 es) (λ u some. all u (let parts = cut (eq_by_cmp unit_cmp u) 20 es in omega (arith, parts, some))),
  pieces_listed listed count (number_after number) origin (drop 20 es) (λ u some. all u (let parts = cut (eq_by_cmp unit_cmp u) 20 es in omega (arith, parts, some))),
)

goods_listed : (listed : List Listed) (goods : Bundle) → AreListed listed goods → AreUnitsListed listed (rows goods)
goods_listed listed goods all u some = all u (subst (λ (n : ℕ). 0 < n) (sym (amount-rows unit_keys goods u)) some)

both_listed : (listed : List Listed) (xs ys : List Trap) → AreTrapsListed listed xs → AreTrapsListed listed ys → AreTrapsListed listed (xs ++ ys)
both_listed listed [] ys all more = more
both_listed listed (t ∷ xs) ys all more = (all.0, both_listed listed xs ys all.1 more)

pub trapped_listed : (listed : List Listed) (p : ChainPart) (goods : Bundle) (origin : Location) → AreTrapsListed listed p.traps.traps → AreListed listed goods → AreTrapsListed listed (trapped p goods origin).traps.traps
unfolding trapped
trapped_listed listed p goods origin all more =
    both_listed listed p.traps.traps (pieces_of p.traps.next origin goods) all
    (pieces_listed listed (piece_count (length (rows goods))) p.traps.next origin (rows goods) (goods_listed listed goods more))

-- ---- the trader
abbrev is_within_end : Line → Type 0
is_within_end line = line.paid ≤ 2 ^ 128 - 1

either_within : (b : Bool) (x y : Line) → is_within_end x → is_within_end y → is_within_end (if b then x else y)
either_within true x y h k = h
either_within false x y h k = k

purchase_within : (w : Weight) (line : Line) → is_within_end line → is_within_end (with_purchase w line)
purchase_within w line h = either_within (nat_eq (price line.rate w) 0) line _ h (omega arith)

bought_within : (w : Weight) (payment : Bundle) (lines : List Line) → AreWithinEnd lines → AreWithinEnd (Bought w payment lines)
unfolding Bought
bought_within w payment lines h = changed_all is_within_end (is_covered w payment) (with_purchase w) (purchase_within w) lines h

refunded_within : (w : Weight) (lines : List Line) → AreWithinEnd lines → AreWithinEnd (Refunded w lines)
unfolding Refunded
refunded_within w lines h = changed_all is_within_end (is_refunded w) (without_refund w) (λ line le. omega (arith, le)) lines h

bought_lines : (P : List Line → Type 0) (p : ChainPart) (w : Weight) (payment : Bundle) → P p.lines → P (Bought w payment p.lines) → P (bought p w payment).lines
unfolding bought booked
bought_lines P p w payment none some = option_part (λ (q : ChainPart). P q.lines) (paying w payment p.lines) _ p none (λ line. some)

pub closed_within : (lines : List Line) → AreWithinEnd (Closed lines)
closed_within [] = tt
closed_within (line ∷ lines) = (omega arith, closed_within lines)

unspent_within_at : (w : Weight) (payment : Bundle) (o : Option Line) → IsWithin (option_map_or (λ (line : Line). unspent_at w payment line) o payment) payment
unspent_within_at w payment None u = omega arith
unspent_within_at w payment (Some line) u = let less = amount-minus unit_keys payment (coin_of line.rate) (price line.rate w) u in omega (arith, less)

pub unspent_within : (p : ChainPart) (w : Weight) (payment : Bundle) → IsWithin (unspent p w payment) payment
unfolding unspent
unspent_within p w payment = unspent_within_at w payment (paying w payment p.lines)

single_listed : (listed : List Listed) (k : Unit) (n : ℕ) → IsTrue (lists listed (listed_of k)) → AreListed listed (single k n)
single_listed listed k n h u some =
    elim (eq_by_cmp unit_cmp u k) as (λ b. eq_by_cmp unit_cmp u k ≡ b → 0 < amount_if b n → IsTrue (lists listed (listed_of u))) [
      | true ↦ λ t z. subst (λ (v : Unit). IsTrue (lists listed (listed_of v))) (sym (key_same unit_keys u k t)) h
      | false ↦ λ t z. absurd (omega (arith, z))
    ] refl (subst (λ (m : ℕ). 0 < m) (amount-single unit_keys k n u) some)

same_line : (x y : Line) → Some x ≡ Some y → x ≡ y
same_line x y e = cc

-- what is paid back is in the asset of a rate
found_listed : (listed : List Listed) (w : Weight) (lines : List Line) (o : Option Line) → AreRatesListed listed lines → find (is_refunded w) lines ≡ o
    → AreListed listed (goods_of (option_map (λ (line : Line). (line.rate.asset, refund_at w line)) o))
found_listed listed w lines None all e u some = let none = amount-empty unit_keys u in absurd (omega (arith, some, none))
found_listed listed w [] (Some line) all e u some = absurd cc
found_listed listed w (x ∷ xs) (Some line) all e u some =
    elim (is_refunded w x) as (λ b. (if b then Some x else find (is_refunded w) xs) ≡ Some line → AreListed listed (single (coin_of line.rate) (refund_at w line))) [
      | true ↦ λ h. subst (λ (l : Line). AreListed listed (single (coin_of l.rate) (refund_at w l))) (same_line x line h) (single_listed listed (coin_of x.rate) (refund_at w x) all.0)
      | false ↦ λ h. found_listed listed w xs (Some line) all.1 h
    ] e u some

pub refund_listed : (p : ChainPart) (w : Weight) (listed : List Listed) → AreRatesListed listed p.lines → AreListed listed (refund_goods p w)
unfolding refund_goods
refund_listed p w listed all = found_listed listed w p.lines (find (is_refunded w) p.lines) all refl

-- ---- exchanges
-- what comes of goods that are exchanged is listed where the pools are
exchange_listed_by : (p : ChainPart) (give : Bundle) (want : List Asset) (maximal : Bool) (o : Option Exchange) → exchange_at p give want maximal ≡ o → ArePoolsListed (listing p.rows) p.pools → AreListed (listing p.rows) give
    → AreListed (listing p.rows) (option_map_or (λ (e : Exchange). goods_after e give) o give)
exchange_listed_by p give want maximal None is pools listed = listed
exchange_listed_by p give want maximal (Some e) is pools listed =
    exchange_listed (listing p.rows) p.pools p.held give e (exchange_says p.pools p.held give want maximal e is) pools listed

pub exchanged_is_listed : (p : ChainPart) (give : Bundle) (want : List Asset) (maximal : Bool) → ArePoolsListed (listing p.rows) p.pools → AreListed (listing p.rows) give → AreListed (listing p.rows) (exchange_goods p give want maximal)
unfolding exchange_goods
exchanged_is_listed p give want maximal pools listed = exchange_listed_by p give want maximal (exchange_at p give want maximal) refl pools listed

-- ---- each call
pub nothing_listed : (listed : List Listed) → AreListed listed empty
nothing_listed listed u some = let none = amount-empty unit_keys u in absurd (omega (arith, none, some))

less_within : (b taken : Bundle) → IsWithin (difference b taken) b
less_within b taken u = let less = amount-difference unit_keys b taken u in omega (arith, less)

abbrev listing_of : MachineWithGoods → List Listed
listing_of t = listing t.part.rows

-- what is held, what is in hand, what is in the slot; and traps, rates, that what is paid is below its end, and pools
abbrev pub HasListed : MachineWithGoods → Type 0
HasListed t =
    AreListed (listing t.part.rows) t.regs.holding × AreListed (listing t.part.rows) t.goods × AreListed (listing t.part.rows) t.part.fee_slot
    × (AreTrapsListed (listing t.part.rows) t.part.traps.traps × AreRatesListed (listing t.part.rows) t.part.lines × AreWithinEnd t.part.lines
    × ArePoolsListed (listing t.part.rows) t.part.pools)

pub listed_after : (c : MachineCall) (t : MachineWithGoods) → why_not c t ≡ None → HasListed t → HasListed (after c t)
unfolding refunded trapped settled
listed_after (MachineCall.Take filter) t ok h = (listed_left (listing_of t) filter t.regs.holding h.0, listed_taken (listing_of t) filter t.regs.holding h.0, h.2, h.3)
listed_after (MachineCall.Pay a) t ok h =
    let paid = payment_of a in (
      listed_within (listing_of t) t.regs.holding (difference t.regs.holding paid) (less_within t.regs.holding paid) h.0,
      listed_within (listing_of t) t.regs.holding paid (payment_within (here t) a (unless_held _ _ _ ok)) h.0,
      h.2,
      h.3,
    )
listed_after MachineCall.Join t ok h = (listed_joined (listing_of t) t.regs.holding t.goods h.0 h.1, nothing_listed (listing_of t), h.2, h.3)
listed_after (MachineCall.Withdraw list who) t ok h = (h.0, withdrawn_is_listed t.part list who ok, h.2, h.3)
listed_after (MachineCall.Draw fee who) t ok h = (h.0, withdrawn_is_listed t.part (fee ∷ []) who ok, h.2, h.3)
listed_after (MachineCall.Receive list None teleport) t ok h = absurd cc
listed_after (MachineCall.Receive list (Some who) teleport) t ok h = (h.0, received_is_listed t.part list who teleport ok, h.2, h.3)
listed_after (MachineCall.Claim list who) t ok h =
    (h.0, claimed_is_listed t.part list who h.3.0 ok, h.2, (claimed_traps (listing_of t) t.part list who h.3.0, h.3.1, h.3.2, h.3.3))
listed_after (MachineCall.Refund w) t ok h =
    (h.0, refund_listed t.part w (listing_of t) h.3.1, h.2, (h.3.0, refunded_listed w t.part.lines (listing_of t) h.3.1, refunded_within w t.part.lines h.3.2, h.3.3))
listed_after (MachineCall.Deposit who) t ok h = (h.0, nothing_listed (listing_of t), h.2, h.3)
listed_after MachineCall.Burn t ok h = (h.0, nothing_listed (listing_of t), h.2, h.3)
listed_after (MachineCall.Buy w) t ok h = (
  h.0,
  listed_within (listing_of t) t.goods (unspent t.part w t.goods) (unspent_within t.part w t.goods) h.1,
  h.2,
  (
    h.3.0,
    bought_lines (AreRatesListed (listing_of t)) t.part w t.goods h.3.1 (bought_listed w t.goods t.part.lines (listing_of t) h.3.1),
    bought_lines AreWithinEnd t.part w t.goods h.3.2 (bought_within w t.goods t.part.lines h.3.2),
    h.3.3,
  ),
)
listed_after (MachineCall.Exchange want maximal) t ok h = (h.0, exchanged_is_listed t.part t.goods want maximal h.3.3 h.1, h.2, h.3)
listed_after (MachineCall.DepositOut dest xcm) t ok h = (h.0, nothing_listed (listing_of t), h.2, h.3)
listed_after (MachineCall.Ship way dest xcm) t ok h = (h.0, nothing_listed (listing_of t), h.2, h.3)
listed_after MachineCall.HoldFee t ok h = (h.0, nothing_listed (listing_of t), h.1, h.3)
listed_after MachineCall.TakeFee t ok h = (h.0, h.2, nothing_listed (listing_of t), h.3)
listed_after MachineCall.KeepFee t ok h = (h.0, h.1, nothing_listed (listing_of t), h.3)
listed_after MachineCall.Park t ok h = (h.0, nothing_listed (listing_of t), h.2, h.3)
listed_after MachineCall.Empty t ok h = (nothing_listed (listing_of t), h.0, h.2, h.3)
listed_after MachineCall.Settle t ok h = (h.0, h.1, h.2, (h.3.0, closed_listed t.part.lines (listing_of t) h.3.1, closed_within t.part.lines, h.3.3))
listed_after (MachineCall.Trap who) t ok h =
    (h.0, nothing_listed (listing_of t), h.2, (trapped_listed (listing_of t) t.part t.goods who h.3.0 h.1, h.3.1, h.3.2, h.3.3))
listed_after _ t ok h = h
