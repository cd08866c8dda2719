-- What an accepted instruction conserves, step by step.
use Rattle.std.proofs.Common.{◌≡◌, ℕ, ◌+◌, ◌≤◌, Bool, true, false, List, [], ◌∷◌, Option, Some, None, refl, sym, ap, ◌∙◌, subst, arith}
use Rattle.std.specs.Prelude.{IsTrue}
use Rattle.std.specs.Ordering.{eq_by_cmp}
use Rattle.amounts.specs.Amounts.{total, empty, merge}
use Rattle.amounts.proofs.Lemmas.AmountLaws.{total-empty}
use Rattle.amounts.proofs.Lemmas.{same_key, amount-merge, amount_at_most, total-merge, total-difference}
use Rattle.locations.specs.declared.relative.Location.{Location}
use Rattle.operands.specs.declared.weight.Weight.{Weight}
use Rattle.asset_lists.specs.declared.units.Asset.{Asset}
use Rattle.asset_lists.specs.Listed.{Listed, listed_cmp, listed_of}
use Rattle.asset_lists.specs.Units.{Unit, unit_cmp}
use Rattle.asset_lists.specs.Lists.{IsAssetList}
use Rattle.asset_bundles.specs.declared.book.Cause.{Cause}
use Rattle.asset_bundles.specs.Bundles.{Bundle, bundle_of}
use Rattle.asset_bundles.proofs.Lemmas.Bundles.{unit_keys}
use Rattle.asset_bundles.specs.Books.{Burn, Burns, burned_for, given_up, is_unit_where, is_unit_of, most_burned}
use Rattle.asset_bundles.proofs.Lemmas.Books.{is_burn_of}
use Rattle.asset_bundles.proofs.Lemmas.{listed_keys, burn_keys, burned_for_total, given_up_total, joined_total, taken_conserves}
use Rattle.weight_trader.specs.Purchases.{Line, paying, unspent_at, AreWithinEnd}
use Rattle.weight_trader.specs.Laws.{Purchase, MovesAreKept, paid_by, saturated_by, unspent_by}
use Rattle.xcm_program.specs.declared.instruction.Instruction.{Instruction}
use Rattle.xcm_program.specs.declared.instruction.Instruction.TheOpen.{Instruction-F}
use Rattle.exec_base.specs.declared.event.Event.{Event}
use Rattle.exec_base.specs.Part.{ChainPart}
use Rattle.exec_base.specs.Host.{unspent, refund_goods, fee_drawn}
use Rattle.exec_base.specs.Pools.{exchange_goods}
use Rattle.exec_rules.specs.Machine.{Machine}
use Rattle.exec_rules.specs.Holdings.{holding_more, payment_of}
use Rattle.exec_rules.proofs.Lemmas.AnswerLaws.{unless_held}
use Rattle.exec_rules.specs.Instructions.{refused, done}
use Rattle.exec_rules.specs.Readiness.{IsSteady}
use Rattle.exec_rules.proofs.Lemmas.HoldingLaws.{payment_within}
use Rattle.exec_rules.specs.HostCalls.{MachineWithGoods, between, here, MachineCall, why_not, after, turned_at}
use Rattle.exec_rules.proofs.Lemmas.HostCalls.{effect}
use Rattle.exec_rules.proofs.Lemmas.Footprints.{part_is}
use Rattle.exec_rules.specs.Reasons.{arriving, IsFee, IsFrom, IsLedTo, Moment, HasReason}
use Rattle.exec_rules.proofs.Lemmas.ReasonLaws.{done_keeps, lead_keeps, turns}
use Rattle.law_hosts.specs.Wholes.{on_chain, whole, Conserves, BooksBelow, BuysBelow, KeepsBelow}
use Rattle.law_hosts.specs.Accepted.{whole_of, HasWithdrawalList, HasFeeLists, HasRoomFor}
use Rattle.law_hosts.proofs.Booking.{conserves_join, conserves_burn, conserves_park, conserves_answer, conserves_held_fee, conserves_taken_fee, conserves_kept_fee}
use Rattle.law_hosts.proofs.Moving.{Withdraws, conserves_withdrawal, conserves_drawn_fee, conserves_deposit, conserves_transfer}
use Rattle.law_hosts.proofs.Claiming.{conserves_claim}
use Rattle.law_hosts.proofs.Dispatching.{conserves_moves}
use Rattle.law_hosts.proofs.Exchanging.{conserves_exchange}
use Rattle.law_hosts.proofs.Sending.{conserves_shipping, conserves_deposit_out, conserves_transfer_out, conserves_response, conserves_locking, conserves_unlocking, conserves_noting, conserves_requesting}
use Rattle.law_hosts.proofs.Trading.{above_at, above_total, conserves_purchase, conserves_refund}

-- ---- room in the book
burn_passes : (k : Burn) → IsTrue (is_burn_of k.0 k)
burn_passes k = same_key listed_keys k.0

-- burns that are part of some goods pass no maximum
books_below : (p : ChainPart) (goods : Bundle) (more : Burns) → ((k : Listed) → total (is_burn_of k) more ≤ total (is_unit_of k) goods)
    → ((k : Listed) → whole (eq_by_cmp listed_cmp k) p + total (is_unit_of k) goods ≤ most_burned) → BooksBelow p more
books_below p goods more part room k =
    let sum = amount-merge burn_keys p.burns more k in
    let old = amount_at_most burn_keys (is_burn_of k.0) p.burns k (burn_passes k) in
    let new = amount_at_most burn_keys (is_burn_of k.0) more k (burn_passes k) in
    let of_goods = part k.0 in
    let all = room k.0 in
    omega (arith, sum, old, new, of_goods, all)

-- ---- goods joined to what is held
pub more_whole : (m : Machine) (p : ChainPart) (goods extra : Bundle) → ((test : Listed → Bool) → whole test p + total (is_unit_where test) goods ≡ whole test m.part + total (is_unit_where test) extra)
    → HasRoomFor extra m → (test : Listed → Bool) → whole_of test (holding_more m p goods) ≡ whole_of test m + total (is_unit_where test) extra
more_whole m p goods extra moved room test =
    let held = m.regs.holding in
    let given_part = λ (k : Listed). given_up_total (eq_by_cmp listed_cmp k) held goods in
    let joined_part = λ (k : Listed). joined_total (is_unit_of k) held goods in
    let sum_part = λ (k : Listed). total-merge unit_keys (is_unit_of k) held goods in
    let below : BooksBelow p (given_up held goods) = books_below p (merge held goods) (given_up held goods)
    (λ k. let a = given_part k in let b = joined_part k in let c = sum_part k in omega (arith, a, b, c))
    (λ k. let c = sum_part k in let d = moved (eq_by_cmp listed_cmp k) in let e = room k in omega (arith, c, d, e)) in
    let all = conserves_join p held goods below test in
    let sum = total-merge unit_keys (is_unit_where test) held goods in
    let came = moved test in
    omega (arith, all, sum, came)

-- ---- buying
saturated_part : MovesAreKept → (p : ChainPart) (w : Weight) (payment : Bundle) (line : Line) (k : Listed) → AreWithinEnd p.lines → paying w payment p.lines ≡ Some line
    → total (is_burn_of k) (burned_for Cause.Saturated (above_at w line)) ≤ total (is_unit_of k) payment
saturated_part law p w payment line k within e =
    let t = is_unit_of k in
    let kept = law (Purchase w payment) p.lines within in
    let payment_is : total t payment ≡ total t (merge (unspent_at w payment line) (merge (paid_by w (Some line)) (saturated_by w (Some line)))) =
    ap (total t) kept.0 ∙ ap (λ (o : Option Line). total t (merge (unspent_by w payment o) (merge (paid_by w o) (saturated_by w o)))) e in
    let parts = total-merge unit_keys t (unspent_at w payment line) (merge (paid_by w (Some line)) (saturated_by w (Some line))) in
    let rest = total-merge unit_keys t (paid_by w (Some line)) (saturated_by w (Some line)) in
    let burns = above_total (eq_by_cmp listed_cmp k) w line in
    omega (arith, payment_is, parts, rest, burns)

-- ---- fees
unit_passes : (unit : Unit) → IsTrue (is_unit_of (listed_of unit) unit)
unit_passes unit = same_key listed_keys (listed_of unit)

fees_in_whole : (t : Unit → Bool) (p : ChainPart) → total t p.fees + total t p.fee_slot ≤ on_chain t p
unfolding on_chain
fees_in_whole t p = omega arith

-- ---- inside an instruction, what is in hand counts too
abbrev pub whole_at : (Listed → Bool) → MachineWithGoods → ℕ
whole_at test t = whole test t.part + total (is_unit_where test) t.regs.holding + total (is_unit_where test) t.goods

abbrev pub Whole : Machine → MachineWithGoods → Type 0
Whole m t = (test : Listed → Bool) → whole_at test t ≡ whole_of test m

nothing : (test : Listed → Bool) → total {R = unit_cmp} (is_unit_where test) empty ≡ 0
nothing test = total-empty unit_keys (is_unit_where test)

in_hand : (t : MachineWithGoods) (b : Bundle) (test : Listed → Bool) → t.goods ≡ b → total (is_unit_where test) t.goods ≡ total (is_unit_where test) b
in_hand t b test e = ap (total (is_unit_where test)) e

-- goods go in, and others come out; what is in hand changes by as much
moved : (c : MachineCall) (t : MachineWithGoods) (a b : Bundle) → Conserves a b t.part (effect c t) → (after c t).regs.holding ≡ t.regs.holding
    → ((test : Listed → Bool) → total (is_unit_where test) (after c t).goods + total (is_unit_where test) a ≡ total (is_unit_where test) t.goods + total (is_unit_where test) b)
    → (test : Listed → Bool) → whole_at test (after c t) ≡ whole_at test t
moved c t a b goes held hand test =
    let x = ap (whole test) (part_is c t) in
    let y = goes test in
    let h = ap (total (is_unit_where test)) held in
    let g = hand test in
    omega (arith, x, y, h, g)

-- what is in hand goes in
gave : (c : MachineCall) (t : MachineWithGoods) → Conserves t.goods empty t.part (effect c t) → (after c t).regs.holding ≡ t.regs.holding → (after c t).goods ≡ empty → (test : Listed → Bool) → whole_at test (after c t) ≡ whole_at test t
gave c t goes held none = moved c t t.goods empty goes held (λ test. let z = in_hand (after c t) empty test none in omega (arith, z))

-- nothing was in hand, and goods come out
came : (c : MachineCall) (t : MachineWithGoods) (b : Bundle) → Conserves empty b t.part (effect c t) → (after c t).regs.holding ≡ t.regs.holding → t.goods ≡ empty → (after c t).goods ≡ b → (test : Listed → Bool) → whole_at test (after c t) ≡ whole_at test t
came c t b goes held none is = moved c t empty b goes held (λ test. let y = in_hand t empty test none in let z = in_hand (after c t) b test is in omega (arith, y, z))

-- neither
kept : (c : MachineCall) (t : MachineWithGoods) → Conserves empty empty t.part (effect c t) → (after c t).regs.holding ≡ t.regs.holding → (after c t).goods ≡ t.goods → (test : Listed → Bool) → whole_at test (after c t) ≡ whole_at test t
kept c t goes held same = moved c t empty empty goes held (λ test. let z = in_hand (after c t) t.goods test same in omega (arith, z))

kept_line : (e : Event) (t : MachineWithGoods) (test : Listed → Bool) → whole_at test (after (MachineCall.KeepBack e) t) ≡ whole_at test t
unfolding on_chain
kept_line e t test = refl

drawn_slot : (p : ChainPart) (list : List Asset) (who : Location) → (fee_drawn p list who).fee_slot ≡ p.fee_slot
unfolding fee_drawn
drawn_slot p list who = refl

-- the instructions that make anything
abbrev pub makes : Instruction-F Instruction → Bool
makes (Instruction-F.ReserveAssetDeposited list) = true
makes (Instruction-F.ReceiveTeleportedAsset list) = true
makes _ = false

makes_arriving : (list : List Asset) (teleport : Bool) → makes (arriving list teleport) ≡ true
makes_arriving list true = refl
makes_arriving list false = refl

module _ (withdraws : Withdraws) (moves : MovesAreKept) (l : Instruction-F Instruction) (m : Machine) (steady : IsSteady m) (lists : HasWithdrawalList l) (fees : HasFeeLists m.part) (room : HasRoomFor empty m) (plain : makes l ≡ false) where
  -- the maximum of a sum of burns isn't passed
  room_at : (t : MachineWithGoods) → Whole m t → (k : Listed) → whole_at (eq_by_cmp listed_cmp k) t ≤ most_burned
  room_at t w k = let e = w (eq_by_cmp listed_cmp k) in let r = room k in omega (arith, e, r)

  keeps_below : (t : MachineWithGoods) → Whole m t → KeepsBelow t.part
  keeps_below t w unit =
      let kept = amount_at_most unit_keys (is_unit_of (listed_of unit)) t.part.fees unit (unit_passes unit) in
      let slot = amount_at_most unit_keys (is_unit_of (listed_of unit)) t.part.fee_slot unit (unit_passes unit) in
      let place = fees_in_whole (is_unit_of (listed_of unit)) t.part in
      let all = room_at t w (listed_of unit) in
      omega (arith, kept, slot, place, all)

  one_list : (a : Asset) → IsFee l m a → IsAssetList (a ∷ [])
  one_list a is = fees is.0 a is.2

  step : (c : MachineCall) (t : MachineWithGoods) → HasReason Moment.Inside l m t c → why_not c t ≡ None → Whole m t → (test : Listed → Bool) → whole_at test (after c t) ≡ whole_at test t
  step (MachineCall.Check ok e) t asks free w = λ test. refl
  step (MachineCall.Take filter) t asks free w = λ test.
      let parts = taken_conserves (is_unit_where test) filter t.regs.holding in let z = in_hand t empty test asks in let n = nothing test in omega (arith, parts, z, n)
  step (MachineCall.Pay a) t asks free w = λ test.
      let parts = total-difference unit_keys (is_unit_where test) t.regs.holding (payment_of a) (payment_within (here t) a (unless_held _ _ _ free)) in
      let z = ap (λ (u : MachineWithGoods). total (is_unit_where test) u.goods) asks.0 in let n = nothing test in omega (arith, parts, z, n)
  step MachineCall.Join t asks free w = λ test.
      let held = t.regs.holding in
      let below : BooksBelow t.part (given_up held t.goods) = books_below t.part (merge held t.goods) (given_up held t.goods)
      (λ k. let a = given_up_total (eq_by_cmp listed_cmp k) held t.goods in let b = joined_total (is_unit_of k) held t.goods in let c = total-merge unit_keys (is_unit_of k) held t.goods in omega (arith, a, b, c))
      (λ k. let c = total-merge unit_keys (is_unit_of k) held t.goods in let r = room_at t w k in omega (arith, c, r)) in
      let x = ap (whole test) (part_is MachineCall.Join t) in
      let all = conserves_join t.part held t.goods below test in
      let sum = total-merge unit_keys (is_unit_where test) held t.goods in
      let n = nothing test in
      omega (arith, x, all, sum, n)
  step (MachineCall.Withdraw list who) t asks free w = came (MachineCall.Withdraw list who) t (bundle_of list) (conserves_withdrawal withdraws t.part list who (subst HasWithdrawalList asks.2 lists) free) refl (ap (λ (u : MachineWithGoods). u.goods) asks.0) refl
  step (MachineCall.Draw fee who) t asks free w = came (MachineCall.Draw fee who) t (payment_of fee) (conserves_drawn_fee withdraws t.part (fee ∷ []) who (one_list fee asks.2) free) refl (ap (λ (u : MachineWithGoods). u.goods) asks.0) refl
  step (MachineCall.Receive list from teleport) t asks free w = absurd (let no : false ≡ true = sym plain ∙ ap makes asks.2 ∙ makes_arriving list teleport in cc)
  step (MachineCall.Claim list who) t asks free w = came (MachineCall.Claim list who) t (bundle_of list) (conserves_claim t.part list who free) refl (ap (λ (u : MachineWithGoods). u.goods) asks.0) refl
  step (MachineCall.Refund v) t asks free w =
      came (MachineCall.Refund v) t (refund_goods t.part v) (conserves_refund moves t.part v (subst (λ (u : MachineWithGoods). AreWithinEnd u.part.lines) (sym asks.0) steady.rest.order.paid)) refl (ap (λ (u : MachineWithGoods). u.goods) asks.0) refl
  step (MachineCall.Deposit who) t asks free w = gave (MachineCall.Deposit who) t (conserves_deposit t.part t.goods who free) refl refl
  step MachineCall.Burn t asks free w = gave MachineCall.Burn t (conserves_burn t.part t.goods (books_below t.part t.goods (burned_for Cause.BurnAsset t.goods)
      (λ k. let a = burned_for_total (eq_by_cmp listed_cmp k) Cause.BurnAsset t.goods in omega (arith, a)) (λ k. let r = room_at t w k in omega (arith, r)))) refl refl
  step (MachineCall.Buy v) t asks free w =
      let within : AreWithinEnd t.part.lines = subst (λ (u : MachineWithGoods). AreWithinEnd u.part.lines) (sym asks.2) steady.rest.order.paid in
      let below : BuysBelow t.part v t.goods = λ line e. books_below t.part t.goods (burned_for Cause.Saturated (above_at v line)) (λ k. saturated_part moves t.part v t.goods line k within e) (λ k. let r = room_at t w k in omega (arith, r)) in
      moved (MachineCall.Buy v) t t.goods (unspent t.part v t.goods) (conserves_purchase moves t.part v t.goods within below) refl (λ test. omega arith)
  step (MachineCall.Exchange want maximal) t asks free w = moved (MachineCall.Exchange want maximal) t t.goods (exchange_goods t.part t.goods want maximal) (conserves_exchange t.part t.goods want maximal) refl (λ test. omega arith)
  step (MachineCall.DepositOut dest xcm) t asks free w = gave (MachineCall.DepositOut dest xcm) t (conserves_deposit_out t.part t.goods dest xcm free) refl refl
  step (MachineCall.Ship way dest xcm) t asks free w = gave (MachineCall.Ship way dest xcm) t (conserves_shipping t.part t.goods way dest xcm free) refl refl
  step (MachineCall.Transfer list from to) t asks free w = kept (MachineCall.Transfer list from to) t (conserves_transfer withdraws t.part list from to (subst HasWithdrawalList asks.2 lists) free) refl refl
  step (MachineCall.TransferOut list from dest xcm) t asks free w = kept (MachineCall.TransferOut list from dest xcm) t (conserves_transfer_out withdraws t.part list from dest xcm (subst HasWithdrawalList asks.2 lists) free) refl refl
  step (MachineCall.Respond info answer querier) t asks free w = kept (MachineCall.Respond info answer querier) t (conserves_response t.part info answer querier) refl refl
  step (MachineCall.Answer from query) t asks free w = kept (MachineCall.Answer from query) t (conserves_answer t.part from query) refl refl
  step (MachineCall.Dispatch who c) t asks free w = kept (MachineCall.Dispatch who c) t (conserves_moves t.part who c) refl refl
  step (MachineCall.KeepBack e) t asks free w = λ test. kept_line e t test
  step (MachineCall.Lock a owner unlocker) t asks free w = kept (MachineCall.Lock a owner unlocker) t (conserves_locking t.part a owner unlocker) refl refl
  step (MachineCall.Unlock a target from) t asks free w = kept (MachineCall.Unlock a target from) t (conserves_unlocking t.part a target from) refl refl
  step (MachineCall.Note a owner from) t asks free w = kept (MachineCall.Note a owner from) t (conserves_noting t.part a owner from) refl refl
  step (MachineCall.Request a owner locker) t asks free w = kept (MachineCall.Request a owner locker) t (conserves_requesting t.part a owner locker) refl refl
  step MachineCall.HoldFee t asks free w = gave MachineCall.HoldFee t (conserves_held_fee t.part t.goods (asks.3 ∙ steady.rest.slot)) refl refl
  step MachineCall.TakeFee t asks free w = came MachineCall.TakeFee t t.part.fee_slot (conserves_taken_fee t.part) refl asks refl
  step MachineCall.KeepFee t asks free w = kept MachineCall.KeepFee t (conserves_kept_fee t.part (keeps_below t w)) refl refl
  step MachineCall.Park t asks free w = gave MachineCall.Park t (conserves_park t.part t.goods) refl refl
  step MachineCall.Empty t asks free w = absurd (cc asks.0)
  step (MachineCall.Tell e) t asks free w = absurd (cc asks.0)
  step MachineCall.Settle t asks free w = absurd (cc asks.0)
  step (MachineCall.Trap who) t asks free w = absurd (cc asks)

  at_rest : (n : Machine) (test : Listed → Bool) → whole_at test (between n) ≡ whole_of test n
  at_rest n test = let z = nothing test in omega (arith, z)

  holding_stays : (t : MachineWithGoods) → IsFrom m t → Whole m t → Whole m (turned_at l m t)
  holding_stays t from w = λ test. let h = ap (total (is_unit_where test)) (turns l m t from).holding in let e = w test in omega (arith, h, e)

  pub whole_done : refused l m ≡ None → (test : Listed → Bool) → whole_of test (done l m) ≡ whole_of test m
  whole_done free test =
      let all : Whole m (between (done l m)) = done_keeps l m (Whole m) (λ c t asks from ok w test. step c t asks ok w test ∙ w test) holding_stays free (at_rest m) in
      sym (at_rest (done l m) test) ∙ all test

  -- the same where memory stops it
  pub whole_stopped : (now : Machine) → IsLedTo l m now → (test : Listed → Bool) → whole_of test now ≡ whole_of test m
  whole_stopped now led test =
      let all : Whole m (between now) = lead_keeps l m (Whole m) (λ c t early asks from ok w test. step c t asks ok w test ∙ w test) now led (at_rest m) in
      sym (at_rest now test) ∙ all test
