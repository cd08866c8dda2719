-- What each call does to checking accounts, and to all that the chain has of their assets: of both together nothing is made.
use Rattle.std.proofs.Common.{◌≡◌, ℕ, ◌+◌, ◌-◌, ◌≤◌, Bool, true, false, List, [], ◌∷◌, Option, Some, None, refl, sym, ap, ◌∙◌, subst, arith}
use Rattle.std.specs.Prelude.{⊤, min, slice_get}
use Rattle.std.specs.List.{AllByRecursion}
use Rattle.std.specs.Option.{option_map_or}
use Rattle.amounts.specs.Amounts.{amount, total, empty, merge, map_keys, IsWithin}
use Rattle.amounts.proofs.Lemmas.AmountLaws.{total-empty}
use Rattle.amounts.proofs.Lemmas.{amount-difference, total-merge, total-difference, total-map_keys}
use Rattle.locations.specs.declared.relative.Location.{Location}
use Rattle.operands.specs.declared.weight.Weight.{Weight}
use Rattle.asset_lists.specs.declared.units.Asset.{Asset}
use Rattle.asset_lists.specs.declared.units.Kind.{Kind}
use Rattle.asset_lists.proofs.Lemmas.{once_each}
use Rattle.asset_lists.specs.Lists.{IsAssetList}
use Rattle.asset_lists.specs.Units.{Unit, unit_cmp}
use Rattle.asset_bundles.specs.declared.shipment.Way.{Way}
use Rattle.asset_bundles.specs.Books.{most_burned}
use Rattle.asset_bundles.specs.Bundles.{Bundle, bundle_of, held_assets}
use Rattle.asset_bundles.proofs.Lemmas.Bundles.{unit_keys}
use Rattle.asset_bundles.specs.Changed.{with_amounts}
use Rattle.asset_bundles.proofs.Lemmas.Changed.{amount-with_amounts}
use Rattle.asset_bundles.proofs.Lemmas.{joined_total, taken_conserves}
use Rattle.trust_tables.specs.Accounts.{account_of}
use Rattle.trust_tables.specs.declared.rows.AssetRow.{AssetRow}
use Rattle.ledgers.proofs.Lemmas.{holder_keys}
use Rattle.ledgers.specs.Ledgers.{Holder}
use Rattle.weight_trader.specs.Laws.{Purchase, Refund, Closing, EndsAreKept, MovesAreKept, paid_by, saturated_by, unspent_by}
use Rattle.weight_trader.specs.Purchases.{Line, paying, unspent_at, Bought, paid_goods, AreWithinEnd}
use Rattle.weight_trader.specs.Refunds.{Closed}
use Rattle.xcm_program.specs.declared.instruction.Instruction.{Instruction}
use Rattle.xcm_program.specs.declared.instruction.Instruction.TheOpen.{Instruction-F}
use Rattle.law_coherence.specs.Networks.{is_native_role}
use Rattle.exec_base.specs.declared.settings.Settings.{Settings}
use Rattle.exec_base.specs.Part.{ChainPart}
use Rattle.exec_base.specs.Pools.{exchange_goods}
use Rattle.exec_base.specs.Sending.{sent, leads_to_location}
use Rattle.exec_base.specs.Host.{first_fault, trust_fault, lower_fault, changed_all, receive_refusal, received, deposit_out_refusal, deposited, deposited_out, transfer_out_refusal, transferred, transferred_out, shipped, unspent, bought, booked, refund_goods, refunded, settled, all_fees, fees_above, fees_within, fee_kept, fees_with}
use Rattle.exec_rules.proofs.Lemmas.AnswerLaws.{unless_held, none_first, none_next}
use Rattle.exec_rules.specs.Holdings.{payment_of}
use Rattle.exec_rules.specs.Machine.{Machine}
use Rattle.exec_rules.specs.HostCalls.{MachineWithGoods, here, MachineCall, why_not, after}
use Rattle.exec_rules.proofs.Lemmas.HostCalls.{effect}
use Rattle.exec_rules.proofs.Lemmas.Footprints.{part_is, settings_after, channels_after}
use Rattle.exec_rules.specs.Reasons.{Moment, HasReason, IsFee}
use Rattle.law_runs.specs.Sums.{in_kept, in_places, Sum, none}
use Rattle.law_runs.proofs.Lemmas.Sums.{sum_of, nobody, only, Call}
use Rattle.law_runs.specs.Calls.{Withdraws, Trapping}
use Rattle.law_runs.proofs.Lemmas.Calls.{withdrawing, drawing, depositing, transferring, claiming, refunding, parking_goods, dispatching, of_a_pool, exchanging, trapping_goods}
use Rattle.law_runs.specs.Safety.{HasFee, HasList, AreFees}
use Rattle.law_runs.proofs.Lemmas.Safety.{links_put, fee_in_order}
use Rattle.law_runs.proofs.Lemmas.Turns.{paid_parts}
use Rattle.law_runs.proofs.Lemmas.Accepted.{taking_fee}
use Rattle.law_audits.specs.Ends.{is_of_row, AreBelowEnd}
use Rattle.law_audits.proofs.CheckingRows.{RowsApart, listed_sum, sum_is, all_raised, all_lowered, was_there, none_deposited, unit_of_row, all_covered, held_less}

-- ---- what the chain has, with what is held and what is in hand
abbrev pub has : (Unit → Bool) → MachineWithGoods → ℕ
has q t = in_places q t.part + (total q t.regs.holding + total q t.goods)

nothing : (q : Unit → Bool) → total {R = unit_cmp} q empty ≡ 0
nothing q = total-empty unit_keys q

less_within : (q : Unit → Bool) (b c : Bundle) → IsWithin b c → total q b ≤ total q c
less_within q b c within = let e = total-difference unit_keys q c b within in omega (arith, e)

-- ---- where what the chain has stays
abbrev KeepsPlaces : MachineCall → Type 0
KeepsPlaces (MachineCall.Withdraw list who) = ⊥
KeepsPlaces (MachineCall.Draw fee who) = ⊥
KeepsPlaces (MachineCall.Claim list who) = ⊥
KeepsPlaces (MachineCall.Refund w) = ⊥
KeepsPlaces (MachineCall.Deposit who) = ⊥
KeepsPlaces (MachineCall.Buy w) = ⊥
KeepsPlaces (MachineCall.Exchange want maximal) = ⊥
KeepsPlaces (MachineCall.DepositOut dest xcm) = ⊥
KeepsPlaces (MachineCall.Transfer list from to) = ⊥
KeepsPlaces (MachineCall.TransferOut list from dest xcm) = ⊥
KeepsPlaces (MachineCall.Dispatch who c) = ⊥
KeepsPlaces MachineCall.HoldFee = ⊥
KeepsPlaces MachineCall.TakeFee = ⊥
KeepsPlaces MachineCall.KeepFee = ⊥
KeepsPlaces MachineCall.Park = ⊥
KeepsPlaces MachineCall.Settle = ⊥
KeepsPlaces (MachineCall.Trap who) = ⊥
KeepsPlaces _ = ⊤

places_stay : (c : MachineCall) (t : MachineWithGoods) (q : Unit → Bool) → KeepsPlaces c → in_places q (after c t).part ≡ in_places q t.part
unfolding in_kept
places_stay (MachineCall.Withdraw list who) t q h = absurd h
places_stay (MachineCall.Draw fee who) t q h = absurd h
places_stay (MachineCall.Claim list who) t q h = absurd h
places_stay (MachineCall.Refund w) t q h = absurd h
places_stay (MachineCall.Deposit who) t q h = absurd h
places_stay (MachineCall.Buy w) t q h = absurd h
places_stay (MachineCall.Exchange want maximal) t q h = absurd h
places_stay (MachineCall.DepositOut dest xcm) t q h = absurd h
places_stay (MachineCall.Transfer list from to) t q h = absurd h
places_stay (MachineCall.TransferOut list from dest xcm) t q h = absurd h
places_stay (MachineCall.Dispatch who c) t q h = absurd h
places_stay MachineCall.HoldFee t q h = absurd h
places_stay MachineCall.TakeFee t q h = absurd h
places_stay MachineCall.KeepFee t q h = absurd h
places_stay MachineCall.Park t q h = absurd h
places_stay MachineCall.Settle t q h = absurd h
places_stay (MachineCall.Trap who) t q h = absurd h
places_stay _ t q h = refl

-- ---- parts that change by themselves
deposited_places : (t : MachineWithGoods) (dest : Location) (xcm : List Instruction) (q : Unit → Bool) → in_places q (after (MachineCall.DepositOut dest xcm) t).part ≡ in_places q (deposited t.part t.goods dest)
unfolding in_kept deposited_out deposited sent
deposited_places t dest xcm q = refl

transferred_places : (t : MachineWithGoods) (list : List Asset) (from dest : Location) (xcm : List Instruction) (q : Unit → Bool)
    → in_places q (after (MachineCall.TransferOut list from dest xcm) t).part ≡ in_places q (transferred t.part list from dest)
unfolding in_kept transferred_out transferred sent
transferred_places t list from dest xcm q = refl

held_fee_places : (t : MachineWithGoods) (q : Unit → Bool) → in_places q (after MachineCall.HoldFee t).part + total q t.part.fee_slot ≡ in_places q t.part + total q t.goods
unfolding in_kept
held_fee_places t q = omega arith

-- purchases
lines_places : (t : MachineWithGoods) (w : Weight) (q : Unit → Bool) → in_places q (after (MachineCall.Buy w) t).part + total q (paid_goods t.part.lines) ≡ in_places q t.part + total q (paid_goods (bought t.part w t.goods).lines)
unfolding in_kept
lines_places t w q = omega arith

bought_by : MovesAreKept → (p : ChainPart) (w : Weight) (payment : Bundle) (q : Unit → Bool) (o : Option Line) → paying w payment p.lines ≡ o → AreWithinEnd p.lines
    → total q (paid_goods (option_map_or (λ (line : Line). Bought w payment p.lines) o p.lines)) + total q (option_map_or (λ (line : Line). unspent_at w payment line) o payment) ≤ total q (paid_goods p.lines) + total q payment
bought_by law p w payment q None e within = omega arith
bought_by law p w payment q (Some line) e within =
    let kept = law (Purchase w payment) p.lines within in
    let payment_is : total q payment ≡ total q (merge (unspent_at w payment line) (merge (paid_by w (Some line)) (saturated_by w (Some line)))) =
    ap (total q) kept.0 ∙ ap (λ (o : Option Line). total q (merge (unspent_by w payment o) (merge (paid_by w o) (saturated_by w o)))) e in
    let paid_is : total q (merge empty (paid_goods (Bought w payment p.lines))) ≡ total q (merge (paid_goods p.lines) (paid_by w (Some line))) =
    ap (total q) kept.1 ∙ ap (λ (o : Option Line). total q (merge (paid_goods p.lines) (paid_by w o))) e in
    let parts = total-merge unit_keys q (unspent_at w payment line) (merge (paid_by w (Some line)) (saturated_by w (Some line))) in
    let rest = total-merge unit_keys q (paid_by w (Some line)) (saturated_by w (Some line)) in
    let now = total-merge unit_keys q empty (paid_goods (Bought w payment p.lines)) in
    let before = total-merge unit_keys q (paid_goods p.lines) (paid_by w (Some line)) in
    let z = nothing q in
    omega (arith, payment_is, paid_is, parts, rest, now, before, z)

lines_by : (p : ChainPart) (o : Option Line) (f : Line → ChainPart) (lines : Line → List Line) → ((line : Line) → (f line).lines ≡ lines line) → (option_map_or f o p).lines ≡ option_map_or lines o p.lines
lines_by p None f lines same = refl
lines_by p (Some line) f lines same = same line

bought_lines : (p : ChainPart) (w : Weight) (payment : Bundle) → (bought p w payment).lines ≡ option_map_or (λ (line : Line). Bought w payment p.lines) (paying w payment p.lines) p.lines
unfolding bought booked
bought_lines p w payment = lines_by p (paying w payment p.lines) _ (λ line. Bought w payment p.lines) (λ line. refl)

bought_less : MovesAreKept → (p : ChainPart) (w : Weight) (payment : Bundle) (q : Unit → Bool) → AreWithinEnd p.lines
    → total q (paid_goods (bought p w payment).lines) + total q (unspent p w payment) ≤ total q (paid_goods p.lines) + total q payment
unfolding unspent
bought_less law p w payment q within =
    let e = ap (λ (lines : List Line). total q (paid_goods lines)) (bought_lines p w payment) in
    let less = bought_by law p w payment q (paying w payment p.lines) refl within in
    omega (arith, e, less)

-- fees
kept_places : (t : MachineWithGoods) (q : Unit → Bool) → in_places q (after MachineCall.KeepFee t).part + (total q t.part.fees + total q t.part.fee_slot) ≡ in_places q t.part + total q (fees_with t.part.fees t.part.fee_slot)
unfolding fee_kept in_kept
kept_places t q = let z = nothing q in omega (arith, z)

fees_less : (q : Unit → Bool) (fees more : Bundle) → total q (fees_with fees more) ≤ total q fees + total q more
unfolding fees_with
fees_less q fees more =
    let some = with_amounts (λ (unit : Unit) n. min n (most_burned - amount fees unit)) more in
    let sum = total-merge unit_keys q fees some in
    let less = less_within q some more (λ u. let a = amount-with_amounts unit_keys (λ (unit : Unit) n. min n (most_burned - amount fees unit)) (λ unit. omega arith) more u in omega (arith, a)) in
    omega (arith, sum, less)

-- settlement
settled_places : (t : MachineWithGoods) (q : Unit → Bool) → in_places q (after MachineCall.Settle t).part + (total (λ (h : Holder). q h.1) t.part.held + total q (paid_goods t.part.lines) + total q t.part.fees)
    ≡ in_places q t.part + (total (λ (h : Holder). q h.1) (merge t.part.held (map_keys (λ (unit : Unit). (t.part.fee_account, unit)) (fees_within t.part))) + total q (paid_goods (Closed t.part.lines)))
unfolding settled in_kept
settled_places t q = let z = nothing q in omega (arith, z)

settled_less : MovesAreKept → (t : MachineWithGoods) (q : Unit → Bool) → AreWithinEnd t.part.lines → in_places q (after MachineCall.Settle t).part ≤ in_places q t.part
settled_less law t q within =
    let p = t.part in
    let places = settled_places t q in
    let held = total-merge holder_keys (λ (h : Holder). q h.1) p.held (map_keys (λ (unit : Unit). (p.fee_account, unit)) (fees_within p)) in
    let came = total-map_keys {S = unit_cmp} holder_keys (λ (h : Holder). q h.1) (λ (unit : Unit). (p.fee_account, unit)) (fees_within p) in
    let less = less_within q (fees_within p) (all_fees p) (λ u. let e = amount-difference unit_keys (all_fees p) (fees_above p) u in omega (arith, e)) in
    let fees = total-merge unit_keys q (paid_goods p.lines) p.fees in
    let closing = ap (total q) (law Closing p.lines within).1 in
    let closing_before = total-merge unit_keys q (paid_goods p.lines) (paid_goods (Closed p.lines)) in
    let closing_after = total-merge unit_keys q (paid_goods p.lines) empty in
    let z = nothing q in
    omega (arith, places, held, came, less, fees, closing, closing_before, closing_after, z)

-- ---- calls that leave the checking accounts
abbrev KeepsAccounts : MachineCall → Type 0
KeepsAccounts (MachineCall.Receive list from teleport) = ⊥
KeepsAccounts (MachineCall.Ship way dest xcm) = ⊥
KeepsAccounts _ = ⊤

accounts_stay : (c : MachineCall) (t : MachineWithGoods) → KeepsAccounts c → (after c t).part.checking ≡ t.part.checking
accounts_stay (MachineCall.Receive list from teleport) t h = absurd h
accounts_stay (MachineCall.Ship way dest xcm) t h = absurd h
accounts_stay _ t h = refl

by_call : (may : List ℕ → Type 0) (ins outs : Sum) (c : MachineCall) (t : MachineWithGoods) → Call may ins outs t.part (effect c t)
    → ((q : Unit → Bool) → total q (after c t).regs.holding + total q (after c t).goods + ins q ≤ total q t.regs.holding + total q t.goods + outs q) → (q : Unit → Bool) → has q (after c t) ≤ has q t
by_call may ins outs c t x sums q =
    let part = ap (in_places q) (part_is c t) in
    let moved = x.amounts q in
    let hands = sums q in
    omega (arith, part, moved, hands)

module _ (withdraws : Withdraws) (moves : MovesAreKept) (trapping : Trapping) (moment : Moment) (l : Instruction-F Instruction) (m : Machine) (fits : HasList Instruction l) (fees : AreFees m.part.channels) where
  list_of : (k : Instruction-F Instruction) → l ≡ k → HasList Instruction k
  list_of k is = subst (HasList Instruction) is fits

  fee_list : (fee : Asset) → IsFee l m fee → IsAssetList (fee ∷ [])
  fee_list fee is = fee_in_order m.part is.0 fee fees is.2

  fewer : (c : MachineCall) (t : MachineWithGoods) → KeepsAccounts c → HasReason moment l m t c → why_not c t ≡ None → AreWithinEnd t.part.lines → (q : Unit → Bool) → has q (after c t) ≤ has q t
  unfolding deposit_out_refusal transfer_out_refusal
  fewer (MachineCall.Take filter) t plain asks ok within q = let e = taken_conserves q filter t.regs.holding in omega (arith, e)
  fewer (MachineCall.Pay a) t plain asks ok within q = let e = paid_parts (here t) a (unless_held _ _ _ ok) q in omega (arith, e)
  fewer MachineCall.Join t plain asks ok within q = let e = joined_total q t.regs.holding t.goods in let same = places_stay MachineCall.Join t q tt in let z = nothing q in omega (arith, e, same, z)
  fewer (MachineCall.Withdraw list who) t plain asks ok within q =
      by_call (only (account_of who t.part.site)) none (sum_of (bundle_of list)) (MachineCall.Withdraw list who) t (withdrawing withdraws t.part list who (list_of (Instruction-F.WithdrawAsset list) asks.2) ok) (λ q. omega arith) q
  fewer (MachineCall.Draw fee who) t plain asks ok within q =
      by_call (only (account_of who t.part.site)) none (sum_of (payment_of fee)) (MachineCall.Draw fee who) t (drawing withdraws t.part (fee ∷ []) who (fee_list fee asks.2) ok) (λ q. omega arith) q
  fewer (MachineCall.Receive list from teleport) t plain asks ok within q = absurd plain
  fewer (MachineCall.Claim list who) t plain asks ok within q = by_call nobody none (sum_of (bundle_of list)) (MachineCall.Claim list who) t (claiming t.part list who ok) (λ q. omega arith) q
  fewer (MachineCall.Refund w) t plain asks ok within q = by_call nobody none (sum_of (refund_goods t.part w)) (MachineCall.Refund w) t (refunding moves t.part w within) (λ q. omega arith) q
  fewer (MachineCall.Deposit who) t plain asks ok within q = by_call nobody (sum_of t.goods) none (MachineCall.Deposit who) t (depositing t.part t.goods who ok) (λ q. let z = nothing q in omega (arith, z)) q
  fewer MachineCall.Burn t plain asks ok within q = let same = places_stay MachineCall.Burn t q tt in let z = nothing q in omega (arith, same, z)
  fewer (MachineCall.Buy w) t plain asks ok within q = let places = lines_places t w q in let less = bought_less moves t.part w t.goods q within in omega (arith, places, less)
  fewer (MachineCall.Exchange want maximal) t plain asks ok within q =
      by_call of_a_pool (sum_of t.goods) (sum_of (exchange_goods t.part t.goods want maximal)) (MachineCall.Exchange want maximal) t (exchanging t.part t.goods want maximal) (λ q. omega arith) q
  fewer (MachineCall.DepositOut dest xcm) t plain asks ok within q =
      let same = deposited_places t dest xcm q in
      let moved = (depositing t.part t.goods dest (none_first _ _ ok)).amounts q in
      let z = nothing q in
      omega (arith, same, moved, z)
  fewer (MachineCall.Ship way dest xcm) t plain asks ok within q = absurd plain
  fewer (MachineCall.Transfer list from to) t plain asks ok within q =
      by_call (only (account_of from t.part.site)) none none (MachineCall.Transfer list from to) t (transferring withdraws t.part list from to (list_of (Instruction-F.TransferAsset list to) asks.2) ok) (λ q. omega arith) q
  fewer (MachineCall.TransferOut list from dest xcm) t plain asks ok within q =
      let same = transferred_places t list from dest xcm q in
      let moved = (transferring withdraws t.part list from dest (list_of (Instruction-F.TransferReserveAsset list dest xcm) asks.2) (none_first _ _ ok)).amounts q in
      omega (arith, same, moved)
  fewer (MachineCall.Dispatch who c) t plain asks ok within q = by_call (λ w. w ≡ who) none none (MachineCall.Dispatch who c) t (dispatching t.part who c) (λ q. omega arith) q
  fewer MachineCall.HoldFee t plain asks ok within q = let places = held_fee_places t q in let z = nothing q in omega (arith, places, z)
  fewer MachineCall.TakeFee t plain asks ok within q = by_call nobody none (sum_of t.part.fee_slot) MachineCall.TakeFee t (taking_fee t.part) (λ q. omega arith) q
  fewer MachineCall.KeepFee t plain asks ok within q = let places = kept_places t q in let less = fees_less q t.part.fees t.part.fee_slot in omega (arith, places, less)
  fewer MachineCall.Park t plain asks ok within q = by_call nobody (sum_of t.goods) none MachineCall.Park t (parking_goods t.part t.goods) (λ q. let z = nothing q in omega (arith, z)) q
  fewer MachineCall.Empty t plain asks ok within q = let same = places_stay MachineCall.Empty t q tt in let z = nothing q in omega (arith, same, z)
  fewer MachineCall.Settle t plain asks ok within q = let less = settled_less moves t q within in omega (arith, less)
  fewer (MachineCall.Trap who) t plain asks ok within q = by_call nobody (sum_of t.goods) none (MachineCall.Trap who) t (trapping_goods trapping t.part t.goods who) (λ q. let z = nothing q in omega (arith, z)) q
  fewer (MachineCall.Check b e) t plain asks ok within q = omega arith
  fewer (MachineCall.Respond info answer querier) t plain asks ok within q = let same = places_stay (MachineCall.Respond info answer querier) t q tt in omega (arith, same)
  fewer (MachineCall.Answer from query) t plain asks ok within q = let same = places_stay (MachineCall.Answer from query) t q tt in omega (arith, same)
  fewer (MachineCall.KeepBack e) t plain asks ok within q = let same = places_stay (MachineCall.KeepBack e) t q tt in omega (arith, same)
  fewer (MachineCall.Lock a owner unlocker) t plain asks ok within q = let same = places_stay (MachineCall.Lock a owner unlocker) t q tt in omega (arith, same)
  fewer (MachineCall.Unlock a target from) t plain asks ok within q = let same = places_stay (MachineCall.Unlock a target from) t q tt in omega (arith, same)
  fewer (MachineCall.Note a owner from) t plain asks ok within q = let same = places_stay (MachineCall.Note a owner from) t q tt in omega (arith, same)
  fewer (MachineCall.Request a owner locker) t plain asks ok within q = let same = places_stay (MachineCall.Request a owner locker) t q tt in omega (arith, same)
  fewer (MachineCall.Tell e) t plain asks ok within q = let same = places_stay (MachineCall.Tell e) t q tt in omega (arith, same)

-- ---- what is paid for weight stays below its maximum
module _ (ends : EndsAreKept) where
  bought_within : (lines : List Line) (w : Weight) (payment : Bundle) (o : Option Line) → AreWithinEnd lines → AreWithinEnd (option_map_or (λ (line : Line). Bought w payment lines) o lines)
  bought_within lines w payment None h = h
  bought_within lines w payment (Some line) h = ends (Purchase w payment ∷ []) lines h

  lines_within : (c : MachineCall) (t : MachineWithGoods) → AreWithinEnd t.part.lines → AreWithinEnd (after c t).part.lines
  unfolding refunded settled
  lines_within (MachineCall.Buy w) t h = subst AreWithinEnd (sym (bought_lines t.part w t.goods)) (bought_within t.part.lines w t.goods (paying w t.goods t.part.lines) h)
  lines_within (MachineCall.Refund w) t h = ends (Refund w ∷ []) t.part.lines h
  lines_within MachineCall.Settle t h = ends (Closing ∷ []) t.part.lines h
  lines_within _ t h = h

-- ---- what each call keeps

-- the accounts are of native rows of fungible assets
abbrev pub AreNative : ChainPart → Type 0
AreNative p = (place : ℕ) (row : AssetRow) (n : ℕ) → slice_get p.rows place ≡ Some row → slice_get p.checking place ≡ Some (Some n) → (is_native_role row.role ≡ true) × (row.kind ≡ Kind.Fungible)

pub record IsBounded (held : Sum) (p : ChainPart) : Type 0 where
  pub apart : RowsApart p.rows
  pub native : AreNative p
  pub fees : AreFees p.channels
  pub paid : AreWithinEnd p.lines
  pub below : AreBelowEnd held p

abbrev pub in_hands : MachineWithGoods → Sum
in_hands t q = total q t.regs.holding + total q t.goods

-- with less held
pub bounded_less : (a b : Sum) (p : ChainPart) → ((q : Unit → Bool) → b q ≤ a q) → IsBounded a p → IsBounded b p
bounded_less a b p less x = record {
  apart = x.apart;
  native = x.native;
  fees = x.fees;
  paid = x.paid;
  below = λ place row n at there. let lt = x.below place row n at there in let few = less (is_of_row row) in omega (arith, lt, few);
}

fees_after : (c : MachineCall) (t : MachineWithGoods) → AreFees t.part.channels → AreFees (after c t).part.channels
fees_after c t h = channels_after AreFees t (λ dest program cargo g. subst (AllByRecursion HasFee) (sym (links_put (leads_to_location t.part dest) program cargo t.part.channels)) g) c h

-- an account, with all that the chain has, is no more than before
abbrev Falls : MachineCall → MachineWithGoods → Type 0
Falls c t = (place : ℕ) (row : AssetRow) (now : ℕ) → slice_get t.part.rows place ≡ Some row → slice_get (after c t).part.checking place ≡ Some (Some now)
    → (n : ℕ) × (slice_get t.part.checking place ≡ Some (Some n)) × (now + has (is_of_row row) (after c t) ≤ n + has (is_of_row row) t)

bounded_by : EndsAreKept → (c : MachineCall) (t : MachineWithGoods) → Falls c t → IsBounded (in_hands t) t.part → IsBounded (in_hands (after c t)) (after c t).part
bounded_by ends c t falls x =
    let settings = settings_after c t in
    let before : (place : ℕ) (row : AssetRow) → slice_get (after c t).part.rows place ≡ Some row → slice_get t.part.rows place ≡ Some row =
    λ place row at. ap (λ (s : Settings). slice_get s.rows place) (sym settings) ∙ at in
    record {
      apart = subst (λ (s : Settings). RowsApart s.rows) (sym settings) x.apart;
      native = λ place row now at there.
          let was = falls place row now (before place row at) there in
          x.native place row was.0 (before place row at) was.1;
      fees = fees_after c t x.fees;
      paid = lines_within ends c t x.paid;
      below = λ place row now at there.
          let was = falls place row now (before place row at) there in
          let lt = x.below place row was.0 (before place row at) was.1 in
          let less = was.2 in
          omega (arith, lt, less);
    }

plain_falls : (c : MachineCall) (t : MachineWithGoods) → (after c t).part.checking ≡ t.part.checking → ((place : ℕ) (row : AssetRow) (n : ℕ) → slice_get t.part.rows place ≡ Some row → slice_get t.part.checking place ≡ Some (Some n) → has (is_of_row row) (after c t) ≤ has (is_of_row row) t) → Falls c t
plain_falls c t same less place row now at there =
    let is = ap (λ (cs : List (Option ℕ)). slice_get cs place) (sym same) ∙ there in
    let few = less place row now at is in
    (now, is, omega (arith, few))

-- ---- what comes from other chains
received_checks : (t : MachineWithGoods) (list : List Asset) (o : Option Location) → (after (MachineCall.Receive list o true) t).part.checking ≡ changed_all (λ n a. n - a) list t.part.rows t.part.checking
unfolding received
received_checks t list o = refl

deposited_checks : (t : MachineWithGoods) (list : List Asset) (o : Option Location) → (after (MachineCall.Receive list o false) t).part.checking ≡ t.part.checking
unfolding received
deposited_checks t list o = refl

lowered_if : (p : ChainPart) (list : List Asset) (from : Location) → receive_refusal p list from true ≡ None → first_fault (lower_fault p) list ≡ None
unfolding receive_refusal
lowered_if p list from ok = none_next _ _ ok

trusted_if : (p : ChainPart) (list : List Asset) (from : Location) → receive_refusal p list from false ≡ None → first_fault (trust_fault p from false) list ≡ None
unfolding receive_refusal
trusted_if p list from ok = none_first _ _ ok

received_falls : (t : MachineWithGoods) (list : List Asset) (from : Location) → IsBounded (in_hands t) t.part → IsAssetList list → receive_refusal t.part list from true ≡ None → Falls (MachineCall.Receive list (Some from) true) t
received_falls t list from x in_order ok place row now at there =
    let sum = listed_sum row list in
    let was = was_there (λ n. n - sum) (slice_get t.part.checking place) now (sym (all_lowered t.part.rows place row x.apart at list t.part.checking) ∙ ap (λ (cs : List (Option ℕ)). slice_get cs place) (sym (received_checks t list (Some from))) ∙ there) in
    let native = x.native place row was.0 at was.1 in
    let few = all_covered t.part place row was.0 x.apart at was.1 native.1 list (lowered_if t.part list from ok) (once_each list in_order.rising (unit_of_row row)) in
    let left = was.2 in
    let goods = sum_is row list in
    let same = places_stay (MachineCall.Receive list (Some from) true) t (is_of_row row) tt in
    (was.0, was.1, omega (arith, few, left, goods, same))

deposit_falls : (t : MachineWithGoods) (list : List Asset) (from : Location) → IsBounded (in_hands t) t.part → receive_refusal t.part list from false ≡ None → Falls (MachineCall.Receive list (Some from) false) t
deposit_falls t list from x ok =
    plain_falls (MachineCall.Receive list (Some from) false) t (deposited_checks t list (Some from)) (λ place row n at there.
    let none_of = none_deposited t.part place row x.apart at from list (x.native place row n at there).0 (trusted_if t.part list from ok) in
    let goods = sum_is row list in
    let same = places_stay (MachineCall.Receive list (Some from) false) t (is_of_row row) tt in
    omega (arith, none_of, goods, same))

-- ---- what goes to other chains
teleported_checks : (t : MachineWithGoods) (dest : Location) (xcm : List Instruction) → (after (MachineCall.Ship Way.Teleport dest xcm) t).part.checking ≡ changed_all (λ n a. n + a) (held_assets t.goods) t.part.rows t.part.checking
unfolding shipped sent
teleported_checks t dest xcm = refl

withdrawn_checks : (t : MachineWithGoods) (dest : Location) (xcm : List Instruction) → (after (MachineCall.Ship Way.Withdrawal dest xcm) t).part.checking ≡ t.part.checking
unfolding shipped sent
withdrawn_checks t dest xcm = refl

teleport_falls : (t : MachineWithGoods) (dest : Location) (xcm : List Instruction) → IsBounded (in_hands t) t.part → Falls (MachineCall.Ship Way.Teleport dest xcm) t
teleport_falls t dest xcm x place row now at there =
    let list = held_assets t.goods in
    let sum = listed_sum row list in
    let was = was_there (λ n. n + sum) (slice_get t.part.checking place) now (sym (all_raised t.part.rows place row x.apart at list t.part.checking) ∙ ap (λ (cs : List (Option ℕ)). slice_get cs place) (sym (teleported_checks t dest xcm)) ∙ there) in
    let more = was.2 in
    let less = held_less row t.goods in
    let same = places_stay (MachineCall.Ship Way.Teleport dest xcm) t (is_of_row row) tt in
    let z = nothing (is_of_row row) in
    (was.0, was.1, omega (arith, more, less, same, z))

withdrawal_falls : (t : MachineWithGoods) (dest : Location) (xcm : List Instruction) → Falls (MachineCall.Ship Way.Withdrawal dest xcm) t
withdrawal_falls t dest xcm =
    plain_falls (MachineCall.Ship Way.Withdrawal dest xcm) t (withdrawn_checks t dest xcm) (λ place row n at there.
    let same = places_stay (MachineCall.Ship Way.Withdrawal dest xcm) t (is_of_row row) tt in
    let z = nothing (is_of_row row) in
    omega (arith, same, z))

-- ---- each call
pub record LawsOfMoves : Type 0 where
  pub withdraws : Withdraws
  pub moves : MovesAreKept
  pub ends : EndsAreKept
  pub trapping : Trapping

module _ (laws : LawsOfMoves) (moment : Moment) (l : Instruction-F Instruction) (m : Machine) (fits : HasList Instruction l) (fees : AreFees m.part.channels) where
  plain_call : (c : MachineCall) (t : MachineWithGoods) → KeepsAccounts c → HasReason moment l m t c → why_not c t ≡ None → IsBounded (in_hands t) t.part → Falls c t
  plain_call c t plain asks ok x = plain_falls c t (accounts_stay c t plain) (λ place row n at there. fewer laws.withdraws laws.moves laws.trapping moment l m fits fees c t plain asks ok x.paid (is_of_row row))

  call_falls : (c : MachineCall) (t : MachineWithGoods) → HasReason moment l m t c → why_not c t ≡ None → IsBounded (in_hands t) t.part → Falls c t
  call_falls (MachineCall.Receive list None teleport) t asks ok x = absurd (cc ok)
  call_falls (MachineCall.Receive list (Some from) true) t asks ok x = received_falls t list from x (subst (HasList Instruction) asks.2 fits) ok
  call_falls (MachineCall.Receive list (Some from) false) t asks ok x = deposit_falls t list from x ok
  call_falls (MachineCall.Ship Way.Teleport dest xcm) t asks ok x = teleport_falls t dest xcm x
  call_falls (MachineCall.Ship Way.Withdrawal dest xcm) t asks ok x = withdrawal_falls t dest xcm
  call_falls (MachineCall.Take filter) t asks ok x = plain_call (MachineCall.Take filter) t tt asks ok x
  call_falls c t asks ok x = plain_call c t tt asks ok x

  pub call_bounded : (c : MachineCall) (t : MachineWithGoods) → HasReason moment l m t c → why_not c t ≡ None → IsBounded (in_hands t) t.part → IsBounded (in_hands (after c t)) (after c t).part
  call_bounded c t asks ok x = bounded_by laws.ends c t (call_falls c t asks ok x) x
