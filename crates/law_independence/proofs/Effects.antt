-- What an instruction asks of a chain, what it refuses and what it leaves don't depend on a frame, where no send on the frame's channel answers
-- Transport.
use Rattle.std.proofs.Common.{◌≡◌, ℕ, Bool, true, false, List, [], ◌∷◌, ◌++◌, length, Option, Some, None, refl, sym, ap, ◌∙◌, subst}
use Rattle.std.specs.Prelude.{nat_le, is_some}
use Rattle.std.specs.Option.{option_map_or}
use Rattle.chain_ids.specs.declared.chain.ChainId.{ChainId}
use Rattle.locations.specs.declared.relative.Location.{Location}
use Rattle.operands.specs.declared.error.XcmError.{XcmError}
use Rattle.operands.specs.declared.error.XcmError.TheVariants as error
use Rattle.operands.specs.declared.origin.OriginKind.{OriginKind}
use Rattle.operands.specs.declared.weight.Weight.{Weight}
use Rattle.operands.specs.declared.query.QueryInfo.{QueryInfo}
use Rattle.operands.specs.declared.query.Response.{Response}
use Rattle.asset_lists.specs.declared.units.Asset.{Asset}
use Rattle.asset_lists.specs.declared.filters.Filter.{Filter}
use Rattle.asset_bundles.specs.Bundles.{Bundle}
use Rattle.asset_bundles.specs.declared.shipment.Way.{Way}
use Rattle.trust_tables.specs.Trust.{is_location_of}
use Rattle.xcm_program.specs.declared.instruction.Instruction.{Instruction}
use Rattle.xcm_program.specs.declared.instruction.Instruction.TheOpen.{Instruction-F}
use Rattle.channel_parts.specs.declared.cargo.Cargo.{Cargo}
use Rattle.channel_parts.specs.declared.channel.Channel.{Channel}
use Rattle.channel_parts.specs.Channels.{Outgoing}
use Rattle.call_dispatch.specs.Spelling.{AnyCall}
use Rattle.exec_base.specs.declared.registers.Registers.{Registers}
use Rattle.exec_base.specs.declared.settings.Settings.{Settings}
use Rattle.exec_base.specs.Part.{ChainPart}
use Rattle.exec_base.specs.Sending.{or_else}
use Rattle.exec_base.specs.Host.{withdraw_refusal, receive_refusal, deposit_refusal, transfer_refusal, claim_refusal, buy_refusal, unlock_refusal, note_refusal, unspent, refund_goods, fee_to, fee_held, fee_taken, fee_kept, fee_drawn, parked}
use Rattle.exec_base.specs.Pools.{exchange_refusal, exchange_goods}
use Rattle.exec_base.specs.Calls.{dispatch_end}
use Rattle.exec_rules.specs.Machine.{Machine}
use Rattle.exec_rules.specs.Fees.{after_fee}
use Rattle.exec_rules.specs.Calls.{call_in, caller_in}
use Rattle.exec_rules.specs.Reports.{reported_list}
use Rattle.exec_rules.specs.Instructions.{refused, done}
use Rattle.exec_rules.specs.HostCalls.{MachineWithGoods, between, here, MachineCall, why_not, after, after_all, refusal_along, for_origin, around, charge, size_tests, locking, report_calls, holding_report, dispatching, calls, call_noted, call_noted_for, turned, turned_at}
use Rattle.exec_rules.proofs.Lemmas.HostCalls.{effect}
use Rattle.exec_rules.proofs.Lemmas.Footprints.{part_is}
use Rattle.exec_rules.proofs.Lemmas.CallLaws.{refused_is, done_is}
use Rattle.exec_rules.specs.Reasons.{IsFrom, destination, IsReport, shipping, Moment, HasReason, HaveReasons}
use Rattle.exec_rules.proofs.Lemmas.ReasonLaws.{from_itself, from_after, asked}
use Rattle.law_independence.specs.Freedom.{sends_on}
use Rattle.law_independence.proofs.Channels.{IsThere, IsNoTransport, read_popped, found_sent}
use Rattle.law_independence.proofs.Keeping.{View, with_sent, call_kept}
use Rattle.law_independence.proofs.Calls.{framed, locked_framed, unlocked_framed, noted_framed, requested_framed, joined_framed, burnt_framed, bought_framed, exchanged_framed, refunded_framed, claimed_framed, answered_framed, withdrawn_framed, received_framed, deposited_framed, transferred_framed, transferred_out_framed, deposited_out_framed, shipped_framed, responded_framed, told_framed, trapped_framed, settled_framed, fee_to_framed, querier_framed}
use Rattle.law_independence.proofs.Refusals.{or_else_same, framed_machine, fee_framed, here_to, transfer_out_refused, deposit_out_refused, ship_refused, respond_refused, lock_refused, request_refused}

-- what a delivery finds on a channel, it finds after a send
finds_kept : (to : ChainId) (v : View) (dest : Location) (program : List Instruction) (cargo : Cargo) → IsThere to v.channels → IsThere to (with_sent dest program cargo v).channels
finds_kept to v dest program cargo there = λ e. there (sym (found_sent _ to program cargo v.channels there) ∙ e)

module _ (to : ChainId) (lost : Bundle) where
  abbrev frame : MachineWithGoods → MachineWithGoods
  frame t = record t { part = framed to lost t.part }

  -- ---- what is asked
  tests_framed : (m : Machine) (info : QueryInfo) (b : Bool) → size_tests (framed_machine to lost m) info b ≡ size_tests m info b
  tests_framed m info true = refl
  tests_framed m info false = λ i.
      MachineCall.Check (is_some (querier_framed to lost m.part info.destination m.regs.origin i)) error.ReanchorFailed
      ∷ MachineCall.Check (read_popped (λ (c : Channel). is_location_of m.part.site.chain c.to info.destination) to (λ (o : Option Outgoing). is_some o) (λ c. refl) m.part.channels i) error.Unroutable
      ∷ MachineCall.Check false error.ExceedsMaxMessageSize ∷ []

  report_framed : (m : Machine) (info : QueryInfo) (o : Option (List Asset)) → holding_report (framed_machine to lost m) info o ≡ holding_report m info o
  report_framed m info None = refl
  report_framed m info (Some list) = ap (λ (cs : List MachineCall). cs ++ report_calls m info (Response.Assets list)) (tests_framed m info (nat_le (length list) 20))

  around_framed : (o : Option Asset) (m : Machine) (inside : Machine → List MachineCall) → ((n : Machine) → inside (framed_machine to lost n) ≡ inside n) → around o (framed_machine to lost m) inside ≡ around o m inside
  around_framed None m inside same = same m
  around_framed (Some fee) m inside same =
      ap (λ (n : Machine). charge m fee ++ (inside n ++ MachineCall.KeepFee ∷ [])) (fee_framed to lost m fee) ∙ ap (λ (cs : List MachineCall). charge m fee ++ (cs ++ MachineCall.KeepFee ∷ [])) (same (after_fee m fee))

  sending_framed : (dest : Location) (m : Machine) (inside : Machine → List MachineCall) → ((n : Machine) → inside (framed_machine to lost n) ≡ inside n)
      → around (fee_to (framed to lost m.part) dest) (framed_machine to lost m) inside ≡ around (fee_to m.part dest) m inside
  sending_framed dest m inside same = ap (λ o. around o (framed_machine to lost m) inside) (fee_to_framed to lost m.part dest) ∙ around_framed (fee_to m.part dest) m inside same

  dispatching_framed : (m : Machine) (most : Weight) (c : Option AnyCall) (o : Option (List ℕ)) → dispatching (framed_machine to lost m) most c o ≡ dispatching m most c o
  unfolding dispatch_end
  dispatching_framed m most None o = refl
  dispatching_framed m most (Some c) None = refl
  dispatching_framed m most (Some c) (Some account) = refl

  calls_framed : (l : Instruction-F Instruction) (m : Machine) → calls l (framed_machine to lost m) ≡ calls l m
  calls_framed (Instruction-F.TransferReserveAsset list dest program) m = by_origin m.regs.origin
    where
      by_origin : (o : Option Location) → for_origin o (λ who. around (fee_to (framed to lost m.part) dest) (framed_machine to lost m) (λ n. MachineCall.TransferOut list who dest program ∷ []))
          ≡ for_origin o (λ who. around (fee_to m.part dest) m (λ n. MachineCall.TransferOut list who dest program ∷ []))
      by_origin None = refl
      by_origin (Some who) = sending_framed dest m (λ n. MachineCall.TransferOut list who dest program ∷ []) (λ n. refl)
  calls_framed (Instruction-F.DepositReserveAsset filter dest program) m = sending_framed dest m _ (λ n. refl)
  calls_framed (Instruction-F.InitiateReserveWithdraw filter dest program) m = sending_framed dest m _ (λ n. refl)
  calls_framed (Instruction-F.InitiateTeleport filter dest program) m = sending_framed dest m _ (λ n. refl)
  calls_framed (Instruction-F.ReportError info) m = sending_framed info.destination m _ (λ n. refl)
  calls_framed (Instruction-F.ReportHolding info filter) m = sending_framed info.destination m _ (λ n. report_framed n info (reported_list n info filter))
  calls_framed (Instruction-F.QueryPallet name info) m = sending_framed info.destination m _ (λ n. refl)
  calls_framed (Instruction-F.ReportTransactStatus info) m = sending_framed info.destination m _ (λ n. refl)
  calls_framed (Instruction-F.Transact kind most bytes) m = by_origin m.regs.origin
    where
      by_origin : (o : Option Location) → for_origin o (λ who. dispatching (framed_machine to lost m) most (call_in m.part.calls bytes) (caller_in m kind who))
          ≡ for_origin o (λ who. dispatching m most (call_in m.part.calls bytes) (caller_in m kind who))
      by_origin None = refl
      by_origin (Some who) = dispatching_framed m most (call_in m.part.calls bytes) (caller_in m kind who)
  calls_framed (Instruction-F.LockAsset asset unlocker) m = by_origin m.regs.origin
    where
      by_origin : (o : Option Location) → for_origin o (λ who. locking m ∷ around (fee_to (framed to lost m.part) unlocker) (framed_machine to lost m) (λ n. MachineCall.Lock asset who unlocker ∷ []))
          ≡ for_origin o (λ who. locking m ∷ around (fee_to m.part unlocker) m (λ n. MachineCall.Lock asset who unlocker ∷ []))
      by_origin None = refl
      by_origin (Some who) = ap (λ (cs : List MachineCall). locking m ∷ cs) (sending_framed unlocker m (λ n. MachineCall.Lock asset who unlocker ∷ []) (λ n. refl))
  calls_framed (Instruction-F.RequestUnlock asset locker) m = by_origin m.regs.origin
    where
      by_origin : (o : Option Location) → for_origin o (λ who. locking m ∷ around (fee_to (framed to lost m.part) locker) (framed_machine to lost m) (λ n. MachineCall.Request asset who locker ∷ []))
          ≡ for_origin o (λ who. locking m ∷ around (fee_to m.part locker) m (λ n. MachineCall.Request asset who locker ∷ []))
      by_origin None = refl
      by_origin (Some who) = ap (λ (cs : List MachineCall). locking m ∷ cs) (sending_framed locker m (λ n. MachineCall.Request asset who locker ∷ []) (λ n. refl))
  calls_framed _ m = refl

  -- ---- what a call leaves
  effect_framed : (c : MachineCall) (t : MachineWithGoods) → IsThere to t.part.channels → effect c (frame t) ≡ framed to lost (effect c t)
  unfolding fee_held fee_taken fee_kept fee_drawn parked
  effect_framed MachineCall.Join t there = joined_framed to lost t.part t.regs.holding t.goods
  effect_framed (MachineCall.Withdraw list who) t there = withdrawn_framed to lost t.part list who
  effect_framed (MachineCall.Receive list from teleport) t there = received_framed to lost t.part list teleport
  effect_framed (MachineCall.Claim list who) t there = claimed_framed to lost t.part list who
  effect_framed (MachineCall.Refund w) t there = refunded_framed to lost t.part w
  effect_framed (MachineCall.Deposit who) t there = deposited_framed to lost t.part t.goods who
  effect_framed MachineCall.Burn t there = burnt_framed to lost t.part t.goods
  effect_framed (MachineCall.Buy w) t there = bought_framed to lost t.part w t.goods
  effect_framed (MachineCall.Exchange want maximal) t there = exchanged_framed to lost t.part t.goods want maximal
  effect_framed (MachineCall.DepositOut dest program) t there = deposited_out_framed to lost t.part t.goods dest program there
  effect_framed (MachineCall.Ship way dest program) t there = shipped_framed to lost t.part t.goods way dest program there
  effect_framed (MachineCall.Transfer list from who) t there = transferred_framed to lost t.part list from who
  effect_framed (MachineCall.TransferOut list from dest program) t there = transferred_out_framed to lost t.part list from dest program there
  effect_framed (MachineCall.Respond info answer querier) t there = responded_framed to lost t.part info answer querier there
  effect_framed (MachineCall.Answer from query) t there = answered_framed to lost t.part from query
  effect_framed (MachineCall.Lock a owner unlocker) t there = locked_framed to lost t.part a owner unlocker there
  effect_framed (MachineCall.Unlock a target from) t there = unlocked_framed to lost t.part a target from
  effect_framed (MachineCall.Note a owner from) t there = noted_framed to lost t.part a owner from
  effect_framed (MachineCall.Request a owner locker) t there = requested_framed to lost t.part a owner locker there
  effect_framed (MachineCall.Tell e) t there = told_framed to lost t.part e
  effect_framed MachineCall.Settle t there = settled_framed to lost t.part
  effect_framed (MachineCall.Trap who) t there = trapped_framed to lost t.part t.goods who
  effect_framed _ t there = refl

  -- beside the part it leaves the same
  rest_framed : (c : MachineCall) (t : MachineWithGoods) → after c (frame t) ≡ record (after c t) { part = (after c (frame t)).part }
  unfolding unspent refund_goods exchange_goods
  rest_framed (MachineCall.Take filter) t = refl
  rest_framed _ t = refl

  pub after_framed : (c : MachineCall) (t : MachineWithGoods) → IsThere to t.part.channels → after c (frame t) ≡ frame (after c t)
  after_framed c t there =
      rest_framed c t
      ∙ ap (λ (p : ChainPart). record (after c t) { part = p }) (part_is c (frame t) ∙ effect_framed c t there ∙ sym (ap (framed to lost) (part_is c t)))

  -- ---- what is still found there
  stays_there : (c : MachineCall) (t : MachineWithGoods) → IsThere to t.part.channels → IsThere to (after c t).part.channels
  stays_there c t there = call_kept (λ (v : View). IsThere to v.channels) (finds_kept to) c t there

  along_framed : (cs : List MachineCall) (t : MachineWithGoods) → IsThere to t.part.channels → after_all cs (frame t) ≡ frame (after_all cs t)
  along_framed [] t there = refl
  along_framed (c ∷ cs) t there = ap (after_all cs) (after_framed c t there) ∙ along_framed cs (after c t) (stays_there c t there)

  call_noted_framed : (m : Machine) (most : Weight) (c : Option AnyCall) (o : Option (List ℕ)) (r : Registers) → call_noted (framed_machine to lost m) most c o r ≡ call_noted m most c o r
  unfolding dispatch_end
  call_noted_framed m most None o r = refl
  call_noted_framed m most (Some c) None r = refl
  call_noted_framed m most (Some c) (Some account) r = refl

  call_noted_framed_for : (o : Option Location) (m : Machine) (kind : OriginKind) (most : Weight) (bytes : List ℕ) (r : Registers) → call_noted_for o (framed_machine to lost m) kind most bytes r ≡ call_noted_for o m kind most bytes r
  call_noted_framed_for None m kind most bytes r = refl
  call_noted_framed_for (Some who) m kind most bytes r = call_noted_framed m most (call_in m.part.calls bytes) (caller_in m kind who) r

  turned_framed : (l : Instruction-F Instruction) (m : Machine) (r : Registers) → turned l (framed_machine to lost m) r ≡ turned l m r
  turned_framed Instruction-F.RefundSurplus m r = refl
  turned_framed (Instruction-F.Transact kind most bytes) m r = call_noted_framed_for m.regs.origin m kind most bytes r
  turned_framed _ m r = refl

  pub done_framed : (l : Instruction-F Instruction) (m : Machine) → IsThere to m.part.channels → done l (framed_machine to lost m) ≡ framed_machine to lost (done l m)
  done_framed l m there = ap here
      (done_is l (framed_machine to lost m)
      ∙ ap (λ (cs : List MachineCall). turned_at l (framed_machine to lost m) (after_all cs (frame (between m)))) (calls_framed l m)
      ∙ ap (turned_at l (framed_machine to lost m)) (along_framed (calls l m) (between m) there)
      ∙ ap (λ (r : Registers). let t : MachineWithGoods = frame (after_all (calls l m) (between m)) in let u : MachineWithGoods = record t { regs = r } in u) (turned_framed l m (after_all (calls l m) (between m)).regs)
      ∙ sym (ap frame (done_is l m)))

  -- ---- what is refused
  first_no_transport : (on : Bool) (a b : Option XcmError) → IsNoTransport on (or_else a b) → IsNoTransport on a
  first_no_transport on None b no_transport is e = absurd cc
  first_no_transport on (Some x) b no_transport is e = no_transport is e

  module _ (l : Instruction-F Instruction) (m : Machine) where
    abbrev on : Bool
    on = sends_on m.part.site.chain to l

    report_goes : (k : Instruction-F Instruction) (info : QueryInfo) → IsReport k info → destination k ≡ Some info.destination
    report_goes (Instruction-F.ReportError i) info is = ap (λ (q : QueryInfo). Some q.destination) is
    report_goes (Instruction-F.ReportHolding i filter) info is = ap (λ (q : QueryInfo). Some q.destination) is
    report_goes (Instruction-F.QueryPallet name i) info is = ap (λ (q : QueryInfo). Some q.destination) is
    report_goes (Instruction-F.ReportTransactStatus i) info is = ap (λ (q : QueryInfo). Some q.destination) is
    report_goes k info is = absurd is

    ships_to : (way : Way) (filter : Filter) (dest : Location) (program : List Instruction) → destination (shipping way filter dest program) ≡ Some dest
    ships_to Way.Withdrawal filter dest program = refl
    ships_to Way.Teleport filter dest program = refl

    no_transport_at : (t : MachineWithGoods) (dest : Location) (o : Option XcmError) → IsFrom m t → destination l ≡ Some dest → IsNoTransport on o → IsNoTransport (here_to to lost t.part dest) o
    no_transport_at t dest o from goes no_transport = subst (λ (b : Bool). IsNoTransport b o)
        (sym (ap (λ (s : Settings). is_location_of s.site.chain to dest) from.settings ∙ sym (ap (λ (o : Option Location). option_map_or (λ (d : Location). is_location_of m.part.site.chain to d) o false) goes))) no_transport

    why_framed : (c : MachineCall) (t : MachineWithGoods) → HasReason Moment.Inside l m t c → IsFrom m t → IsNoTransport on (why_not c t) → why_not c (frame t) ≡ why_not c t
    unfolding withdraw_refusal receive_refusal deposit_refusal transfer_refusal claim_refusal buy_refusal exchange_refusal unlock_refusal note_refusal
    why_framed (MachineCall.TransferOut list from dest program) t asks at no_transport = transfer_out_refused to lost t.part list from dest program (no_transport_at t dest _ at (ap destination asks.2) no_transport)
    why_framed (MachineCall.DepositOut dest program) t asks at no_transport = deposit_out_refused to lost t.part t.goods dest program (no_transport_at t dest _ at (ap destination asks.2.1) no_transport)
    why_framed (MachineCall.Ship way dest program) t asks at no_transport = ship_refused to lost t.part t.goods way dest program (no_transport_at t dest _ at (ap destination asks.2.1 ∙ ships_to way asks.2.0 dest program) no_transport)
    why_framed (MachineCall.Respond info answer querier) t asks at no_transport = respond_refused to lost t.part info answer querier (no_transport_at t info.destination _ at (report_goes l info asks.2) no_transport)
    why_framed (MachineCall.Lock a owner unlocker) t asks at no_transport = lock_refused to lost t.part a owner unlocker (no_transport_at t unlocker _ at (ap destination asks.2) no_transport)
    why_framed (MachineCall.Request a owner locker) t asks at no_transport = request_refused to lost t.part a owner locker (no_transport_at t locker _ at (ap destination asks.2) no_transport)
    why_framed (MachineCall.Receive list None teleport) t asks at no_transport = refl
    why_framed (MachineCall.Receive list (Some who) teleport) t asks at no_transport = refl
    why_framed _ t asks at no_transport = refl

    refusals_framed : (cs : List MachineCall) (t : MachineWithGoods) → HaveReasons l m cs t → IsFrom m t → IsThere to t.part.channels → IsNoTransport on (refusal_along cs t) → refusal_along cs (frame t) ≡ refusal_along cs t
    refusals_framed [] t asks at there no_transport = refl
    refusals_framed (c ∷ cs) t asks at there no_transport =
        ap (λ (o : Option XcmError). or_else o (refusal_along cs (after c (frame t)))) (why_framed c t asks.0 at (first_no_transport on (why_not c t) (refusal_along cs (after c t)) no_transport))
        ∙ or_else_same on (why_not c t) (refusal_along cs (after c t)) (refusal_along cs (after c (frame t)))
        (λ q. ap (refusal_along cs) (after_framed c t there) ∙ refusals_framed cs (after c t) asks.1 (from_after c m t at) (stays_there c t there) q) no_transport

    pub refused_framed : IsThere to m.part.channels → IsNoTransport on (refused l m) → refused l (framed_machine to lost m) ≡ refused l m
    refused_framed there no_transport =
        refused_is l (framed_machine to lost m)
        ∙ ap (λ (cs : List MachineCall). refusal_along cs (frame (between m))) (calls_framed l m)
        ∙ refusals_framed (calls l m) (between m) (asked l m) (from_itself m) there (subst (IsNoTransport on) (refused_is l m) no_transport)
        ∙ sym (refused_is l m)
