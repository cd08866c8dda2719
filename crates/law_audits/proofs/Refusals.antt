-- No instruction is refused because a checking account would pass its maximum, where each has room for all that the chain has.
use Rattle.std.proofs.Common.{◌≡◌, ℕ, Bool, true, false, List, [], ◌∷◌, length, Option, Some, None, refl, sym, subst, arith}
use Rattle.std.specs.Prelude.{IsTrue, ◌&&◌, if◌then◌else◌, is_some, nat_le}
use Rattle.locations.specs.declared.relative.Location.{Location}
use Rattle.operands.specs.declared.error.XcmError.{XcmError}
use Rattle.operands.specs.declared.error.XcmError.TheVariants as error
use Rattle.operands.specs.declared.query.QueryInfo.{QueryInfo}
use Rattle.operands.specs.declared.query.Response.{Response}
use Rattle.asset_lists.specs.declared.filters.Filter.{Filter}
use Rattle.asset_lists.specs.declared.units.Asset.{Asset}
use Rattle.asset_bundles.specs.Bundles.{Bundle, held_assets}
use Rattle.asset_bundles.specs.declared.shipment.Way.{Way}
use Rattle.trust_tables.specs.Trust.{row_of, is_partner, is_reserve}
use Rattle.weight_trader.specs.Purchases.{Line, paying}
use Rattle.xcm_program.specs.declared.instruction.Instruction.{Instruction, out-Instruction}
use Rattle.xcm_program.specs.declared.instruction.Instruction.TheOpen.{Instruction-F}
use Rattle.channel_parts.specs.Channels.{Outgoing}
use Rattle.exec_base.specs.Part.{ChainPart}
use Rattle.exec_base.specs.Pools.{exchange_at, exchange_refusal}
use Rattle.exec_base.specs.Sending.{unless, or_else, is_sendable, channel_refusal, channel_to_location, send_refusal, listed_refusal, named_refusal}
use Rattle.exec_base.specs.Host.{first_fault, with_account, debit_fault, credit_fault, given, withdraw_refusal, deposit_refusal, transfer_refusal, trust_fault, lower_fault, raise_fault, receive_refusal, seen_from, transfer_out_refusal, deposit_out_refusal, is_teleport, ship_refusal, querier_seen, report_refusal, respond_refusal, no_line_refusal, buy_refusal, claim_refusal, note_program, lock_refusal, unlock_refusal, note_refusal, request_key, unlock_program, request_refusal}
use Rattle.exec_rules.specs.Holdings.{with_origin, holds_asset}
use Rattle.exec_rules.specs.Instructions.{refused}
use Rattle.exec_rules.specs.Machine.{Machine}
use Rattle.exec_rules.specs.HostCalls.{MachineWithGoods, between, here, MachineCall, why_not}
use Rattle.exec_rules.specs.Reasons.{is_test_error, Moment, HasReason}
use Rattle.exec_rules.proofs.Lemmas.ReasonLaws.{refusal_shows}
use Rattle.law_runs.specs.Safety.{HasList}
use Rattle.law_audits.specs.Ends.{IsNeverTooFull}
use Rattle.law_audits.proofs.CheckingRows.{held_less, LeavesRoom, all_rise}
use Rattle.law_audits.proofs.Calls.{LawsOfMoves, IsBounded, in_hands, call_bounded}

-- ---- refusals for other reasons
abbrev IsOther : Option XcmError → Type 0
IsOther o = o ≡ Some error.NotDepositable → ⊥

some_error : (e f : XcmError) → Some e ≡ Some f → e ≡ f
some_error e f h = cc

none_other : IsOther None
none_other h = absurd (cc h)

unless_other : (b : Bool) (e : XcmError) (o : Option XcmError) → (e ≡ error.NotDepositable → ⊥) → IsOther o → IsOther (unless b e o)
unless_other true e o n other h = other h
unless_other false e o n other h = n (some_error e error.NotDepositable h)

test_other : (b : Bool) (e : XcmError) → (e ≡ error.NotDepositable → ⊥) → IsOther (unless b e None)
test_other b e n = unless_other b e None n none_other

else_other : (a b : Option XcmError) → IsOther a → IsOther b → IsOther (or_else a b)
else_other None b x y h = y h
else_other (Some e) b x y h = x h

either_other : (b : Bool) (x y : Option XcmError) → IsOther x → IsOther y → IsOther (if b then x else y)
either_other true x y h k = h
either_other false x y h k = k

first_other : (fault : Asset → Option XcmError) → ((a : Asset) → IsOther (fault a)) → (list : List Asset) → IsOther (first_fault fault list)
first_other fault other [] = none_other
first_other fault other (a ∷ list) = else_other (fault a) (first_fault fault list) (other a) (first_other fault other list)

origin_other : (o : Option Location) (rule : Location → Option XcmError) → ((who : Location) → IsOther (rule who)) → IsOther (with_origin o rule)
origin_other None rule other = λ h. absurd (cc h)
origin_other (Some who) rule other = other who

account_other : (o : Option (List ℕ)) (rule : List ℕ → Option XcmError) → ((who : List ℕ) → IsOther (rule who)) → IsOther (with_account o rule)
account_other None rule other = λ h. absurd (cc h)
account_other (Some who) rule other = other who

-- ---- what is sent
channel_other : (o : Option Outgoing) (few : Bool) (program : List Instruction) → IsOther (channel_refusal o few program)
channel_other None few program = λ h. absurd (cc h)
channel_other (Some c) few program = unless_other (few && is_sendable c program) error.ExceedsMaxMessageSize _ (λ e. absurd (cc e)) (test_other _ error.Transport (λ e. absurd (cc e)))

listed_other : (p : ChainPart) (dest : Location) (program : List Asset → List Instruction) (o : Option (List Asset)) → IsOther (listed_refusal p dest program o)
unfolding send_refusal
listed_other p dest program None = λ h. absurd (cc h)
listed_other p dest program (Some list) = channel_other (channel_to_location p dest) (nat_le (length list) 20) (program list)

named_other : (p : ChainPart) (dest : Location) (o : Option (List Instruction)) → IsOther (named_refusal p dest o)
unfolding send_refusal
named_other p dest None = λ h. absurd (cc h)
named_other p dest (Some program) = channel_other (channel_to_location p dest) true program

report_other : (p : ChainPart) (info : QueryInfo) (answer : Response) (o : Option (Option Location)) → IsOther (report_refusal p info answer o)
unfolding send_refusal
report_other p info answer None = λ h. absurd (cc h)
report_other p info answer (Some querier) = channel_other (channel_to_location p info.destination) true _

-- ---- moves
give_other : (p : ChainPart) (o : Option (List ℕ)) (a : Asset) → IsOther (debit_fault p o a)
give_other p o a = unless_other (is_some (row_of p.rows a)) error.AssetNotFound _ (λ e. absurd (cc e)) (account_other o _ (λ who. test_other _ error.FailedToTransactAsset (λ e. absurd (cc e))))

take_other : (p : ChainPart) (o : Option (List ℕ)) (a : Asset) → IsOther (credit_fault p o a)
take_other p o a = unless_other (is_some (row_of p.rows a)) error.AssetNotFound _ (λ e. absurd (cc e)) (account_other o _ (λ who. test_other _ error.FailedToTransactAsset (λ e. absurd (cc e))))

trust_other : (p : ChainPart) (from : Location) (teleport : Bool) (a : Asset) → IsOther (trust_fault p from teleport a)
trust_other p from true a = test_other (is_partner p.rows p.site a from) error.UntrustedTeleportLocation (λ e. absurd (cc e))
trust_other p from false a = test_other (is_reserve p.rows p.site a from) error.UntrustedReserveLocation (λ e. absurd (cc e))

lower_other : (p : ChainPart) (a : Asset) → IsOther (lower_fault p a)
lower_other p a = test_other _ error.NotWithdrawable (λ e. absurd (cc e))

line_other : (o : Option Line) → IsOther (no_line_refusal o)
line_other None = λ h. absurd (cc h)
line_other (Some line) = none_other

transfer_other : (p : ChainPart) (list : List Asset) (from to : Location) → IsOther (transfer_refusal p list from to)
unfolding transfer_refusal
transfer_other p list from to = else_other _ _ (first_other (debit_fault p _) (give_other p _) list) (first_other (credit_fault (given p list from) _) (take_other (given p list from) _) list)

deposit_other : (p : ChainPart) (goods : Bundle) (who : Location) → IsOther (deposit_refusal p goods who)
unfolding deposit_refusal
deposit_other p goods who = first_other (credit_fault p _) (take_other p _) (held_assets goods)

-- what is shipped, where the accounts may rise by it
ship_other : (p : ChainPart) (goods : Bundle) (way : Way) (dest : Location) (xcm : List Instruction) → (is_teleport way ≡ true → first_fault (raise_fault p) (held_assets goods) ≡ None) → IsOther (ship_refusal p goods way dest xcm)
unfolding ship_refusal
ship_other p goods Way.Withdrawal dest xcm rises =
    else_other _ _ (first_other (trust_fault p dest false) (trust_other p dest false) (held_assets goods)) (else_other None _ none_other (listed_other p dest _ (seen_from p dest (held_assets goods))))
ship_other p goods Way.Teleport dest xcm rises =
    else_other _ _ (first_other (trust_fault p dest true) (trust_other p dest true) (held_assets goods))
    (else_other _ _ (subst IsOther (sym (rises refl)) none_other) (listed_other p dest _ (seen_from p dest (held_assets goods))))

own_other : (e : XcmError) → IsTrue (is_test_error e) → e ≡ error.NotDepositable → ⊥
own_other e own is = let no_way : IsTrue (is_test_error error.NotDepositable) = subst (λ (e : XcmError). IsTrue (is_test_error e)) is own in absurd (cc no_way)

-- ---- each call
call_other : (l : Instruction-F Instruction) (m : Machine) (c : MachineCall) (t : MachineWithGoods) → HasReason Moment.Inside l m t c
    → ((dest : Location) (xcm : List Instruction) → c ≡ MachineCall.Ship Way.Teleport dest xcm → first_fault (raise_fault t.part) (held_assets t.goods) ≡ None) → IsOther (why_not c t)
unfolding withdraw_refusal receive_refusal transfer_out_refusal deposit_out_refusal respond_refusal buy_refusal claim_refusal exchange_refusal lock_refusal unlock_refusal note_refusal request_refusal
call_other l m (MachineCall.Check ok e) t asks rises = test_other ok e (own_other e asks)
call_other l m (MachineCall.Pay a) t asks rises = test_other (holds_asset (here t) a) error.NotHoldingFees (λ e. absurd (cc e))
call_other l m (MachineCall.Withdraw list who) t asks rises = first_other (debit_fault t.part _) (give_other t.part _) list
call_other l m (MachineCall.Draw fee who) t asks rises = first_other (debit_fault t.part _) (give_other t.part _) (fee ∷ [])
call_other l m (MachineCall.Receive list from teleport) t asks rises =
    origin_other from _ (λ who. else_other _ _ (first_other (trust_fault t.part who teleport) (trust_other t.part who teleport) list) (either_other teleport _ None (first_other (lower_fault t.part) (lower_other t.part) list) none_other))
call_other l m (MachineCall.Claim list who) t asks rises = test_other _ error.UnknownClaim (λ e. absurd (cc e))
call_other l m (MachineCall.Deposit who) t asks rises = deposit_other t.part t.goods who
call_other l m (MachineCall.Buy w) t asks rises = line_other (paying w t.goods t.part.lines)
call_other l m (MachineCall.Exchange want maximal) t asks rises = test_other (is_some (exchange_at t.part t.goods want maximal)) error.NoDeal (λ e. absurd (cc e))
call_other l m (MachineCall.DepositOut dest xcm) t asks rises = else_other _ _ (deposit_other t.part t.goods dest) (listed_other t.part dest _ _)
call_other l m (MachineCall.Ship Way.Teleport dest xcm) t asks rises = ship_other t.part t.goods Way.Teleport dest xcm (λ e. rises dest xcm refl)
call_other l m (MachineCall.Ship Way.Withdrawal dest xcm) t asks rises = ship_other t.part t.goods Way.Withdrawal dest xcm (λ e. absurd (cc e))
call_other l m (MachineCall.Transfer list from to) t asks rises = transfer_other t.part list from to
call_other l m (MachineCall.TransferOut list from dest xcm) t asks rises = else_other _ _ (transfer_other t.part list from dest) (listed_other t.part dest _ _)
call_other l m (MachineCall.Respond info answer querier) t asks rises = report_other t.part info answer (querier_seen t.part info.destination querier)
call_other l m (MachineCall.Lock asset owner unlocker) t asks rises =
    unless_other t.part.locks error.LockError _ (λ e. absurd (cc e)) (unless_other _ error.LockError _ (λ e. absurd (cc e)) (named_other t.part unlocker (note_program t.part asset owner unlocker)))
call_other l m (MachineCall.Unlock asset target from) t asks rises = unless_other t.part.locks error.LockError _ (λ e. absurd (cc e)) (test_other _ error.LockError (λ e. absurd (cc e)))
call_other l m (MachineCall.Note asset owner from) t asks rises = unless_other t.part.locks error.LockError _ (λ e. absurd (cc e)) (test_other _ error.LockError (λ e. absurd (cc e)))
call_other l m (MachineCall.Request asset owner locker) t asks rises =
    unless_other t.part.locks error.LockError _ (λ e. absurd (cc e)) (unless_other _ error.LockError _ (λ e. absurd (cc e)) (named_other t.part locker (unlock_program t.part asset (request_key asset owner locker) locker)))
call_other l m _ t asks rises = none_other

-- ---- each instruction
goods_have_room : (t : MachineWithGoods) → IsBounded (in_hands t) t.part → LeavesRoom t.part (held_assets t.goods)
goods_have_room t x place row n at there =
    let lt = x.below place row n at there in
    let few = held_less row t.goods in
    omega (arith, lt, few)

-- of a teleport alone, whose own lists are none
abbrev Teleports : Instruction-F Instruction → Type 0
Teleports l = (filter : Filter) × (dest : Location) × (xcm : List Instruction) × (l ≡ Instruction-F.InitiateTeleport filter dest xcm)

module _ (laws : LawsOfMoves) (l : Instruction-F Instruction) (m : Machine) (x : IsBounded (in_hands (between m)) m.part) where
  abbrev BoundedWhereTeleported : MachineWithGoods → Type 0
  BoundedWhereTeleported t = Teleports l → IsBounded (in_hands t) t.part

  refused_other : IsOther (refused l m)
  refused_other =
      refusal_shows l m BoundedWhereTeleported IsOther none_other
      (λ c t asks from free k teleports. call_bounded laws Moment.Inside l m (subst (HasList Instruction) (sym teleports.3) tt) x.fees c t asks free (k teleports))
      (λ c t asks from k. call_other l m c t asks (λ dest xcm is.
      let reason = subst (HasReason Moment.Inside l m t) is asks in
      all_rise t.part (held_assets t.goods) (goods_have_room t (k (reason.2.0, dest, xcm, reason.2.1))))) (λ teleports. x)

pub never_too_full : LawsOfMoves → (m : Machine) → IsBounded (in_hands (between m)) m.part → IsNeverTooFull m
never_too_full laws m x y = refused_other laws (out-Instruction y) m x
