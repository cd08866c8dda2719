-- Lemmas: no rule but that of ReceiveTeleportedAsset asks whether a checking account has enough, and for an account of the chain itself that rule
-- doesn't come to it. A reader may skip this file.
use Rattle.std.proofs.Common.{◌≡◌, ℕ, Bool, true, false, List, [], ◌∷◌, length, Option, Some, None, refl, sym, ap, ◌∙◌, subst}
use Rattle.std.specs.Prelude.{IsTrue, ⊤, ◌&&◌, is_some, nat_le, position, slice_get, if◌then◌else◌}
use Rattle.std.specs.Option.{option_and_then, option_map_or}
use Rattle.locations.specs.declared.relative.Location.{Location}
use Rattle.operands.specs.declared.error.XcmError.{XcmError}
use Rattle.operands.specs.declared.error.XcmError.TheVariants as error
use Rattle.operands.specs.declared.query.QueryInfo.{QueryInfo}
use Rattle.operands.specs.declared.query.Response.{Response}
use Rattle.operands.specs.declared.weight.Weight.{Weight}
use Rattle.asset_lists.specs.declared.units.Asset.{Asset}
use Rattle.asset_lists.specs.Units.{amount_of}
use Rattle.asset_bundles.specs.declared.shipment.Way.{Way}
use Rattle.asset_bundles.specs.Bundles.{Bundle, held_assets}
use Rattle.trust_tables.specs.Trust.{is_row_of, is_reserve, is_partner, row_of}
use Rattle.weight_trader.specs.Purchases.{Line, paying}
use Rattle.xcm_program.specs.declared.instruction.Instruction.{Instruction}
use Rattle.xcm_program.specs.declared.instruction.Instruction.TheOpen.{Instruction-F}
use Rattle.channel_parts.specs.Channels.{Outgoing}
use Rattle.exec_base.specs.Part.{ChainPart}
use Rattle.law_steps.specs.Shapes.{stands_alone}
use Rattle.exec_base.specs.Sending.{named_refusal, unless, or_else, is_sendable, channel_refusal, channel_to_location, send_refusal, listed_refusal}
use Rattle.exec_base.specs.Host.{note_program, lock_refusal, unlock_refusal, note_refusal, request_key, unlock_program, request_refusal, first_fault, with_account, debit_fault, credit_fault, given, withdraw_refusal, deposit_refusal, transfer_refusal, trust_fault, lower_fault, raise_fault, receive_refusal, transfer_out_refusal, deposit_out_refusal, is_teleport, ship_refusal, querier_seen, report_refusal, respond_refusal, no_line_refusal, buy_refusal, claim_refusal}
use Rattle.exec_base.specs.Pools.{exchange_at, exchange_refusal}
use Rattle.exec_rules.specs.Machine.{Machine}
use Rattle.exec_rules.specs.Holdings.{with_origin, holds_asset, has_room, is_ticket}
use Rattle.exec_rules.specs.Instructions.{refused}
use Rattle.exec_rules.specs.HostCalls.{MachineWithGoods, here, MachineCall, why_not}
use Rattle.exec_rules.specs.Reasons.{is_test_error, Moment, HasReason}
use Rattle.exec_rules.proofs.Lemmas.ReasonLaws.{refusal_shows}
use Rattle.law_runs.specs.Accepted.{IsOwnOrigin}
use Rattle.law_runs.proofs.Lemmas.Accepted.{receive_by}

-- ---- refusals for other reasons than a checking account that is below the amount, or none
abbrev pub IsNoShortage : Option XcmError → Type 0
IsNoShortage o = o ≡ Some error.NotWithdrawable → ⊥

some_error : (e f : XcmError) → Some e ≡ Some f → e ≡ f
some_error e f h = cc

closed_other : (e : XcmError) → (e ≡ error.NotWithdrawable → ⊥) → IsNoShortage (Some e)
closed_other e n h = n (some_error e error.NotWithdrawable h)

pub none_other : IsNoShortage None
none_other h = absurd cc

unless_other : (b : Bool) (e : XcmError) (o : Option XcmError) → (e ≡ error.NotWithdrawable → ⊥) → IsNoShortage o → IsNoShortage (unless b e o)
unless_other true e o n other h = other h
unless_other false e o n other h = n (some_error e error.NotWithdrawable h)

else_other : (a b : Option XcmError) → IsNoShortage a → IsNoShortage b → IsNoShortage (or_else a b)
else_other None b x y h = y h
else_other (Some e) b x y h = x h

first_other : (fault : Asset → Option XcmError) → ((a : Asset) → IsNoShortage (fault a)) → (list : List Asset) → IsNoShortage (first_fault fault list)
first_other fault other [] = none_other
first_other fault other (a ∷ list) = else_other (fault a) (first_fault fault list) (other a) (first_other fault other list)

either_other : (b : Bool) (x y : Option XcmError) → IsNoShortage x → IsNoShortage y → IsNoShortage (if b then x else y)
either_other true x y h k = h
either_other false x y h k = k

origin_other : (o : Option Location) (rule : Location → Option XcmError) → ((who : Location) → IsNoShortage (rule who)) → IsNoShortage (with_origin o rule)
origin_other None rule other = λ h. absurd cc
origin_other (Some who) rule other = other who

-- ---- what is sent
channel_other : (o : Option Outgoing) (few : Bool) (program : List Instruction) → IsNoShortage (channel_refusal o few program)
channel_other None few program = λ h. absurd cc
channel_other (Some c) few program = unless_other (few && is_sendable c program) error.ExceedsMaxMessageSize _ (λ e. absurd cc) (unless_other _ error.Transport None (λ e. absurd cc) none_other)

listed_other : (p : ChainPart) (dest : Location) (program : List Asset → List Instruction) (o : Option (List Asset)) → IsNoShortage (listed_refusal p dest program o)
unfolding send_refusal
listed_other p dest program None = λ h. absurd cc
listed_other p dest program (Some list) = channel_other (channel_to_location p dest) (nat_le (length list) 20) (program list)

report_other : (p : ChainPart) (info : QueryInfo) (answer : Response) (o : Option (Option Location)) → IsNoShortage (report_refusal p info answer o)
unfolding send_refusal
report_other p info answer None = λ h. absurd cc
report_other p info answer (Some querier) = channel_other (channel_to_location p info.destination) true _

respond_other : (p : ChainPart) (info : QueryInfo) (answer : Response) (querier : Option Location) → IsNoShortage (respond_refusal p info answer querier)
unfolding respond_refusal
respond_other p info answer querier = report_other p info answer (querier_seen p info.destination querier)

-- ---- locks
named_other : (p : ChainPart) (dest : Location) (o : Option (List Instruction)) → IsNoShortage (named_refusal p dest o)
unfolding send_refusal
named_other p dest None = λ h. absurd cc
named_other p dest (Some program) = channel_other (channel_to_location p dest) true program

lock_other : (p : ChainPart) (a : Asset) (owner unlocker : Location) → IsNoShortage (lock_refusal p a owner unlocker)
unfolding lock_refusal
lock_other p a owner unlocker = unless_other p.locks error.LockError _ (λ e. absurd cc) (unless_other _ error.LockError _ (λ e. absurd cc) (named_other p unlocker (note_program p a owner unlocker)))

unlock_other : (p : ChainPart) (a : Asset) (target from : Location) → IsNoShortage (unlock_refusal p a target from)
unfolding unlock_refusal
unlock_other p a target from = unless_other p.locks error.LockError _ (λ e. absurd cc) (unless_other _ error.LockError None (λ e. absurd cc) none_other)

note_other : (p : ChainPart) (a : Asset) (owner from : Location) → IsNoShortage (note_refusal p a owner from)
unfolding note_refusal
note_other p a owner from = unless_other p.locks error.LockError _ (λ e. absurd cc) (unless_other _ error.LockError None (λ e. absurd cc) none_other)

request_other : (p : ChainPart) (a : Asset) (owner locker : Location) → IsNoShortage (request_refusal p a owner locker)
unfolding request_refusal
request_other p a owner locker =
    unless_other p.locks error.LockError _ (λ e. absurd cc) (unless_other _ error.LockError _ (λ e. absurd cc) (named_other p locker (unlock_program p a (request_key a owner locker) locker)))

-- ---- moves
account_other : (o : Option (List ℕ)) (rule : List ℕ → Option XcmError) → ((who : List ℕ) → IsNoShortage (rule who)) → IsNoShortage (with_account o rule)
account_other None rule other = λ h. absurd cc
account_other (Some who) rule other = other who

give_other : (p : ChainPart) (o : Option (List ℕ)) (a : Asset) → IsNoShortage (debit_fault p o a)
give_other p o a = unless_other (is_some (row_of p.rows a)) error.AssetNotFound _ (λ e. absurd cc) (account_other o _ (λ who. unless_other _ error.FailedToTransactAsset None (λ e. absurd cc) none_other))

take_other : (p : ChainPart) (o : Option (List ℕ)) (a : Asset) → IsNoShortage (credit_fault p o a)
take_other p o a = unless_other (is_some (row_of p.rows a)) error.AssetNotFound _ (λ e. absurd cc) (account_other o _ (λ who. unless_other _ error.FailedToTransactAsset None (λ e. absurd cc) none_other))

withdraw_other : (p : ChainPart) (list : List Asset) (who : Location) → IsNoShortage (withdraw_refusal p list who)
unfolding withdraw_refusal
withdraw_other p list who = first_other (debit_fault p _) (give_other p _) list

deposit_other : (p : ChainPart) (goods : Bundle) (who : Location) → IsNoShortage (deposit_refusal p goods who)
unfolding deposit_refusal
deposit_other p goods who = first_other (credit_fault p _) (take_other p _) (held_assets goods)

transfer_other : (p : ChainPart) (list : List Asset) (from to : Location) → IsNoShortage (transfer_refusal p list from to)
unfolding transfer_refusal
transfer_other p list from to = else_other _ _ (first_other (debit_fault p _) (give_other p _) list) (first_other (credit_fault (given p list from) _) (take_other (given p list from) _) list)

trust_other : (p : ChainPart) (from : Location) (teleport : Bool) (a : Asset) → IsNoShortage (trust_fault p from teleport a)
trust_other p from true a = unless_other (is_partner p.rows p.site a from) error.UntrustedTeleportLocation None (λ e. absurd cc) none_other
trust_other p from false a = unless_other (is_reserve p.rows p.site a from) error.UntrustedReserveLocation None (λ e. absurd cc) none_other

raise_other : (p : ChainPart) (a : Asset) → IsNoShortage (raise_fault p a)
raise_other p a = unless_other _ error.NotDepositable None (λ e. absurd cc) none_other

transfer_out_other : (p : ChainPart) (list : List Asset) (from dest : Location) (xcm : List Instruction) → IsNoShortage (transfer_out_refusal p list from dest xcm)
unfolding transfer_out_refusal
transfer_out_other p list from dest xcm = else_other _ _ (transfer_other p list from dest) (listed_other p dest _ _)

deposit_out_other : (p : ChainPart) (goods : Bundle) (dest : Location) (xcm : List Instruction) → IsNoShortage (deposit_out_refusal p goods dest xcm)
unfolding deposit_out_refusal
deposit_out_other p goods dest xcm = else_other _ _ (deposit_other p goods dest) (listed_other p dest _ _)

ship_other : (p : ChainPart) (goods : Bundle) (way : Way) (dest : Location) (xcm : List Instruction) → IsNoShortage (ship_refusal p goods way dest xcm)
unfolding ship_refusal
ship_other p goods way dest xcm =
    else_other _ _ (first_other (trust_fault p dest (is_teleport way)) (trust_other p dest (is_teleport way)) (held_assets goods))
    (else_other _ _ (either_other (is_teleport way) _ None (first_other (raise_fault p) (raise_other p) (held_assets goods)) none_other) (listed_other p dest _ _))

claim_other : (p : ChainPart) (list : List Asset) (who : Location) → IsNoShortage (claim_refusal p list who)
unfolding claim_refusal
claim_other p list who = unless_other _ error.UnknownClaim None (λ e. absurd cc) none_other

-- ---- what comes from other chains
deposit_comes_other : (p : ChainPart) (list : List Asset) (who : Location) → IsNoShortage (receive_refusal p list who false)
unfolding receive_refusal
deposit_comes_other p list who = else_other _ _ (first_other (trust_fault p who false) (trust_other p who false) list) none_other

-- such a part has the same trust, and no checking account
abbrev unchecked : ChainPart → ChainPart
unchecked p = record p { checking = [] }

no_account : (n : ℕ) (o : Option ℕ) → unless (option_map_or (λ (m : ℕ). nat_le n m) (option_and_then (λ (place : ℕ). option_and_then (λ (c : Option ℕ). c) (slice_get [] place)) o) true) error.NotWithdrawable None ≡ None
no_account n None = refl
no_account n (Some place) = refl

both_none : (a b : Option XcmError) → a ≡ None → b ≡ None → or_else (or_else a None) (or_else b None) ≡ None
both_none a b h k = ap (λ (x : Option XcmError). or_else (or_else x None) (or_else b None)) h ∙ ap (λ (x : Option XcmError). or_else x None) k

accepted_unchecked : (p : ChainPart) (a : Asset) (from : Location) → is_partner p.rows p.site a from ≡ true → receive_refusal (unchecked p) (a ∷ []) from true ≡ None
unfolding receive_refusal
accepted_unchecked p a from trusts =
    both_none (trust_fault p from true a) (lower_fault (unchecked p) a) (ap (λ (b : Bool). unless b error.UntrustedTeleportLocation None) trusts) (no_account (amount_of a) (position (is_row_of a) p.rows))

untrusted_by : (p : ChainPart) (a : Asset) (from : Location) → IsOwnOrigin (Some from) → (b : Bool) → is_partner p.rows p.site a from ≡ b → b ≡ false
untrusted_by p a from own_origin false e = refl
untrusted_by p a from own_origin true e =
    let none_of : a ∷ [] ≡ [] = receive_by (unchecked p) (Some from) (a ∷ []) true error.HoldingWouldOverflow true own_origin (accepted_unchecked p a from e) in
    absurd cc

first_decides : (a b c : Option XcmError) → a ≡ Some error.UntrustedTeleportLocation → IsNoShortage (or_else (or_else a b) c)
first_decides None b c is h = absurd cc
first_decides (Some e) b c is h = let same : e ≡ error.UntrustedTeleportLocation = cc in let other : e ≡ error.NotWithdrawable = cc in absurd cc

teleport_comes_other : (p : ChainPart) (list : List Asset) (from : Location) → IsOwnOrigin (Some from) → IsNoShortage (receive_refusal p list from true)
unfolding receive_refusal
teleport_comes_other p [] from own_origin = none_other
teleport_comes_other p (a ∷ list) from own_origin =
    first_decides (trust_fault p from true a) (first_fault (trust_fault p from true) list) (first_fault (lower_fault p) (a ∷ list))
    (ap (λ (b : Bool). unless b error.UntrustedTeleportLocation None) (untrusted_by p a from own_origin (is_partner p.rows p.site a from) refl))

-- ---- weight
line_other : (o : Option Line) → IsNoShortage (no_line_refusal o)
line_other None = λ h. absurd cc
line_other (Some line) = none_other

buy_other : (p : ChainPart) (w : Weight) (payment : Bundle) → IsNoShortage (buy_refusal p w payment)
unfolding buy_refusal
buy_other p w payment = line_other (paying w payment p.lines)

-- ---- the rest
test_other : (b : Bool) (e : XcmError) → (e ≡ error.NotWithdrawable → ⊥) → IsNoShortage (unless b e None)
test_other b e n = unless_other b e None n none_other

exchange_other : (p : ChainPart) (give : Bundle) (want : List Asset) (maximal : Bool) → IsNoShortage (exchange_refusal p give want maximal)
unfolding exchange_refusal
exchange_other p give want maximal = test_other (is_some (exchange_at p give want maximal)) error.NoDeal (λ e. absurd cc)

-- ---- what a message may begin with, for any origin
pub withdrawal_other : (m : Machine) (list : List Asset) → IsNoShortage (refused (Instruction-F.WithdrawAsset list) m)
withdrawal_other m list = origin_other m.regs.origin _ (λ who. unless_other (has_room m (length list)) error.HoldingWouldOverflow _ (λ e. absurd cc) (withdraw_other m.part list who))

pub deposited_other : (m : Machine) (list : List Asset) → IsNoShortage (refused (Instruction-F.ReserveAssetDeposited list) m)
deposited_other m list = origin_other m.regs.origin _ (λ who. unless_other (has_room m (length list)) error.HoldingWouldOverflow _ (λ e. absurd cc) (deposit_comes_other m.part list who))

pub claiming_other : (m : Machine) (list : List Asset) (ticket : Location) → IsNoShortage (refused (Instruction-F.ClaimAsset list ticket) m)
claiming_other m list ticket =
    origin_other m.regs.origin _ (λ who. unless_other (has_room m (length list)) error.HoldingWouldOverflow _ (λ e. absurd cc) (unless_other (is_ticket ticket) error.UnknownClaim _ (λ e. absurd cc) (claim_other m.part list who)))

answer_other : (m : Machine) (query : ℕ) (answer : Response) (weight : Weight) (querier : Option Location) → IsNoShortage (refused (Instruction-F.QueryResponse query answer weight querier) m)
answer_other m query answer weight querier = origin_other m.regs.origin _ (λ who. none_other)

unlocking_other : (m : Machine) (asset : Asset) (target : Location) → IsNoShortage (refused (Instruction-F.UnlockAsset asset target) m)
unlocking_other m asset target = origin_other m.regs.origin _ (λ who. unlock_other m.part asset target who)

noting_other : (m : Machine) (asset : Asset) (owner : Location) → IsNoShortage (refused (Instruction-F.NoteUnlockable asset owner) m)
noting_other m asset owner = origin_other m.regs.origin _ (λ who. note_other m.part asset owner who)

-- one instruction alone
pub alone_other : (l : Instruction-F Instruction) (m : Machine) → stands_alone l ≡ true → IsNoShortage (refused l m)
alone_other (Instruction-F.QueryResponse query answer weight querier) m kind = answer_other m query answer weight querier
alone_other (Instruction-F.NoteUnlockable asset owner) m kind = noting_other m asset owner
alone_other (Instruction-F.UnlockAsset asset target) m kind = unlocking_other m asset target
alone_other _ m kind = absurd cc

-- a teleport whose list the host takes
pub taken_other : (m : Machine) (list : List Asset) → ((who : Location) → m.regs.origin ≡ Some who → receive_refusal m.part list who true ≡ None) → IsNoShortage (refused (Instruction-F.ReceiveTeleportedAsset list) m)
taken_other m list taken = by_taken m.regs.origin taken
  where
    by_taken : (o : Option Location) → ((who : Location) → o ≡ Some who → receive_refusal m.part list who true ≡ None) → IsNoShortage (with_origin o (λ who. unless (has_room m (length list)) error.HoldingWouldOverflow (receive_refusal m.part list who true)))
    by_taken None h = closed_other error.BadOrigin (λ e. absurd cc)
    by_taken (Some who) h = unless_other (has_room m (length list)) error.HoldingWouldOverflow _ (λ e. absurd cc) (subst IsNoShortage (sym (h who refl)) none_other)

-- ---- each instruction, for an account of the chain itself or for nobody: no test of its own answers so, and no other call
own_other : (e : XcmError) → IsTrue (is_test_error e) → e ≡ error.NotWithdrawable → ⊥
own_other e own is = let no_way : IsTrue (is_test_error error.NotWithdrawable) = subst (λ (e : XcmError). IsTrue (is_test_error e)) is own in absurd (cc no_way)

comes_other : (p : ChainPart) (o : Option Location) (list : List Asset) (teleport : Bool) → IsOwnOrigin o → IsNoShortage (with_origin o (λ who. receive_refusal p list who teleport))
comes_other p None list teleport own_origin = λ h. absurd cc
comes_other p (Some who) list true own_origin = teleport_comes_other p list who own_origin
comes_other p (Some who) list false own_origin = deposit_comes_other p list who

call_other : (l : Instruction-F Instruction) (m : Machine) → IsOwnOrigin m.regs.origin → (c : MachineCall) (t : MachineWithGoods) → HasReason Moment.Inside l m t c → IsNoShortage (why_not c t)
call_other l m own_origin (MachineCall.Check ok e) t asks = test_other ok e (own_other e asks)
call_other l m own_origin (MachineCall.Pay a) t asks = test_other (holds_asset (here t) a) error.NotHoldingFees (λ e. absurd cc)
call_other l m own_origin (MachineCall.Withdraw list who) t asks = withdraw_other t.part list who
call_other l m own_origin (MachineCall.Draw fee who) t asks = withdraw_other t.part (fee ∷ []) who
call_other l m own_origin (MachineCall.Receive list from teleport) t asks = comes_other t.part from list teleport (subst IsOwnOrigin (sym asks.1) own_origin)
call_other l m own_origin (MachineCall.Claim list who) t asks = claim_other t.part list who
call_other l m own_origin (MachineCall.Deposit who) t asks = deposit_other t.part t.goods who
call_other l m own_origin (MachineCall.Buy w) t asks = buy_other t.part w t.goods
call_other l m own_origin (MachineCall.Exchange want maximal) t asks = exchange_other t.part t.goods want maximal
call_other l m own_origin (MachineCall.DepositOut dest xcm) t asks = deposit_out_other t.part t.goods dest xcm
call_other l m own_origin (MachineCall.Ship way dest xcm) t asks = ship_other t.part t.goods way dest xcm
call_other l m own_origin (MachineCall.Transfer list from to) t asks = transfer_other t.part list from to
call_other l m own_origin (MachineCall.TransferOut list from dest xcm) t asks = transfer_out_other t.part list from dest xcm
call_other l m own_origin (MachineCall.Respond info answer querier) t asks = respond_other t.part info answer querier
call_other l m own_origin (MachineCall.Lock asset owner unlocker) t asks = lock_other t.part asset owner unlocker
call_other l m own_origin (MachineCall.Unlock asset target from) t asks = unlock_other t.part asset target from
call_other l m own_origin (MachineCall.Note asset owner from) t asks = note_other t.part asset owner from
call_other l m own_origin (MachineCall.Request asset owner locker) t asks = request_other t.part asset owner locker
call_other l m own_origin _ t asks = none_other

pub other_refusal : (l : Instruction-F Instruction) (m : Machine) → IsOwnOrigin m.regs.origin → IsNoShortage (refused l m)
other_refusal l m own_origin = refusal_shows l m (λ (t : MachineWithGoods). ⊤) IsNoShortage none_other (λ c t asks from free k. tt) (λ c t asks from k. call_other l m own_origin c t asks) tt
