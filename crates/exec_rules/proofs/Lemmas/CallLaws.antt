-- Lemmas that proofs cite, in this crate and above it: an instruction refuses what its calls refuse, and leaves what they leave. A reader of
-- the contracts may skip this file.
use Rattle.std.proofs.Common.{◌≡◌, ℕ, Bool, true, false, List, [], ◌∷◌, ◌++◌, Option, Some, None, refl, sym, ap, ◌∙◌}
use Rattle.std.specs.Prelude.{if◌then◌else◌, nat_le, is_some, length}
use Rattle.locations.specs.declared.grammar.Junction.{Junction}
use Rattle.locations.specs.declared.relative.Location.{Location}
use Rattle.operands.specs.declared.error.XcmError.{XcmError}
use Rattle.operands.specs.declared.error.XcmError.TheVariants as error
use Rattle.operands.specs.declared.pallet.PalletInfo.{PalletInfo}
use Rattle.operands.specs.declared.origin.OriginKind.{OriginKind}
use Rattle.operands.specs.declared.query.QueryInfo.{QueryInfo}
use Rattle.operands.specs.declared.query.Response.{Response}
use Rattle.operands.specs.declared.query.Response.TheVariants as response
use Rattle.operands.specs.declared.weight.Weight.{Weight}
use Rattle.operands.specs.declared.weight.WeightLimit.{WeightLimit}
use Rattle.operands.specs.declared.weight.WeightLimit.TheVariants.{Unlimited, Limited}
use Rattle.asset_lists.specs.declared.units.Asset.{Asset}
use Rattle.asset_lists.specs.declared.filters.Filter.{Filter}
use Rattle.asset_lists.specs.declared.filters.Filter.TheVariants.{Definite}
use Rattle.asset_bundles.specs.Bundles.{Bundle, bundle_of}
use Rattle.asset_bundles.specs.Joins.{Joined}
use Rattle.asset_bundles.specs.declared.shipment.Way.{Way}
use Rattle.xcm_program.specs.declared.instruction.Instruction.{Instruction}
use Rattle.xcm_program.specs.declared.instruction.Instruction.TheOpen.{Instruction-F}
use Rattle.call_dispatch.specs.Spelling.{AnyCall}
use Rattle.exec_base.specs.declared.registers.Registers.{Registers}
use Rattle.exec_base.specs.Part.{ChainPart}
use Rattle.exec_base.specs.Sending.{unless, or_else, channel_to_location}
use Rattle.exec_base.specs.Host.{querier_seen, fee_to, fee_held, receive_refusal, bundles_joined, refund_goods}
use Rattle.exec_base.specs.Calls.{dispatched}
use Rattle.exec_rules.specs.Machine.{Machine, machine}
use Rattle.exec_rules.specs.Holdings.{with_origin, at_origin, with_holding, holding_paid, payment_of, with_room, has_room, holding_more, holding_left, buying_refusal, buying_done, not_refunded, refund_now, refund_refusal, refund_done}
use Rattle.exec_rules.specs.Fees.{fee_refusal, after_fee, keeping_fee, refused_around, done_around}
use Rattle.exec_rules.specs.Reports.{report_refused, report_done, pallets_of, reported_list, too_many_refused, holding_report_refused, holding_report_done}
use Rattle.exec_rules.specs.Origins.{is_original, fits_below, descended}
use Rattle.exec_rules.specs.Programs.{with_registers}
use Rattle.exec_rules.specs.Expectations.{pallet_refusal, pallet_at}
use Rattle.exec_rules.specs.Calls.{call_in, caller_in, call_refusal, call_done}
use Rattle.exec_rules.specs.Instructions.{refused, done}
use Rattle.exec_rules.specs.HostCalls.{room, size_tests, refund_noted, below_origin, dispatching, call_noted, call_noted_for, MachineWithGoods, between, MachineCall, why_not, after, after_all, refusal_along, never, for_origin, charge, around, buying, refunding, report_calls, holding_report, pallet_tests, calls, through}
use Rattle.exec_rules.proofs.Lemmas.HostCalls.{effect}
use Rattle.exec_rules.proofs.Lemmas.Footprints.{part_is}

-- ---- refusals
or_none : (o : Option XcmError) → or_else o None ≡ o
or_none None = refl
or_none (Some e) = refl

test_first : (ok : Bool) (e : XcmError) (next : Option XcmError) → unless ok e next ≡ or_else (unless ok e None) next
test_first true e next = refl
test_first false e next = refl

test_then : (ok : Bool) (e : XcmError) (next rest : Option XcmError) → next ≡ rest → unless ok e next ≡ or_else (unless ok e None) rest
test_then ok e next rest same = test_first ok e next ∙ ap (or_else (unless ok e None)) same

two_tests : (a b : Bool) (e f : XcmError) (last : Option XcmError) → unless a e (unless b f last) ≡ or_else (unless a e None) (or_else (unless b f None) last)
two_tests a b e f last = test_then a e (unless b f last) _ (test_first b f last)

one_is : (o : Option XcmError) → o ≡ or_else o None
one_is o = sym (or_none o)

two_is : (a b : Option XcmError) → or_else a b ≡ or_else a (or_else b None)
two_is a b = ap (or_else a) (one_is b)

pub along_both : (xs ys : List MachineCall) (t : MachineWithGoods) → refusal_along (xs ++ ys) t ≡ or_else (refusal_along xs t) (refusal_along ys (after_all xs t))
along_both [] ys t = refl
along_both (c ∷ xs) ys t = ap (or_else (why_not c t)) (along_both xs ys (after c t)) ∙ or_assoc (why_not c t) (refusal_along xs (after c t)) _
  where
    or_assoc : (a b c : Option XcmError) → or_else a (or_else b c) ≡ or_else (or_else a b) c
    or_assoc None b c = refl
    or_assoc (Some e) b c = refl

pub after_both : (xs ys : List MachineCall) (t : MachineWithGoods) → after_all (xs ++ ys) t ≡ after_all ys (after_all xs t)
after_both [] ys t = refl
after_both (c ∷ xs) ys t = after_both xs ys (after c t)

by_origin : (o : Option Location) (rule : Location → Option XcmError) (calls : Location → List MachineCall) (t : MachineWithGoods) → ((who : Location) → rule who ≡ refusal_along (calls who) t) → with_origin o rule ≡ refusal_along (for_origin o calls) t
by_origin None rule calls t same = refl
by_origin (Some who) rule calls t same = same who

-- ---- the fee
held_is : (r : Registers) (p : ChainPart) (goods : Bundle) → after MachineCall.HoldFee (record { regs = r; part = p; goods = goods }) ≡ between (machine r (effect MachineCall.HoldFee (record { regs = r; part = p; goods = goods })))
held_is r p goods = ap (λ (q : ChainPart). between (machine r q)) (part_is MachineCall.HoldFee (record { regs = r; part = p; goods = goods }))

pub charge_refused : (m : Machine) (fee : Asset) → fee_refusal m fee ≡ refusal_along (charge m fee) (between m)
charge_refused m fee = by_mode m.regs.fees_mode
  where
    by_mode : (b : Bool) → (if b then with_origin m.regs.origin (λ who. why_not (MachineCall.Draw fee who) (between m)) else why_not (MachineCall.Pay fee) (between m))
        ≡ refusal_along (if b then for_origin m.regs.origin (λ who. MachineCall.Draw fee who ∷ MachineCall.HoldFee ∷ []) else MachineCall.Pay fee ∷ MachineCall.HoldFee ∷ []) (between m)
    by_mode true = by_origin m.regs.origin _ _ (between m) (λ who. one_is _)
    by_mode false = one_is _

-- the fee is in the slot
charged : (r : Registers) (p q : ChainPart) (goods : Bundle) → p ≡ q → after MachineCall.HoldFee (record { regs = r; part = p; goods = goods }) ≡ between (machine r (fee_held q goods))
charged r p q goods same = held_is r p goods ∙ ap (λ (x : ChainPart). between (machine r (fee_held x goods))) same

pub charge_after : (m : Machine) (fee : Asset) → after_all (charge m fee) (between m) ≡ between (after_fee m fee)
charge_after m fee = by_mode m.regs.fees_mode
  where
    by_account : (o : Option Location) → after_all (for_origin o (λ who. MachineCall.Draw fee who ∷ MachineCall.HoldFee ∷ [])) (between m)
        ≡ between (at_origin o (λ who. machine m.regs (fee_held (effect (MachineCall.Draw fee who) (between m)) (payment_of fee))) m)
    by_account None = refl
    by_account (Some who) = charged m.regs (after (MachineCall.Draw fee who) (between m)).part (effect (MachineCall.Draw fee who) (between m)) (payment_of fee) (part_is (MachineCall.Draw fee who) (between m))

    by_mode : (b : Bool) → after_all (if b then for_origin m.regs.origin (λ who. MachineCall.Draw fee who ∷ MachineCall.HoldFee ∷ []) else MachineCall.Pay fee ∷ MachineCall.HoldFee ∷ []) (between m)
        ≡ between (if b then at_origin m.regs.origin (λ who. machine m.regs (fee_held (effect (MachineCall.Draw fee who) (between m)) (payment_of fee))) m else machine (holding_paid m fee).regs (fee_held m.part (payment_of fee)))
    by_mode true = by_account m.regs.origin
    by_mode false = charged (holding_paid m fee).regs m.part m.part (payment_of fee) refl

around_refused : (o : Option Asset) (m : Machine) (rule : Machine → Option XcmError) (inside : Machine → List MachineCall) → ((n : Machine) → rule n ≡ refusal_along (inside n) (between n)) → refused_around o m rule ≡ refusal_along (around o m inside) (between m)
around_refused None m rule inside same = same m
around_refused (Some fee) m rule inside same =
    let n = after_fee m fee in
    ap (λ (x : Option XcmError). or_else x (rule n)) (charge_refused m fee)
    ∙ ap (or_else (refusal_along (charge m fee) (between m))) (same n ∙ last_free (inside n) (between n) ∙ ap (refusal_along (inside n ++ MachineCall.KeepFee ∷ [])) (sym (charge_after m fee)))
    ∙ sym (along_both (charge m fee) (inside n ++ MachineCall.KeepFee ∷ []) (between m))
  where
    last_free : (cs : List MachineCall) (t : MachineWithGoods) → refusal_along cs t ≡ refusal_along (cs ++ MachineCall.KeepFee ∷ []) t
    last_free cs t = one_is (refusal_along cs t) ∙ sym (along_both cs (MachineCall.KeepFee ∷ []) t)

-- ---- each instruction
buying_refused : (m : Machine) (fees : Asset) (limit : WeightLimit) → buying_refusal m fees limit ≡ refusal_along (buying fees limit) (between m)
buying_refused m fees Unlimited = refl
buying_refused m fees (Limited w) = test_then _ error.NotHoldingFees _ _ (one_is _)

refunding_refused : (m : Machine) (o : Option (Location × ℕ)) → refund_refusal m o ≡ refusal_along (refunding m o) (between m)
refunding_refused m None = refl
refunding_refused m (Some given) = one_is _

report_answer : (n : Machine) (info : QueryInfo) (answer : Response) → report_refused n info answer ≡ refusal_along (report_calls n info answer) (between n)
report_answer n info answer = one_is _

holding_answer : (n : Machine) (info : QueryInfo) (o : Option (List Asset)) → holding_report_refused n info o ≡ refusal_along (holding_report n info o) (between n)
holding_answer n info None = refl
holding_answer n info (Some list) = by_length (nat_le (length list) 20)
  where
    by_length : (b : Bool) → (if b then report_refused n info (response.Assets list) else too_many_refused n info) ≡ refusal_along (size_tests n info b ++ report_calls n info (response.Assets list)) (between n)
    by_length true = report_answer n info (response.Assets list)
    by_length false = two_tests (is_some (querier_seen n.part info.destination n.regs.origin)) (is_some (channel_to_location n.part info.destination)) error.ReanchorFailed error.Unroutable (Some error.ExceedsMaxMessageSize)

receiving_answer : (m : Machine) (o : Option Location) (list : List Asset) (teleport : Bool) → with_origin o (λ who. with_room m (length list) (receive_refusal m.part list who teleport))
    ≡ refusal_along (MachineCall.Check (is_some o) error.BadOrigin ∷ room m (length list) ∷ MachineCall.Receive list o teleport ∷ MachineCall.Join ∷ []) (between m)
receiving_answer m None list teleport = refl
receiving_answer m (Some who) list teleport = test_then (has_room m (length list)) error.HoldingWouldOverflow _ _ (one_is _)

pallet_answer : (m : Machine) (o : Option PalletInfo) (name module_name : List ℕ) (major least_minor : ℕ) → pallet_refusal o name module_name major least_minor ≡ refusal_along (pallet_tests o name module_name major least_minor) (between m)
pallet_answer m None name module_name major least_minor = refl
pallet_answer m (Some info) name module_name major least_minor = test_then _ error.NameMismatch _ _ (one_is _)

call_answer : (m : Machine) (most : Weight) (c : Option AnyCall) (o : Option (List ℕ)) → call_refusal m.regs.rule most c o ≡ refusal_along (dispatching m most c o) (between m)
call_answer m most None o = refl
call_answer m most (Some c) None = refl
call_answer m most (Some c) (Some account) = one_is _

pub refused_is : (l : Instruction-F Instruction) (m : Machine) → refused l m ≡ refusal_along (calls l m) (between m)
refused_is (Instruction-F.WithdrawAsset list) m = by_origin m.regs.origin _ _ (between m) (λ who. test_then _ error.HoldingWouldOverflow _ _ (one_is _))
refused_is (Instruction-F.ReserveAssetDeposited list) m = receiving_answer m m.regs.origin list false
refused_is (Instruction-F.ReceiveTeleportedAsset list) m = receiving_answer m m.regs.origin list true
refused_is (Instruction-F.ClaimAsset list ticket) m = by_origin m.regs.origin _ _ (between m) (λ who. test_then _ error.HoldingWouldOverflow _ _ (test_then _ error.UnknownClaim _ _ (one_is _)))
refused_is (Instruction-F.DepositAsset filter who) m = one_is _
refused_is (Instruction-F.BuyExecution fees limit) m = buying_refused m fees limit
refused_is Instruction-F.RefundSurplus m = refunding_refused m (refund_now m)
refused_is (Instruction-F.TransferAsset list who) m = by_origin m.regs.origin _ _ (between m) (λ from. one_is _)
refused_is (Instruction-F.TransferReserveAsset list dest xcm) m = by_origin m.regs.origin _ _ (between m) (λ who. around_refused (fee_to m.part dest) m _ _ (λ n. one_is _))
refused_is (Instruction-F.DepositReserveAsset filter dest xcm) m = around_refused (fee_to m.part dest) m _ _ (λ n. one_is _)
refused_is (Instruction-F.InitiateReserveWithdraw filter dest xcm) m = around_refused (fee_to m.part dest) m _ _ (λ n. one_is _)
refused_is (Instruction-F.InitiateTeleport filter dest xcm) m = around_refused (fee_to m.part dest) m _ _ (λ n. one_is _)
refused_is (Instruction-F.ReportError info) m = around_refused (fee_to m.part info.destination) m _ _ (λ n. one_is _)
refused_is (Instruction-F.ReportHolding info filter) m = around_refused (fee_to m.part info.destination) m _ _ (λ n. holding_answer n info (reported_list n info filter))
refused_is (Instruction-F.QueryPallet name info) m = around_refused (fee_to m.part info.destination) m _ _ (λ n. one_is _)
refused_is (Instruction-F.ReportTransactStatus info) m = around_refused (fee_to m.part info.destination) m _ _ (λ n. one_is _)
refused_is (Instruction-F.QueryResponse query answer weight querier) m = by_origin m.regs.origin _ _ (between m) (λ who. refl)
refused_is (Instruction-F.DescendOrigin path) m = by_origin m.regs.origin _ _ (between m) (λ who. one_is _)
refused_is (Instruction-F.ExpectAsset list) m = one_is _
refused_is (Instruction-F.ExpectOrigin origin) m = one_is _
refused_is (Instruction-F.ExpectError failure) m = one_is _
refused_is (Instruction-F.ExpectTransactStatus status) m = one_is _
refused_is (Instruction-F.ExpectPallet place name module_name major least_minor) m = pallet_answer m (pallet_at m place) name module_name major least_minor
refused_is (Instruction-F.UnpaidExecution limit origin) m = one_is _
refused_is (Instruction-F.Transact kind most bytes) m = by_origin m.regs.origin _ _ (between m) (λ who. call_answer m most (call_in m.part.calls bytes) (caller_in m kind who))
refused_is (Instruction-F.ExchangeAsset filter list maximal) m = test_then (has_room m (length list)) error.HoldingWouldOverflow _ _ (one_is _)
refused_is (Instruction-F.SubscribeVersion query weight) m = test_first (is_original m) error.BadOrigin (Some error.Unimplemented)
refused_is Instruction-F.UnsubscribeVersion m = test_first (is_original m) error.BadOrigin (Some error.Unimplemented)
refused_is (Instruction-F.UniversalOrigin junction) m = test_then _ error.InvalidLocation _ _ (by_origin m.regs.origin _ _ (between m) (λ who. refl))
refused_is (Instruction-F.ExportMessage network path xcm) m = by_origin m.regs.origin _ _ (between m) (λ who. refl)
refused_is (Instruction-F.LockAsset asset unlocker) m = by_origin m.regs.origin _ _ (between m) (λ who. test_then m.part.locks error.LockError _ _ (around_refused (fee_to m.part unlocker) m _ _ (λ n. one_is _)))
refused_is (Instruction-F.UnlockAsset asset target) m = by_origin m.regs.origin _ _ (between m) (λ who. one_is _)
refused_is (Instruction-F.NoteUnlockable asset owner) m = by_origin m.regs.origin _ _ (between m) (λ who. one_is _)
refused_is (Instruction-F.RequestUnlock asset locker) m = by_origin m.regs.origin _ _ (between m) (λ who. test_then m.part.locks error.LockError _ _ (around_refused (fee_to m.part locker) m _ _ (λ n. one_is _)))
refused_is (Instruction-F.AliasOrigin target) m = by_origin m.regs.origin _ _ (between m) (λ who. refl)
refused_is _ m = refl

-- ---- what is left

-- goods are joined to what is held
pub more_is : (r : Registers) (p q : ChainPart) (goods : Bundle) → p ≡ q → after MachineCall.Join (record { regs = r; part = p; goods = goods }) ≡ between (holding_more (machine r q) q goods)
more_is r p q goods same =
    ap (λ (x : ChainPart). between (machine (with_holding r (Joined r.holding goods)) x)) (part_is MachineCall.Join (record { regs = r; part = p; goods = goods }))
    ∙ ap (λ (x : ChainPart). between (machine (with_holding r (Joined r.holding goods)) (bundles_joined x r.holding goods))) same

-- goods came, and are joined
joins : (m : Machine) (c : MachineCall) (goods : Bundle) → (let t = after c (between m) in (t.regs ≡ m.regs) × (t.goods ≡ goods)) → between (holding_more m (effect c (between m)) goods) ≡ after MachineCall.Join (after c (between m))
joins m c goods is =
    sym (more_is m.regs (after c (between m)).part (effect c (between m)) goods (part_is c (between m)))
    ∙ ap (λ (t : MachineWithGoods). after MachineCall.Join t) (sym (same_midway (after c (between m)) goods is))
  where
    same_midway : (t : MachineWithGoods) (goods : Bundle) → (t.regs ≡ m.regs) × (t.goods ≡ goods) → ◌≡◌ {A = MachineWithGoods} t (record { regs = m.regs; part = t.part; goods = goods })
    same_midway t goods is = λ i. record { regs = is.0 i; part = t.part; goods = is.1 i }

-- goods were put somewhere, or none were in hand
put_is : (r : Registers) (c : MachineCall) (t : MachineWithGoods) → between (machine r (after c t).part) ≡ between (machine r (effect c t))
put_is r c t = ap (λ (x : ChainPart). between (machine r x)) (part_is c t)

at_origin_is : (o : Option Location) (change : Location → Machine) (made : Location → List MachineCall) (m : Machine)
    → ((who : Location) → between (change who) ≡ after_all (made who) (between m)) → between (at_origin o change m) ≡ after_all (for_origin o made) (between m)
at_origin_is None change made m same = refl
at_origin_is (Some who) change made m same = same who

none_changed : (o : Option Location) (m : Machine) (e : XcmError) → between m ≡ after_all (for_origin o (λ who. never e)) (between m)
none_changed None m e = refl
none_changed (Some who) m e = refl

keeping_is : (k : Machine) → after MachineCall.KeepFee (between k) ≡ between (keeping_fee k)
keeping_is k = put_is k.regs MachineCall.KeepFee (between k)

around_is : (o : Option Asset) (m : Machine) (change : Machine → Machine) (inside : Machine → List MachineCall)
    → ((n : Machine) → between (change n) ≡ after_all (inside n) (between n)) → between (done_around o m change) ≡ after_all (around o m inside) (between m)
around_is None m change inside same = same m
around_is (Some fee) m change inside same =
    let n = after_fee m fee in
    sym (keeping_is (change n))
    ∙ ap (after MachineCall.KeepFee) (same n)
    ∙ sym (after_both (inside n) (MachineCall.KeepFee ∷ []) (between n))
    ∙ ap (after_all (inside n ++ MachineCall.KeepFee ∷ [])) (sym (charge_after m fee))
    ∙ sym (after_both (charge m fee) (inside n ++ MachineCall.KeepFee ∷ []) (between m))

-- a filter took goods, and they were put somewhere
left_is : (m : Machine) (filter : Filter) (c : MachineCall) → (let t = after (MachineCall.Take filter) (between m) in between (holding_left m filter (effect c t)) ≡ between (machine t.regs (after c t).part))
left_is m filter c = let t = after (MachineCall.Take filter) (between m) in sym (put_is t.regs c t)

buying_is : (m : Machine) (fees : Asset) (limit : WeightLimit) → between (buying_done m fees limit) ≡ after_all (buying fees limit) (between m)
buying_is m fees Unlimited = refl
buying_is m fees (Limited w) =
    let t = after (MachineCall.Pay fees) (between m) in
    sym (more_is t.regs (after (MachineCall.Buy w) t).part (effect (MachineCall.Buy w) t) (after (MachineCall.Buy w) t).goods (part_is (MachineCall.Buy w) t))

refunding_is : (m : Machine) (o : Option (Location × ℕ)) → between (refund_done m o) ≡ (let t = after_all (refunding m o) (between m) in record t { regs = refund_noted m o t.regs })
refunding_is m None = refl
refunding_is m (Some given) = ap (λ (t : MachineWithGoods). record t { regs = refund_noted m (Some given) t.regs }) (joins m (MachineCall.Refund (not_refunded m)) (refund_goods m.part (not_refunded m)) (refl, refl))

report_is : (n : Machine) (info : QueryInfo) (answer : Response) → between (report_done n info answer) ≡ after_all (report_calls n info answer) (between n)
report_is n info answer = sym (put_is n.regs (MachineCall.Respond info answer n.regs.origin) (between n))

holding_is : (n : Machine) (info : QueryInfo) (o : Option (List Asset)) → between (holding_report_done n info o) ≡ after_all (holding_report n info o) (between n)
holding_is n info None = refl
holding_is n info (Some list) = by_length (nat_le (length list) 20)
  where
    by_length : (b : Bool) → between (report_done n info (response.Assets list)) ≡ after_all (size_tests n info b ++ report_calls n info (response.Assets list)) (between n)
    by_length true = report_is n info (response.Assets list)
    by_length false = report_is n info (response.Assets list)

pallet_is : (m : Machine) (o : Option PalletInfo) (name module_name : List ℕ) (major least_minor : ℕ) → between m ≡ after_all (pallet_tests o name module_name major least_minor) (between m)
pallet_is m None name module_name major least_minor = refl
pallet_is m (Some info) name module_name major least_minor = refl

descended_is : (o : Option Location) (m : Machine) (path : List Junction) → between (at_origin o (λ who. with_registers m (record m.regs { origin = Some (descended who path) })) m)
    ≡ (let t = after_all (for_origin o (λ who. MachineCall.Check (fits_below who path) error.LocationFull ∷ [])) (between m) in record t { regs = below_origin o path t.regs })
descended_is None m path = refl
descended_is (Some who) m path = refl

call_is : (m : Machine) (most : Weight) (c : Option AnyCall) (o : Option (List ℕ)) → between (call_done m most c o) ≡ (let t = after_all (dispatching m most c o) (between m) in record t { regs = call_noted m most c o t.regs })
unfolding dispatched
call_is m most None o = refl
call_is m most (Some c) None = refl
call_is m most (Some c) (Some account) = refl

transact_is : (o : Option Location) (m : Machine) (kind : OriginKind) (most : Weight) (bytes : List ℕ) → between (at_origin o (λ who. call_done m most (call_in m.part.calls bytes) (caller_in m kind who)) m)
    ≡ (let t = after_all (for_origin o (λ who. dispatching m most (call_in m.part.calls bytes) (caller_in m kind who))) (between m) in record t { regs = call_noted_for o m kind most bytes t.regs })
transact_is None m kind most bytes = refl
transact_is (Some who) m kind most bytes = call_is m most (call_in m.part.calls bytes) (caller_in m kind who)

pub done_is : (l : Instruction-F Instruction) (m : Machine) → between (done l m) ≡ through l m
done_is (Instruction-F.WithdrawAsset list) m = at_origin_is m.regs.origin _ _ m (λ who. joins m (MachineCall.Withdraw list who) (bundle_of list) (refl, refl))
done_is (Instruction-F.ReserveAssetDeposited list) m = joins m (MachineCall.Receive list m.regs.origin false) (bundle_of list) (refl, refl)
done_is (Instruction-F.ReceiveTeleportedAsset list) m = joins m (MachineCall.Receive list m.regs.origin true) (bundle_of list) (refl, refl)
done_is (Instruction-F.ClaimAsset list ticket) m = at_origin_is m.regs.origin _ _ m (λ who. joins m (MachineCall.Claim list who) (bundle_of list) (refl, refl))
done_is (Instruction-F.DepositAsset filter who) m = left_is m filter (MachineCall.Deposit who)
done_is (Instruction-F.BurnAsset list) m = left_is m (Definite list) MachineCall.Burn
done_is (Instruction-F.BuyExecution fees limit) m = buying_is m fees limit
done_is Instruction-F.RefundSurplus m = refunding_is m (refund_now m)
done_is (Instruction-F.ExchangeAsset filter list maximal) m =
    let t = after (MachineCall.Take filter) (between m) in
    let c = MachineCall.Exchange list maximal in
    sym (more_is t.regs (after c t).part (effect c t) (after c t).goods (part_is c t))
done_is (Instruction-F.TransferAsset list who) m = at_origin_is m.regs.origin _ _ m (λ from. sym (put_is m.regs (MachineCall.Transfer list from who) (between m)))
done_is (Instruction-F.TransferReserveAsset list dest xcm) m = at_origin_is m.regs.origin _ _ m
    (λ who. around_is (fee_to m.part dest) m _ _ (λ n. sym (put_is n.regs (MachineCall.TransferOut list who dest xcm) (between n))))
done_is (Instruction-F.DepositReserveAsset filter dest xcm) m = around_is (fee_to m.part dest) m _ _ (λ n. left_is n filter (MachineCall.DepositOut dest xcm))
done_is (Instruction-F.InitiateReserveWithdraw filter dest xcm) m = around_is (fee_to m.part dest) m _ _ (λ n. left_is n filter (MachineCall.Ship Way.Withdrawal dest xcm))
done_is (Instruction-F.InitiateTeleport filter dest xcm) m = around_is (fee_to m.part dest) m _ _ (λ n. left_is n filter (MachineCall.Ship Way.Teleport dest xcm))
done_is (Instruction-F.ReportError info) m = around_is (fee_to m.part info.destination) m _ _ (λ n. report_is n info (response.ExecutionResult n.regs.error))
done_is (Instruction-F.ReportHolding info filter) m = around_is (fee_to m.part info.destination) m _ _ (λ n. holding_is n info (reported_list n info filter))
done_is (Instruction-F.QueryPallet name info) m = around_is (fee_to m.part info.destination) m _ _ (λ n. report_is n info (response.PalletsInfo (pallets_of n.part name)))
done_is (Instruction-F.ReportTransactStatus info) m = around_is (fee_to m.part info.destination) m _ _ (λ n. report_is n info (response.DispatchResult n.regs.status))
done_is (Instruction-F.QueryResponse query answer weight querier) m = at_origin_is m.regs.origin _ _ m (λ who. sym (put_is m.regs (MachineCall.Answer who query) (between m)))
done_is (Instruction-F.DescendOrigin path) m = descended_is m.regs.origin m path
done_is (Instruction-F.ExpectPallet place name module_name major least_minor) m = pallet_is m (pallet_at m place) name module_name major least_minor
done_is (Instruction-F.Transact kind most bytes) m = transact_is m.regs.origin m kind most bytes
done_is (Instruction-F.UniversalOrigin junction) m = none_changed m.regs.origin m error.InvalidLocation
done_is (Instruction-F.ExportMessage network path xcm) m = none_changed m.regs.origin m error.Unroutable
done_is (Instruction-F.LockAsset asset unlocker) m = at_origin_is m.regs.origin _ _ m (λ who. around_is (fee_to m.part unlocker) m _ _ (λ n. sym (put_is n.regs (MachineCall.Lock asset who unlocker) (between n))))
done_is (Instruction-F.UnlockAsset asset target) m = at_origin_is m.regs.origin _ _ m (λ who. sym (put_is m.regs (MachineCall.Unlock asset target who) (between m)))
done_is (Instruction-F.NoteUnlockable asset owner) m = at_origin_is m.regs.origin _ _ m (λ who. sym (put_is m.regs (MachineCall.Note asset owner who) (between m)))
done_is (Instruction-F.RequestUnlock asset locker) m = at_origin_is m.regs.origin _ _ m (λ who. around_is (fee_to m.part locker) m _ _ (λ n. sym (put_is n.regs (MachineCall.Request asset who locker) (between n))))
done_is (Instruction-F.AliasOrigin target) m = none_changed m.regs.origin m error.NoPermission
done_is _ m = refl
