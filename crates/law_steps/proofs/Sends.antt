-- What is queued and what may still be sent never rises in a run of one of the seven messages.
use Rattle.std.proofs.Common.{◌≡◌, ◌⊎◌, inl, inr, ⊎_elim, ℕ, zero, suc, ◌+◌, ◌≤◌, Bool, true, false, List, [], ◌∷◌, Option, Some, None, refl, sym, ap, ◌∙◌, subst, arith, get_or}
use Rattle.std.specs.Prelude.{if◌then◌else◌, drop, find, slice_get, slice_set, sum_by, option_and_then, Result, Ok, Err}
use Rattle.std.proofs.lemmas.Option.{slice_get_within, get_or_from_slice_get}
use Rattle.std.specs.Option.{option_map_or}
use Rattle.std.proofs.lemmas.List.Sums.{sum_by_push, sum_by-cons, sum_by-set}
use Rattle.locations.specs.declared.relative.Location.{Location}
use Rattle.operands.specs.declared.error.XcmError.{XcmError}
use Rattle.operands.specs.declared.weight.Weight.{Weight}
use Rattle.operands.specs.declared.query.QueryInfo.{QueryInfo}
use Rattle.operands.specs.declared.query.Response.{Response}
use Rattle.operands.specs.declared.query.OpenQuery.{OpenQuery}
use Rattle.operands.specs.Weights.{is_within}
use Rattle.operands.specs.declared.weight.WeightLimit.{WeightLimit}
use Rattle.operands.specs.declared.weight.WeightLimit.TheVariants.{Limited}
use Rattle.asset_lists.specs.declared.units.Asset.{Asset}
use Rattle.asset_bundles.specs.Bundles.{Bundle, held_assets}
use Rattle.asset_bundles.specs.declared.shipment.Way.{Way}
use Rattle.xcm_program.specs.declared.instruction.Instruction.{Instruction, out-Instruction, roll-Instruction, out-roll-Instruction}
use Rattle.xcm_program.specs.declared.instruction.Instruction.TheOpen.{Instruction-F}
use Rattle.weight_trader.specs.Purchases.{no_weight}
use Rattle.xcm_program.specs.declared.outcome.Outcome.{Outcome}
use Rattle.xcm_program.specs.Weights.{weight_of, kept}
use Rattle.xcm_program.specs.Indices.{index}
use Rattle.xcm_program.specs.Measure.{inner, inner_of, sending, sends_one, sends}
use Rattle.xcm_program.proofs.Lemmas.{sends_inside, sends_one-is}
use Rattle.plain_lists.specs.Firsts.{change_first}
use Rattle.channel_parts.specs.declared.cargo.Cargo.{Cargo}
use Rattle.channel_parts.specs.declared.cargo.Cargo.TheVariants.{Nothing, Deposit}
use Rattle.channel_parts.specs.Channels.{Waiting, Outgoing, with_waiting, away}
use Rattle.chain_queues.specs.Queues.{leads_to, channel_to, first_of, oldest, without_oldest}
use Rattle.barriers.specs.declared.barrier.Barrier.{Barrier}
use Rattle.barriers.specs.Barriers.{with_limit, limited, with_limit_at, purchase_index, left_by, decided, allows, admission}
use Rattle.chain_ids.specs.declared.chain.ChainId.{ChainId}
use Rattle.exec_base.specs.declared.event.Event.{Event}
use Rattle.exec_base.specs.declared.event.Part.{Part}
use Rattle.exec_base.specs.declared.event.Part.TheVariants.{Appendix}
use Rattle.exec_base.specs.Part.{ChainPart}
use Rattle.exec_base.specs.Sending.{sent, led_by, deposit_program, away_program, listed_program}
use Rattle.exec_base.specs.Sending as sending_to
use Rattle.exec_base.specs.Host.{deposited, transferred, transferred_out, deposited_out, raised_for, shipped, seen_from, querier_seen, report_program, responded, told}
use Rattle.exec_rules.specs.Machine.{Machine, machine, Control, control_of, Steers, IsOrderly}
use Rattle.exec_rules.specs.Run.{Stage, At, Ended, begin, to_appendix, to_handler, go_on, failed, without_appendix, handler_dropped, traced, by_answer, next, steps, machine_of, run, still_to_run}
use Rattle.exec_rules.specs.Outcome.{finished}
use Rattle.exec_rules.specs.Instructions.{done, refusal_of, xcm}
use Rattle.exec_rules.specs.declared.rules.ChainRules.{ChainRules}
use Rattle.exec_rules.specs.declared.admission.Admitted.{Admitted}
use Rattle.exec_rules.specs.Admission.{by_barriers, by_limit, by_weight, admitted}
use Rattle.exec_rules.specs.Execution.{first_machine, first_stage, last_machine, executed_by, executed}
use Rattle.exec_rules.specs.HostCalls.{MachineWithGoods, MachineCall, after}
use Rattle.exec_rules.specs.Reasons.{shipping, IsReport, Moment, HasReason}
use Rattle.exec_rules.proofs.Lemmas.Reasons.{ComesAtEnd}
use Rattle.exec_rules.proofs.Lemmas.ReasonLaws.{each_keeps}
use Rattle.exec_rules.proofs.Lemmas.Kept.{IsKeptAtEnd}
use Rattle.exec_rules.proofs.Lemmas.KeptLaws.{finished_kept}
use Rattle.asset_lists.specs.declared.filters.Filter.{Filter}
use Rattle.network_steps.specs.Worlds.{Member, chain_of, World, with_part}
use Rattle.network_steps.specs.Sends.{message_count, queue_count, queued, deliveries_left}
use Rattle.network_steps.specs.Acting.{begun}
use Rattle.network_steps.specs.Steps.{name_at, run_for, sender_after, receiver_after, delivered}
use Rattle.trust_tables.specs.declared.chains.Site.{Site}
use Rattle.law_steps.specs.Shapes.{IsShape, IsShaped}
use Rattle.law_steps.proofs.Admitting.{admitted_shape}
use Rattle.law_steps.specs.Calm.{IsMute, MuteAt}
use Rattle.law_steps.proofs.Calm.{shape_mute}

-- ---- programs
sends-led_by : (first : Instruction-F Instruction) (program : List Instruction) → sending first ≡ 0 → inner first ≡ None → sends (led_by first program) ≡ sends program
sends-led_by first program none flat =
    let one = sends_one-is (roll-Instruction first) in
    let same : sending (out-Instruction (roll-Instruction first)) ≡ 0 = ap sending (out-roll-Instruction first) ∙ none in
    let inside : sends_inside (inner_of (roll-Instruction first)) ≡ 0 = ap (λ l. sends_inside (inner l)) (out-roll-Instruction first) ∙ ap sends_inside flat in
    let two = sends_one-is (roll-Instruction Instruction-F.ClearOrigin) in
    let clears : sending (out-Instruction (roll-Instruction Instruction-F.ClearOrigin)) ≡ 0 = ap sending (out-roll-Instruction Instruction-F.ClearOrigin) in
    let nothing : sends_inside (inner_of (roll-Instruction Instruction-F.ClearOrigin)) ≡ 0 = ap (λ l. sends_inside (inner l)) (out-roll-Instruction Instruction-F.ClearOrigin) in
    omega (arith, one, same, inside, two, clears, nothing)

sends-deposit : (list : List Asset) (program : List Instruction) → sends (deposit_program list program) ≡ sends program
sends-deposit list program = sends-led_by (Instruction-F.ReserveAssetDeposited list) program refl refl

sends-away : (way : Way) (list : List Asset) (program : List Instruction) → sends (away_program way list program) ≡ sends program
sends-away Way.Withdrawal list program = sends-led_by (Instruction-F.WithdrawAsset list) program refl refl
sends-away Way.Teleport list program = sends-led_by (Instruction-F.ReceiveTeleportedAsset list) program refl refl

sends-listed : (around : List Asset → List Instruction) (n : ℕ) → ((list : List Asset) → sends (around list) ≡ n) → (o : Option (List Asset)) → sends (listed_program around o) ≤ n
sends-listed around n h None = omega arith
sends-listed around n h (Some list) = let e = h list in omega (arith, e)

sends-report : (info : QueryInfo) (response : Response) (querier : Option Location) → sends (report_program info response querier) ≡ 0
sends-report info response querier =
    let one = sends_one-is (roll-Instruction (Instruction-F.QueryResponse info.query_id response info.max_weight querier)) in
    let same : sending (out-Instruction (roll-Instruction (Instruction-F.QueryResponse info.query_id response info.max_weight querier))) ≡ 0 = ap sending (out-roll-Instruction (Instruction-F.QueryResponse info.query_id response info.max_weight querier)) in
    let inside : sends_inside (inner_of (roll-Instruction (Instruction-F.QueryResponse info.query_id response info.max_weight querier))) ≡ 0 =
    ap (λ l. sends_inside (inner l)) (out-roll-Instruction (Instruction-F.QueryResponse info.query_id response info.max_weight querier)) in
    omega (arith, one, same, inside)

-- ---- a message put last
changed_head : (x y : Outgoing) (xs : List Outgoing) (n : ℕ) → queue_count y ≡ queue_count x + n → queued (y ∷ xs) ≤ queued (x ∷ xs) + n
changed_head x y xs n h = let a = sum_by-cons queue_count y xs in let b = sum_by-cons queue_count x xs in omega (arith, a, b, h)

changed_tail : (x : Outgoing) (xs ys : List Outgoing) (n : ℕ) → queued ys ≤ queued xs + n → queued (x ∷ ys) ≤ queued (x ∷ xs) + n
changed_tail x xs ys n h = let a = sum_by-cons queue_count x ys in let b = sum_by-cons queue_count x xs in omega (arith, a, b, h)

pub changed_more : (test : Outgoing → Bool) (change : Outgoing → Outgoing) (n : ℕ) → ((c : Outgoing) → queue_count (change c) ≡ queue_count c + n) → (cs : List Outgoing) → queued (change_first test change cs) ≤ queued cs + n
changed_more test change n grows [] = omega arith
changed_more test change n grows (x ∷ xs) =
    elim (test x) as (λ b. queued (if b then change x ∷ xs else x ∷ change_first test change xs) ≤ queued (x ∷ xs) + n) [
      | true ↦ changed_head x (change x) xs n (grows x)
      | false ↦ changed_tail x xs (change_first test change xs) n (changed_more test change n grows xs)
    ]

pub waiting_more : (program : List Instruction) (cargo : Cargo) (c : Outgoing) → queue_count (with_waiting program cargo c) ≡ queue_count c + (1 + sends program)
waiting_more program cargo c = sum_by_push message_count c.queue (record { number = c.next; program = program; cargo = cargo })

sent_more : (p : ChainPart) (dest : Location) (program : List Instruction) (cargo : Cargo) → queued (sent p dest program cargo).channels ≤ queued p.channels + (1 + sends program)
unfolding sent
sent_more p dest program cargo = changed_more (sending_to.leads_to_location p dest) (with_waiting program cargo) (1 + sends program) (waiting_more program cargo) p.channels

-- ---- what calls of a chain send
transferred_more : (p : ChainPart) (list : List Asset) (from dest : Location) (program : List Instruction) → queued (transferred_out p list from dest program).channels ≤ queued p.channels + (1 + sends program)
unfolding transferred_out transferred
transferred_more p list from dest program =
    let a = sent_more (transferred p list from dest) dest (listed_program (λ l. deposit_program l program) (seen_from p dest list)) (Deposit list) in
    let b = sends-listed (λ l. deposit_program l program) (sends program) (λ l. sends-deposit l program) (seen_from p dest list) in
    omega (arith, a, b)

deposited_more : (p : ChainPart) (goods : Bundle) (dest : Location) (program : List Instruction) → queued (deposited_out p goods dest program).channels ≤ queued p.channels + (1 + sends program)
unfolding deposited_out deposited
deposited_more p goods dest program =
    let a = sent_more (deposited p goods dest) dest (listed_program (λ l. deposit_program l program) (seen_from p dest (held_assets goods))) (Deposit (held_assets goods)) in
    let b = sends-listed (λ l. deposit_program l program) (sends program) (λ l. sends-deposit l program) (seen_from p dest (held_assets goods)) in
    omega (arith, a, b)

shipped_more : (p : ChainPart) (goods : Bundle) (way : Way) (dest : Location) (program : List Instruction) → queued (shipped p goods way dest program).channels ≤ queued p.channels + (1 + sends program)
unfolding shipped
shipped_more p goods way dest program =
    let a = sent_more (raised_for p way goods) dest (listed_program (λ l. away_program way l program) (seen_from p dest (held_assets goods))) (away way goods) in
    let b = sends-listed (λ l. away_program way l program) (sends program) (λ l. sends-away way l program) (seen_from p dest (held_assets goods)) in
    omega (arith, a, b)

response_more : (p : ChainPart) (info : QueryInfo) (response : Response) (o : Option (Option Location))
    → queued (option_map_or (λ (seen : Option Location). sent p info.destination (report_program info response seen) Nothing) o p).channels ≤ queued p.channels + 1
response_more p info response None = omega arith
response_more p info response (Some seen) =
    let a = sent_more p info.destination (report_program info response seen) Nothing in
    let b = sends-report info response seen in
    omega (arith, a, b)

responded_more : (p : ChainPart) (info : QueryInfo) (response : Response) (querier : Option Location) → queued (responded p info response querier).channels ≤ queued p.channels + 1
unfolding responded
responded_more p info response querier = response_more p info response (querier_seen p info.destination querier)

-- ---- one instruction
abbrev channels_of : Machine → List Outgoing
channels_of m = m.part.channels

-- what an instruction sends, and what the programs that it sends may send
abbrev sent_in : Instruction-F Instruction → ℕ
sent_in (Instruction-F.TransferReserveAsset list dest program) = 1 + sends program
sent_in (Instruction-F.DepositReserveAsset taken dest program) = 1 + sends program
sent_in (Instruction-F.InitiateReserveWithdraw taken dest program) = 1 + sends program
sent_in (Instruction-F.InitiateTeleport taken dest program) = 1 + sends program
sent_in (Instruction-F.ReportError info) = 1
sent_in (Instruction-F.ReportHolding info taken) = 1
sent_in (Instruction-F.QueryPallet name info) = 1
sent_in (Instruction-F.ReportTransactStatus info) = 1
sent_in _ = 0

reports_one : (l : Instruction-F Instruction) (info : QueryInfo) → IsReport l info → sent_in l ≡ 1
reports_one (Instruction-F.ReportError to) info is = refl
reports_one (Instruction-F.ReportHolding to filter) info is = refl
reports_one (Instruction-F.QueryPallet name to) info is = refl
reports_one (Instruction-F.ReportTransactStatus to) info is = refl
reports_one l info is = absurd is

ships_one : (way : Way) (filter : Filter) (dest : Location) (program : List Instruction) → sent_in (shipping way filter dest program) ≡ 1 + sends program
ships_one Way.Withdrawal filter dest program = refl
ships_one Way.Teleport filter dest program = refl

-- nothing was sent yet, or no more than the instruction sends
abbrev IsSentBy : Instruction-F Instruction → Machine → MachineWithGoods → Type 0
IsSentBy l m t = (t.part.channels ≡ m.part.channels) ⊎ (queued t.part.channels ≤ queued m.part.channels + sent_in l)

first_sent : (l : Instruction-F Instruction) (m : Machine) (t : MachineWithGoods) (c : MachineCall) (n : ℕ) → t.part.channels ≡ m.part.channels → sent_in l ≡ n → queued (after c t).part.channels ≤ queued t.part.channels + n → IsSentBy l m (after c t)
first_sent l m t c n unsent is more = let a = ap queued unsent in inr (omega (arith, more, a, is))

-- who tells another chain of a lock has an origin
told_of_lock : (l k : Instruction-F Instruction) (m : Machine) (who : Location) → IsMute l m → l ≡ k → (IsMute k m → m.regs.origin ≡ None) → m.regs.origin ≡ Some who → ⊥
told_of_lock l k m who mute is silent speaks = absurd (let no_way : None ≡ Some who = sym (silent (subst (λ (k : Instruction-F Instruction). IsMute k m) is mute)) ∙ speaks in cc)

call_sent : (l : Instruction-F Instruction) (m : Machine) (c : MachineCall) (t : MachineWithGoods) → IsMute l m → HasReason Moment.Inside l m t c → IsSentBy l m t → IsSentBy l m (after c t)
call_sent l m (MachineCall.TransferOut list from dest program) t mute asks h = first_sent l m t (MachineCall.TransferOut list from dest program) (1 + sends program) asks.0 (ap sent_in asks.2) (transferred_more t.part list from dest program)
call_sent l m (MachineCall.DepositOut dest program) t mute asks h = first_sent l m t (MachineCall.DepositOut dest program) (1 + sends program) asks.0 (ap sent_in asks.2.1) (deposited_more t.part t.goods dest program)
call_sent l m (MachineCall.Ship way dest program) t mute asks h = first_sent l m t (MachineCall.Ship way dest program) (1 + sends program) asks.0 (ap sent_in asks.2.1 ∙ ships_one way asks.2.0 dest program) (shipped_more t.part t.goods way dest program)
call_sent l m (MachineCall.Respond info answer querier) t mute asks h = first_sent l m t (MachineCall.Respond info answer querier) 1 asks.0 (reports_one l info asks.2) (responded_more t.part info answer querier)
call_sent l m (MachineCall.Lock a owner unlocker) t mute asks h = absurd (told_of_lock l (Instruction-F.LockAsset a unlocker) m owner mute asks.2 (λ e. e) asks.1)
call_sent l m (MachineCall.Request a owner locker) t mute asks h = absurd (told_of_lock l (Instruction-F.RequestUnlock a locker) m owner mute asks.2 (λ e. e) asks.1)
call_sent l m _ t mute asks h = h

done_more : (l : Instruction-F Instruction) (m : Machine) → IsMute l m → queued (channels_of (done l m)) ≤ queued (channels_of m) + sent_in l
done_more l m mute =
    ⊎_elim (λ (same : channels_of (done l m) ≡ channels_of m). let a = ap queued same in omega (arith, a)) (λ (more : queued (channels_of (done l m)) ≤ queued (channels_of m) + sent_in l). more)
    (each_keeps l m (IsSentBy l m) (λ c t asks from h. call_sent l m c t mute asks h) (λ t from h. h) (inl refl))

-- ---- what is kept for later
kept_more : (l : Instruction-F Instruction) (c d : Control) → Steers (λ p. p) l c d → sends d.handler + sends d.appendix ≤ sends c.handler + sends c.appendix + sends_inside (kept l)
kept_more (Instruction-F.SetErrorHandler program) c d e = subst (λ (d : Control). sends d.handler + sends d.appendix ≤ sends c.handler + sends c.appendix + sends program) (sym e) (omega arith)
kept_more (Instruction-F.SetAppendix program) c d e = subst (λ (d : Control). sends d.handler + sends d.appendix ≤ sends c.handler + sends c.appendix + sends program) (sym e) (omega arith)
kept_more Instruction-F.RefundSurplus c d e =
    ⊎_elim (λ f. subst (λ (d : Control). sends d.handler + sends d.appendix ≤ sends c.handler + sends c.appendix + 0) (sym f) (omega arith))
    (λ f. subst (λ (d : Control). sends d.handler + sends d.appendix ≤ sends c.handler + sends c.appendix + 0) (sym f) (omega arith)) e
kept_more (Instruction-F.Transact kind most call) c d e = subst (λ (d : Control). sends d.handler + sends d.appendix ≤ sends c.handler + sends c.appendix + 0) (sym e.2) (omega arith)
kept_more _ c d e = subst (λ (d : Control). sends d.handler + sends d.appendix ≤ sends c.handler + sends c.appendix + 0) (sym e) (omega arith)

sent_and_kept : (l : Instruction-F Instruction) → sent_in l + sends_inside (kept l) ≤ sending l + sends_inside (inner l)
sent_and_kept (Instruction-F.TransferReserveAsset list dest program) = omega arith
sent_and_kept _ = omega arith

-- what is queued, and what the programs that are kept may send
abbrev pub due : Machine → ℕ
due m = queued (channels_of m) + (sends m.regs.handler + sends m.regs.appendix)

pub ran_more : IsOrderly xcm → (x : Instruction) (m : Machine) → IsMute (out-Instruction x) m → refusal_of x m ≡ None → due (xcm.done x m) ≤ due m + sends_one x
ran_more orderly x m mute ok =
    let a = done_more (out-Instruction x) m mute in
    let b = kept_more (out-Instruction x) (control_of m.regs) (control_of (xcm.done x m).regs) (orderly x m ok) in
    let c = sent_and_kept (out-Instruction x) in
    let d = sends_one-is x in
    omega (arith, a, b, c, d)

-- ---- a run
abbrev pub due_at : Stage → ℕ
due_at (At part place x behind m) = sends (x ∷ behind) + due m
due_at (Ended m) = due m

told_due : (e : Event) (m : Machine) → due (machine m.regs (told m.part e)) ≡ due m
unfolding told
told_due e m = refl

begin_due : (part : Part) (p : List Instruction) (m : Machine) → due_at (begin part p m) ≡ sends p + due m
begin_due part [] m = omega arith
begin_due part (x ∷ behind) m = refl

to_appendix_due : (m : Machine) → due_at (to_appendix m) ≤ due m
to_appendix_due m = let e = begin_due Appendix m.regs.appendix (record m { regs = without_appendix m.regs }) in omega (arith, e)

to_handler_due : (h : List Instruction) (m : Machine) → m.regs.handler ≡ h → due_at (to_handler h m) ≤ due m
to_handler_due [] m e = to_appendix_due m
to_handler_due (x ∷ behind) m e = let c = ap sends e in omega (arith, c)

go_on_due : (part : Part) (place : ℕ) (behind : List Instruction) (m : Machine) → due_at (go_on part place behind m) ≤ sends behind + due m
go_on_due part place [] m = let e = to_appendix_due (record m { regs = handler_dropped m.regs }) in omega (arith, e)
go_on_due part place (x ∷ behind) m = omega arith

module _ (orderly : IsOrderly xcm) where
  by_answer_due : (part : Part) (place : ℕ) (x : Instruction) (behind : List Instruction) (m : Machine) (o : Option XcmError) → IsMute (out-Instruction x) m → refusal_of x m ≡ o → due_at (by_answer xcm part place x behind m o) ≤ sends (x ∷ behind) + due m
  by_answer_due part place x behind m None mute e =
      let a = go_on_due part (place + 1) behind (traced part place x None (xcm.done x m)) in
      let b = told_due (Event.Ran part place (index (out-Instruction x)) None) (xcm.done x m) in
      let c = ran_more orderly x m mute e in
      omega (arith, a, b, c)
  by_answer_due part place x behind m (Some error) mute e =
      let a = to_handler_due m.regs.handler (record (traced part place x (Some error) m) { regs = failed place error behind m.regs }) refl in
      let b = told_due (Event.Ran part place (index (out-Instruction x)) (Some error)) m in
      omega (arith, a, b)

  next_due : (g : Stage) → MuteAt g → due_at (next xcm g) ≤ due_at g
  next_due (At part place x behind m) mute = by_answer_due part place x behind m (refusal_of x m) mute refl
  next_due (Ended m) mute = omega arith

  steps_due : (n : ℕ) (g : Stage) → ((k : ℕ) → MuteAt (steps xcm k g)) → due_at (steps xcm n g) ≤ due_at g
  unfolding steps
  steps_due zero g mute = omega arith
  steps_due (suc n) g mute = let a = steps_due n (next xcm g) (λ k. mute (suc k)) in let b = next_due g (mute 0) in omega (arith, a, b)

  machine_due : (g : Stage) → queued (channels_of (machine_of g)) ≤ due_at g
  machine_due (At part place x behind m) = omega arith
  machine_due (Ended m) = omega arith

  -- a run leaves no more in the queues than there was with what its program may send
  pub run_sends : (g : Stage) → ((k : ℕ) → MuteAt (steps xcm k g)) → queued (channels_of (machine_of (run xcm g))) ≤ due_at g
  run_sends g mute = let a = machine_due (run xcm g) in let b = steps_due (still_to_run g) g mute in omega (arith, a, b)

-- ---- the end of a run sends nothing
end_same : (c : MachineCall) (t : MachineWithGoods) → ComesAtEnd c → (after c t).part.channels ≡ t.part.channels
end_same (MachineCall.TransferOut list from dest program) t comes = absurd comes
end_same (MachineCall.DepositOut dest program) t comes = absurd comes
end_same (MachineCall.Ship way dest program) t comes = absurd comes
end_same (MachineCall.Respond info answer querier) t comes = absurd comes
end_same (MachineCall.Lock a owner unlocker) t comes = absurd comes
end_same (MachineCall.Request a owner locker) t comes = absurd comes
end_same _ t comes = refl

sends_none : (cs : List Outgoing) → IsKeptAtEnd (λ (t : MachineWithGoods). t.part.channels ≡ cs)
sends_none cs = record { closing = λ m t c k asks comes from ok h. end_same c t comes ∙ h; closed = λ t r holding origin h. h }

pub finished_same : (m : Machine) → (finished xcm m).channels ≡ channels_of m
finished_same m = (finished_kept (λ (t : MachineWithGoods). t.part.channels ≡ channels_of m) (sends_none (channels_of m)) m refl).kept

-- ---- admission changes a limit alone
sends-with_limit : (limit : WeightLimit) (l : Instruction-F Instruction) → sending (with_limit limit l) + sends_inside (inner (with_limit limit l)) ≡ sending l + sends_inside (inner l)
sends-with_limit limit (Instruction-F.BuyExecution fees old) = refl
sends-with_limit limit _ = refl

sends-limited : (limit : WeightLimit) (i : Instruction) → sends_one (limited limit i) ≡ sends_one i
sends-limited limit i =
    sends_one-is (limited limit i) ∙ ap (λ l. sending l + sends_inside (inner l)) (out-roll-Instruction (with_limit limit (out-Instruction i)))
    ∙ sends-with_limit limit (out-Instruction i) ∙ sym (sends_one-is i)

same_some : (x y : Instruction) → Some x ≡ Some y → x ≡ y
same_some x y e = cc

sends-set : (p : List Instruction) (k : ℕ) (i y : Instruction) → slice_get p k ≡ Some i → sends_one y ≡ sends_one i → sends (slice_set p k y) ≡ sends p
sends-set [] k i y at same = absurd (cc at)
sends-set (x ∷ xs) zero i y at same = ap (λ n. n + sends xs) (same ∙ ap sends_one (sym (same_some x i at)))
sends-set (x ∷ xs) (suc k) i y at same = ap (λ n. sends_one x + n) (sends-set xs k i y at same)

sends-limit_at : (limit : WeightLimit) (k : ℕ) (p : List Instruction) → sends (with_limit_at limit k p) ≡ sends p
sends-limit_at limit k p = elim (slice_get p k) as (λ o. slice_get p k ≡ o → sends (option_map_or (λ (i : Instruction). slice_set p k (limited limit i)) o p) ≡ sends p) [
  | None ↦ λ e. refl
  | Some i ↦ λ e. sends-set p k i (limited limit i) e (sends-limited limit i)
] refl

sends-left_by : (weight : Weight) (p : List Instruction) (barrier : Barrier) → sends (left_by weight p barrier) ≡ sends p
sends-left_by weight p Barrier.Paid = sends-limit_at (Limited weight) (purchase_index p) p
sends-left_by weight p _ = refl

sends-decided : (weight : Weight) (p : List Instruction) (o : Option Barrier) → sends (decided weight p o).1 ≡ sends p
sends-decided weight p None = refl
sends-decided weight p (Some barrier) = sends-left_by weight p barrier

abbrev let_in : Admitted → Result Admitted Outcome
let_in a = Ok a

same_ok : (a b : Admitted) → let_in a ≡ let_in b → a ≡ b
same_ok a b e = cc

by_barriers_sends : (weight : Weight) (d : Bool × List Instruction) (a : Admitted) → by_barriers weight d ≡ Ok a → sends a.program ≡ sends d.1
by_barriers_sends weight (true, p) a e = ap (λ (a : Admitted). sends a.program) (sym (same_ok _ a e))
by_barriers_sends weight (false, p) a e = absurd cc

module _ (rules : ChainRules) (origin : Location) (credit : Weight) (queries : List OpenQuery) (program : List Instruction) where
  by_limit_sends : (weight : Weight) (b : Bool) (a : Admitted) → by_limit rules origin credit queries program weight b ≡ Ok a → sends a.program ≡ sends program
  by_limit_sends weight true a e =
      by_barriers_sends weight (admission origin weight credit queries rules.barriers program) a e
      ∙ sends-decided weight program (find (allows origin weight credit queries program) rules.barriers)
  by_limit_sends weight false a e = absurd cc

  by_weight_sends : (o : Option Weight) (a : Admitted) → by_weight rules origin credit queries program o ≡ Ok a → sends a.program ≡ sends program
  by_weight_sends None a e = absurd cc
  by_weight_sends (Some weight) a e = by_limit_sends weight (is_within weight rules.limit) a e

module _ (orderly : IsOrderly xcm) (rules : ChainRules) (origin : Location) where
  executed_by_sends : (r : Result Admitted Outcome) (p : ChainPart) (n : ℕ) → ((a : Admitted) → r ≡ Ok a → sends a.program ≡ n) → ((a : Admitted) → r ≡ Ok a → (k : ℕ) → MuteAt (steps xcm k (first_stage rules origin a p))) → queued (executed_by rules origin r p).1.channels ≤ queued p.channels + n
  executed_by_sends (Err outcome) p n h mute = omega arith
  executed_by_sends (Ok a) p n h mute =
      let end = ap queued (finished_same (last_machine rules origin a p)) in
      let went = run_sends orderly (first_stage rules origin a p) (mute a refl) in
      let begins = begin_due Part.Program a.program (first_machine rules origin p) in
      let same = h a refl in
      omega (arith, end, went, begins, same)

  -- an execution of a message adds at most what its program may send
  pub executed_sends : (here : Site) (there : ChainId) (cargo : Cargo) (credit : Weight) (program : List Instruction) (p : ChainPart) → IsShape here there program cargo → queued (executed rules origin credit program p).1.channels ≤ queued p.channels + sends program
  executed_sends here there cargo credit program p shape =
      executed_by_sends (admitted rules origin credit p.queries program) p (sends program) (λ a e. by_weight_sends rules origin credit p.queries program (weight_of rules.weight program) a e)
      (λ a e k. shape_mute rules origin p here there a.program cargo (admitted_shape here there cargo rules origin credit p.queries program shape a e) k)

-- ---- a delivery
set_other : (w : World) (c d : ℕ) (m : Member) → (d ≡ c → ⊥) → slice_get (slice_set w c m) d ≡ slice_get w d
set_other [] c d m n = refl
set_other (x ∷ xs) zero zero m n = absurd (n refl)
set_other (x ∷ xs) zero (suc d) m n = refl
set_other (x ∷ xs) (suc c) zero m n = refl
set_other (x ∷ xs) (suc c) (suc d) m n = set_other xs c d m (λ e. n (ap suc e))

abbrev member_count : Member → ℕ
member_count m = queued m.part.channels

shorter_head : (c : Outgoing) (x : Waiting) (cs : List Outgoing) → first_of c.queue ≡ Some x → queued (without_oldest c ∷ cs) + message_count x ≤ queued (c ∷ cs)
shorter_head c x cs e =
    let a = sum_by-cons queue_count (without_oldest c) cs in
    let b = sum_by-cons queue_count c cs in
    let one = oldest_counts c.queue x e in
    omega (arith, a, b, one)
  where
    oldest_counts : (q : List Waiting) (x : Waiting) → first_of q ≡ Some x → sum_by message_count (drop 1 q) + message_count x ≤ sum_by message_count q
    oldest_counts [] x e = absurd cc
    oldest_counts (y ∷ more) x e =
        let c = sum_by-cons message_count y more in
        let same : message_count y ≡ message_count x = ap message_count (some_message y x e) in
        omega (arith, c, same)
      where
        some_message : (y x : Waiting) → Some y ≡ Some x → y ≡ x
        some_message y x e = cc

popped_less : (test : Outgoing → Bool) (cs : List Outgoing) (x : Waiting) → option_and_then oldest (find test cs) ≡ Some x → queued (change_first test without_oldest cs) + message_count x ≤ queued cs
popped_less test [] x e = absurd cc
popped_less test (c ∷ cs) x e =
    elim (test c) as (λ b. option_and_then oldest (if b then Some c else find test cs) ≡ Some x → queued (if b then without_oldest c ∷ cs else c ∷ change_first test without_oldest cs) + message_count x ≤ queued (c ∷ cs)) [
      | true ↦ λ h. shorter_head c x cs h
      | false ↦ λ h.
          let rest = popped_less test cs x h in
          let a = sum_by-cons queue_count c (change_first test without_oldest cs) in
          let b = sum_by-cons queue_count c cs in
          omega (arith, rest, a, b)
    ] e

begun_same : (sender : ChainId) (cargo : Cargo) (p : ChainPart) (e : Event) → (told (begun sender cargo p) e).channels ≡ p.channels
unfolding told
begun_same sender cargo p e = refl

abbrev begun_part : Member → Member → Waiting → ChainPart
begun_part s r x = told (begun (chain_of s) x.cargo r.part) (Event.Message (chain_of s) (chain_of r) x.number)

module _ (orderly : IsOrderly xcm) where
  pub delivered_less : (w : World) (i j : ℕ) (s r : Member) (x : Waiting) → slice_get w i ≡ Some s → slice_get w j ≡ Some r → (i ≡ j → ⊥) → option_and_then oldest (channel_to (chain_of r) s.part.channels) ≡ Some x → IsShaped s.part.site (chain_of r) x
      → 1 + deliveries_left (delivered w i j s r x).world ≤ deliveries_left w
  delivered_less w i j s r x is_s is_r apart waits shape =
      let a = run_for s r x in
      let s' = with_part (sender_after (chain_of r) a s.part) s in
      let r' = with_part (receiver_after s.part a) r in
      let there : slice_get (slice_set w i s') j ≡ Some r = set_other w i j s' (λ e. apart (sym e)) ∙ is_r in
      let one : deliveries_left (slice_set w i s') + member_count (get_or w i s) ≡ deliveries_left w + member_count s' = sum_by-set member_count w i s' s (slice_get_within w i s is_s) in
      let two : deliveries_left (slice_set (slice_set w i s') j r') + member_count (get_or (slice_set w i s') j r) ≡ deliveries_left (slice_set w i s') + member_count r' =
      sum_by-set member_count (slice_set w i s') j r' r (slice_get_within (slice_set w i s') j r there) in
      let at_i : member_count (get_or w i s) ≡ queued s.part.channels = ap member_count (get_or_from_slice_get w i s s is_s) in
      let at_j : member_count (get_or (slice_set w i s') j r) ≡ queued r.part.channels = ap member_count (get_or_from_slice_get (slice_set w i s') j r r there) in
      let less : member_count s' + message_count x ≤ queued s.part.channels = popped_less (leads_to (chain_of r)) s.part.channels x waits in
      let start : queued (begun_part s r x).channels ≡ queued r.part.channels = ap queued (begun_same (chain_of s) x.cargo r.part (Event.Message (chain_of s) (chain_of r) x.number)) in
      let went : member_count r' ≤ queued (begun_part s r x).channels + sends x.program = executed_sends orderly r.rules (name_at (chain_of r) (chain_of s)) s.part.site (chain_of r) x.cargo no_weight x.program (begun_part s r x) shape in
      let end : 1 + deliveries_left (slice_set (slice_set w i s') j r') ≤ deliveries_left w = omega (arith, one, two, at_i, at_j, less, went, start) in
      end
