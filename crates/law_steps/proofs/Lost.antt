-- A teleport is lost just where the first instruction of its message isn't done.
use Rattle.std.proofs.Common.{◌≡◌, ℕ, Bool, true, false, List, ◌∷◌, Option, Some, None, Result, Ok, Err, if◌then◌else◌, refl, sym, ap, ◌∙◌, subst}
use Rattle.locations.specs.declared.relative.Location.{Location}
use Rattle.operands.specs.declared.error.XcmError.{XcmError}
use Rattle.operands.specs.declared.weight.Weight.{Weight}
use Rattle.weight_trader.specs.Purchases.{no_weight}
use Rattle.chain_ids.specs.declared.chain.ChainId.{ChainId}
use Rattle.trust_tables.specs.declared.chains.Site.{Site}
use Rattle.amounts.specs.Amounts.{empty}
use Rattle.asset_lists.specs.declared.units.Asset.{Asset}
use Rattle.asset_bundles.specs.declared.shipment.Way.{Way}
use Rattle.asset_bundles.specs.declared.shipment.Shipment.{Shipment}
use Rattle.asset_bundles.specs.Bundles.{Bundle, held_assets}
use Rattle.channel_parts.specs.declared.cargo.Cargo.TheVariants.{Nothing, Away}
use Rattle.channel_parts.specs.Channels.{Waiting}
use Rattle.xcm_program.specs.declared.instruction.Instruction.{Instruction, roll-Instruction, out-roll-Instruction}
use Rattle.xcm_program.specs.declared.instruction.Instruction.TheOpen.{Instruction-F}
use Rattle.xcm_program.specs.declared.outcome.Outcome.{Outcome}
use Rattle.exec_base.specs.declared.event.Event.{Event}
use Rattle.exec_base.specs.declared.event.Part.{Part}
use Rattle.exec_base.specs.declared.event.Part.TheVariants as parts
use Rattle.exec_base.specs.Part.{ChainPart, DeliveredCargo}
use Rattle.exec_base.specs.Sending.{away_program}
use Rattle.exec_base.specs.Host.{Arrival, ByWithdrawal, ByTeleport, arrives_by, arrival_of, is_cargo, cargo_after, withdrawn, received, bundles_joined, told, booked}
use Rattle.exec_rules.specs.Machine.{Machine, machine, IsOrderly}
use Rattle.exec_rules.specs.Run.{Stage, At, Ended, begin, run, next, by_answer, traced, machine_of, still_to_run, failed, without_appendix, begins_well, is_accepted, Reaches}
use Rattle.exec_rules.specs.Outcome.{finished}
use Rattle.exec_rules.proofs.Lemmas.RunLaws.{reaches_here, reaches_next, run_reached}
use Rattle.exec_rules.specs.Instructions.{done, refusal_of, xcm}
use Rattle.exec_rules.specs.declared.rules.ChainRules.{ChainRules}
use Rattle.exec_rules.specs.declared.admission.Admitted.{Admitted}
use Rattle.exec_rules.specs.Admission.{admitted}
use Rattle.exec_rules.specs.Execution.{started, first_machine, first_stage, last_machine, executed_by, executed}
use Rattle.exec_rules.specs.HostCalls.{MachineWithGoods, MachineCall, after}
use Rattle.exec_rules.proofs.Lemmas.Reasons.{ComesAtEnd}
use Rattle.exec_rules.specs.Kept.{IsKeptByCalls}
use Rattle.exec_rules.proofs.Lemmas.Kept.{IsKeptAtEnd}
use Rattle.exec_rules.proofs.Lemmas.KeptLaws.{any_kind, finished_kept, keeps_reached}
use Rattle.network_steps.specs.Acting.{begun, lost_by, lost_of}
use Rattle.network_steps.specs.Worlds.{Member, chain_of}
use Rattle.network_steps.specs.Steps.{name_at, run_for}
use Rattle.law_steps.specs.Shapes.{named_there, IsLedBy, IsShape, IsShaped}
use Rattle.law_steps.specs.Lost.{is_first_done}
use Rattle.law_steps.proofs.Admitting.{admitted_shape}
use Rattle.law_steps.proofs.Matching.{matched}

-- ---- a cargo that is gone stays so
gone_by : (b : Bool) (old : DeliveredCargo) → old.cargo ≡ Nothing → (if b then (record { sender = old.sender; cargo = Nothing }) else old).cargo ≡ Nothing
gone_by true old h = refl
gone_by false old h = h

gone_after : (p : ChainPart) (arrival : Arrival) (list : List Asset) → p.cargo.cargo ≡ Nothing → (cargo_after p arrival list).cargo ≡ Nothing
unfolding cargo_after
gone_after p arrival list h = gone_by (is_cargo p arrival list) p.cargo h

call_gone : (c : MachineCall) (t : MachineWithGoods) → t.part.cargo.cargo ≡ Nothing → (after c t).part.cargo.cargo ≡ Nothing
unfolding withdrawn received
call_gone (MachineCall.Withdraw list who) t h = gone_after t.part ByWithdrawal list h
call_gone (MachineCall.Receive list from teleport) t h = gone_after t.part (arrival_of teleport) list h
call_gone _ t h = h

abbrev IsGone : MachineWithGoods → Type 0
IsGone t = t.part.cargo.cargo ≡ Nothing

gone_is_kept : IsKeptByCalls any_kind IsGone
gone_is_kept = record { refunds = tt; called = λ x l is q moment m t c k asks from ok h. call_gone c t h; turned = λ t r turns h. h }

-- ---- the end of a run changes no cargo
call_stays : (c : MachineCall) (t : MachineWithGoods) → ComesAtEnd c → (after c t).part.cargo ≡ t.part.cargo
call_stays (MachineCall.Withdraw list who) t early = absurd early
call_stays (MachineCall.Receive list from teleport) t early = absurd early
call_stays _ t early = refl

abbrev HasCargo : DeliveredCargo → MachineWithGoods → Type 0
HasCargo cargo t = t.part.cargo ≡ cargo

cargo_at_end : (cargo : DeliveredCargo) → IsKeptAtEnd (HasCargo cargo)
cargo_at_end cargo = record { closing = λ m t c k asks end from ok h. call_stays c t end ∙ h; closed = λ t r holding origin h. h }

cargo_finished : (m : Machine) → (finished xcm m).cargo ≡ m.part.cargo
cargo_finished m = (finished_kept (HasCargo m.part.cargo) (cargo_at_end m.part.cargo) m refl).kept

told_cargo : (part : Part) (place : ℕ) (x : Instruction) (error : Option XcmError) (m : Machine) → (traced part place x error m).part.cargo ≡ m.part.cargo
unfolding told
told_cargo part place x error m = refl

joined_cargo : (p : ChainPart) (a b : Bundle) → (bundles_joined p a b).cargo ≡ p.cargo
unfolding bundles_joined booked
joined_cargo p a b = refl

taken_by : (b : Bool) (old : DeliveredCargo) → b ≡ true → (if b then (record { sender = old.sender; cargo = Nothing }) else old).cargo ≡ Nothing
taken_by true old h = refl
taken_by false old h = absurd cc

received_cargo : (p : ChainPart) (list : List Asset) → is_cargo p ByTeleport list ≡ true → (received p list true).cargo.cargo ≡ Nothing
unfolding received cargo_after
received_cargo p list found = taken_by (is_cargo p ByTeleport list) p.cargo found

-- ---- the run of a message that begins with the receipt of its teleport
abbrev call : List Asset → Instruction
call list = roll-Instruction (Instruction-F.ReceiveTeleportedAsset list)

abbrev rest : List Instruction → List Instruction
rest behind = roll-Instruction Instruction-F.ClearOrigin ∷ behind

module _ (orderly : IsOrderly xcm) (same : (g h : Stage) → Reaches xcm g h → run xcm g ≡ run xcm h) (rules : ChainRules) (origin : Location) (p : ChainPart) (a : Admitted) (list : List Asset) (behind : List Instruction)
    (is : a.program ≡ call list ∷ rest behind) where
  begins : first_stage rules origin a p ≡ At parts.Program 0 (call list) (rest behind) (first_machine rules origin p)
  begins = ap (λ (program : List Instruction). begin parts.Program program (first_machine rules origin p)) is

  answered : (o : Option XcmError) → refusal_of (call list) (first_machine rules origin p) ≡ o
      → next xcm (first_stage rules origin a p) ≡ by_answer xcm parts.Program 0 (call list) (rest behind) (first_machine rules origin p) o
  answered o e = ap (next xcm) begins ∙ ap (by_answer xcm parts.Program 0 (call list) (rest behind) (first_machine rules origin p)) e

  -- the first instruction is refused: the run is over, and the cargo as it was
  left_refused : (e : XcmError) → refusal_of (call list) (first_machine rules origin p) ≡ Some e → (finished xcm (last_machine rules origin a p)).cargo ≡ p.cargo
  left_refused e why =
      let g = first_stage rules origin a p in
      let k : Machine = machine (without_appendix (failed 0 e (rest behind) (started rules origin))) (traced parts.Program 0 (call list) (Some e) (first_machine rules origin p)).part in
      let ends : next xcm g ≡ Ended k = answered (Some e) why in
      let over : run xcm g ≡ Ended k = run_reached xcm orderly g k (subst (Reaches xcm g) ends (reaches_next xcm g g (reaches_here xcm g))) in
      cargo_finished (last_machine rules origin a p) ∙ ap (λ (s : Stage). (machine_of s).part.cargo) over ∙ told_cargo parts.Program 0 (call list) (Some e) (first_machine rules origin p)

  -- it is done: the cargo is gone
  gone_behind : is_cargo p ByTeleport list ≡ true → (machine_of (by_answer xcm parts.Program 0 (call list) (rest behind) (first_machine rules origin p) None)).part.cargo.cargo ≡ Nothing
  gone_behind found =
      ap (λ (t : DeliveredCargo). t.cargo) (told_cargo parts.Program 0 (call list) None (xcm.done (call list) (first_machine rules origin p)))
      ∙ ap (λ (l : Instruction-F Instruction). (done l (first_machine rules origin p)).part.cargo.cargo) (out-roll-Instruction (Instruction-F.ReceiveTeleportedAsset list))
      ∙ ap (λ (t : DeliveredCargo). t.cargo) (joined_cargo (received p list true) empty _)
      ∙ received_cargo p list found

  gone_at_end : refusal_of (call list) (first_machine rules origin p) ≡ None → is_cargo p ByTeleport list ≡ true → (finished xcm (last_machine rules origin a p)).cargo.cargo ≡ Nothing
  gone_at_end free found =
      let g = first_stage rules origin a p in
      let h = by_answer xcm parts.Program 0 (call list) (rest behind) (first_machine rules origin p) None in
      let reach : Reaches xcm g h = subst (Reaches xcm g) (answered None free) (reaches_next xcm g g (reaches_here xcm g)) in
      let gone : (machine_of (run xcm h)).part.cargo.cargo ≡ Nothing = keeps_reached IsGone gone_is_kept h (run xcm h) (still_to_run h, refl) (gone_behind found) in
      ap (λ (t : DeliveredCargo). t.cargo) (cargo_finished (last_machine rules origin a p)) ∙ ap (λ (s : Stage). (machine_of s).part.cargo.cargo) (same g h reach) ∙ gone

  abbrev flag : Bool
  flag = begins_well xcm a.program (first_machine rules origin p)

  flag_is : flag ≡ is_accepted (refusal_of (call list) (first_machine rules origin p))
  flag_is = ap (λ (program : List Instruction). begins_well xcm program (first_machine rules origin p)) is

  -- what is lost of the teleport
  lost_admitted : (shipment : Shipment) → p.cargo.cargo ≡ Away shipment → shipment.way ≡ Way.Teleport → is_cargo p ByTeleport list ≡ true
      → lost_of (finished xcm (last_machine rules origin a p)).cargo.cargo ≡ (if flag then empty else shipment.units)
  lost_admitted shipment carried way found =
      by_refusal (refusal_of (call list) (first_machine rules origin p)) refl
    where
      by_refusal : (o : Option XcmError) → refusal_of (call list) (first_machine rules origin p) ≡ o
          → lost_of (finished xcm (last_machine rules origin a p)).cargo.cargo ≡ (if flag then empty else shipment.units)
      by_refusal None free = ap lost_of (gone_at_end free found) ∙ sym (ap (λ b. if b then empty else shipment.units) (flag_is ∙ ap is_accepted free))
      by_refusal (Some e) why =
          ap (λ (t : DeliveredCargo). lost_of t.cargo) (left_refused e why) ∙ ap lost_of carried ∙ ap (λ w. lost_by w shipment.units) way
          ∙ sym (ap (λ b. if b then empty else shipment.units) (flag_is ∙ ap is_accepted why))

-- ---- admitted or not
module _ (orderly : IsOrderly xcm) (same : (g h : Stage) → Reaches xcm g h → run xcm g ≡ run xcm h) (here : Site) (there : ChainId) (rules : ChainRules) (origin : Location) (credit : Weight) (program : List Instruction) (p : ChainPart) (shipment : Shipment)
    (shape : IsShape here there program (Away shipment)) (carried : p.cargo.cargo ≡ Away shipment) (way : shipment.way ≡ Way.Teleport)
    (found : (list : List Asset) → named_there here there (held_assets shipment.units) ≡ Some list → is_cargo p ByTeleport list ≡ true) where
  by_admission : (r : Result Admitted Outcome) → admitted rules origin credit p.queries program ≡ r
      → lost_of (executed_by rules origin r p).1.cargo.cargo ≡ (if (executed_by rules origin r p).0.1 then empty else shipment.units)
  by_admission (Err outcome) e = ap lost_of carried ∙ ap (λ w. lost_by w shipment.units) way
  by_admission (Ok a) e =
      let still : IsLedBy here there (held_assets shipment.units) (away_program shipment.way) a.program = admitted_shape here there (Away shipment) rules origin credit p.queries program shape a e in
      lost_admitted orderly same rules origin p a still.list still.behind (still.is ∙ ap (λ w. away_program w still.list still.behind) way) shipment carried way (found still.list still.named)

  lost_executed : lost_of (executed rules origin credit program p).1.cargo.cargo ≡ (if (executed rules origin credit program p).0.1 then empty else shipment.units)
  lost_executed = by_admission (admitted rules origin credit p.queries program) refl

-- ---- of a delivery
told_there : (p : ChainPart) (e : Event) → ((told p e).cargo ≡ p.cargo) × ((told p e).site ≡ p.site)
unfolding told
told_there p e = (refl, refl)

pub lost_of_delivery : IsOrderly xcm → ((g h : Stage) → Reaches xcm g h → run xcm g ≡ run xcm h) → (sender receiver : Member) (x : Waiting) (shipment : Shipment) → IsShaped sender.part.site (chain_of receiver) x
    → receiver.part.site.network ≡ sender.part.site.network → x.cargo ≡ Away shipment → shipment.way ≡ Way.Teleport
    → lost_of (run_for sender receiver x).left ≡ (if is_first_done sender receiver x then empty else shipment.units)
lost_of_delivery orderly same sender receiver x shipment shaped network is way =
    let event = Event.Message (chain_of sender) (chain_of receiver) x.number in
    let there = told_there (begun (chain_of sender) x.cargo receiver.part) event in
    let p = told (begun (chain_of sender) x.cargo receiver.part) event in
    let carried : p.cargo.cargo ≡ Away shipment = ap (λ (t : DeliveredCargo). t.cargo) there.0 ∙ is in
    lost_executed orderly same sender.part.site (chain_of receiver) receiver.rules (name_at (chain_of receiver) (chain_of sender)) no_weight x.program p shipment
    (subst (IsShape sender.part.site (chain_of receiver) x.program) is shaped) carried way
    (λ list named. matched sender.part.site p (Away shipment) ByTeleport list (ap (λ (s : Site). s.network) there.1 ∙ network) (ap (λ (t : DeliveredCargo). t.sender) there.0) carried (ap (λ w. arrives_by w ByTeleport) way)
    (ap (λ (s : Site). named_there sender.part.site s.chain (held_assets shipment.units)) there.1 ∙ named))
