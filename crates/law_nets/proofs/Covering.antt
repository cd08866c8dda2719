-- Lemmas: a run for an account of the chain itself is covered, wherever it is, and so is the run of a delivered message. A reader may skip this
-- file.
use Rattle.std.proofs.Common.{◌≡◌, ⊎_elim, ℕ, zero, suc, ◌+◌, true, List, [], ◌∷◌, Option, Some, None, refl, sym, ap, ◌∙◌, subst}
use Rattle.locations.specs.declared.relative.Location.{Location}
use Rattle.operands.specs.declared.error.XcmError.{XcmError}
use Rattle.asset_bundles.specs.declared.shipment.Shipment.{Shipment}
use Rattle.asset_bundles.specs.declared.shipment.Way.{Way}
use Rattle.asset_bundles.specs.Bundles.{held_assets}
use Rattle.weight_trader.specs.Purchases.{no_weight}
use Rattle.xcm_program.specs.declared.instruction.Instruction.{Instruction, out-Instruction, roll-Instruction, out-roll-Instruction}
use Rattle.xcm_program.specs.declared.instruction.Instruction.TheOpen.{Instruction-F}
use Rattle.channel_parts.specs.declared.cargo.Cargo.{Cargo}
use Rattle.channel_parts.specs.declared.cargo.Cargo.TheVariants as cargos
use Rattle.exec_base.specs.declared.event.Event.{Event}
use Rattle.exec_base.specs.declared.event.Part.{Part}
use Rattle.exec_base.specs.declared.event.Part.TheVariants as parts
use Rattle.exec_base.specs.Host.{receive_refusal, arrives_by, ByTeleport, fits_call}
use Rattle.exec_base.specs.Part.{ChainPart}
use Rattle.exec_base.specs.Sending.{led_by, away_program}
use Rattle.exec_rules.specs.Machine.{Machine}
use Rattle.exec_rules.specs.Run.{Stage, At, Ended, begin, to_appendix, to_handler, go_on, failed, handler_dropped, without_appendix, traced, by_answer, next, steps, machine_of, Reaches}
use Rattle.exec_rules.proofs.Lemmas.KeepingLaws.{begin_machine}
use Rattle.exec_rules.proofs.Lemmas.RunLaws.{steps_end}
use Rattle.exec_rules.specs.Instructions.{refused, done, refusal_of, xcm}
use Rattle.exec_rules.specs.declared.rules.ChainRules.{ChainRules}
use Rattle.exec_rules.specs.declared.admission.Admitted.{Admitted}
use Rattle.exec_rules.specs.Execution.{first_machine, first_stage}
use Rattle.network_steps.specs.Worlds as networks
use Rattle.network_steps.specs.Worlds.{chain_of}
use Rattle.network_steps.specs.Acting.{caller}
use Rattle.network_steps.specs.Steps.{Link, Step, worlds}
use Rattle.law_steps.specs.Shapes.{stands_alone, IsLedBy, IsAlone, IsLedByClaim, IsShape}
use Rattle.law_coherence.proofs.Lemmas.Histories.{safe_history}
use Rattle.law_runs.specs.Accepted.{IsCaller, IsOwnOrigin}
use Rattle.law_runs.proofs.Lemmas.Runs.{own_origin_done}
use Rattle.law_steps.proofs.Lemmas.Bounds.{agrees_now, checked_now}
use Rattle.law_steps.proofs.Lemmas.Firsts.{second}
use Rattle.law_steps.proofs.Lemmas.Insides.{all_at}
use Rattle.law_steps.specs.Reading.{Decodes}
use Rattle.law_steps.proofs.Lemmas.Reading.{not_sovereign}
use Rattle.law_steps.specs.Soundness.{LawsBelow}
use Rattle.law_steps.specs.Stepping.{ShapeLaws}
use Rattle.law_steps.proofs.Lemmas.Stepping.{Front, front_of, seen_at, worlds_reached, first_reached}
use Rattle.law_steps.specs.Views.{views}
use Rattle.law_steps.specs.Worlds.{IsFirst, IsDelivery, arrives}
use Rattle.law_steps.proofs.Lemmas.Worlds.{IsReached}
use Rattle.law_nets.specs.Paid.{sender_name, Admits}
use Rattle.law_nets.specs.Covered.{IsCovered, ExecutionsCovered}
use Rattle.law_nets.proofs.Messages.{teleport_taken}
use Rattle.law_nets.proofs.Refusals.{IsNoShortage, none_other, withdrawal_other, deposited_other, claiming_other, alone_other, taken_other, other_refusal}

-- ---- the origin stays one of the chain itself, or none
abbrev IsOwnOriginAt : Stage → Type 0
IsOwnOriginAt g = IsOwnOrigin (machine_of g).regs.origin

begin_own_origin : (part : Part) (program : List Instruction) (m : Machine) → IsOwnOrigin m.regs.origin → IsOwnOriginAt (begin part program m)
begin_own_origin part program m own_origin = subst (λ (z : Machine). IsOwnOrigin z.regs.origin) (sym (begin_machine part program m)) own_origin

to_appendix_own_origin : (m : Machine) → IsOwnOrigin m.regs.origin → IsOwnOriginAt (to_appendix m)
to_appendix_own_origin m own_origin = begin_own_origin parts.Appendix m.regs.appendix (record m { regs = without_appendix m.regs }) own_origin

to_handler_own_origin : (handler : List Instruction) (m : Machine) → IsOwnOrigin m.regs.origin → IsOwnOriginAt (to_handler handler m)
to_handler_own_origin [] m own_origin = to_appendix_own_origin m own_origin
to_handler_own_origin (x ∷ behind) m own_origin = own_origin

go_on_own_origin : (part : Part) (place : ℕ) (behind : List Instruction) (m : Machine) → IsOwnOrigin m.regs.origin → IsOwnOriginAt (go_on part place behind m)
go_on_own_origin part place [] m own_origin = to_appendix_own_origin (record m { regs = handler_dropped m.regs }) own_origin
go_on_own_origin part place (x ∷ behind) m own_origin = own_origin

answer_own_origin : (part : Part) (place : ℕ) (x : Instruction) (behind : List Instruction) (m : Machine) (o : Option XcmError) → IsOwnOrigin m.regs.origin → IsOwnOriginAt (by_answer xcm part place x behind m o)
answer_own_origin part place x behind m None own_origin = go_on_own_origin part (place + 1) behind (traced part place x None (xcm.done x m)) (own_origin_done (out-Instruction x) m own_origin)
answer_own_origin part place x behind m (Some e) own_origin = to_handler_own_origin m.regs.handler (record (traced part place x (Some e) m) { regs = failed place e behind m.regs }) own_origin

next_own_origin : (g : Stage) → IsOwnOriginAt g → IsOwnOriginAt (next xcm g)
next_own_origin (At part place x behind m) own_origin = answer_own_origin part place x behind m (refusal_of x m) own_origin
next_own_origin (Ended m) own_origin = own_origin

steps_own_origin : (n : ℕ) (g : Stage) → IsOwnOriginAt g → IsOwnOriginAt (steps xcm n g)
unfolding steps
steps_own_origin zero g own_origin = own_origin
steps_own_origin (suc n) g own_origin = steps_own_origin n (next xcm g) (next_own_origin g own_origin)

covered_at : (g : Stage) → IsOwnOriginAt g → IsCovered g
covered_at (At part place x behind m) own_origin = other_refusal (out-Instruction x) m own_origin
covered_at (Ended m) own_origin = tt

-- ---- from a stage on
abbrev AllCoveredFrom : Stage → Type 0
AllCoveredFrom g = (n : ℕ) → IsCovered (steps xcm n g)

from_own_origin : (g : Stage) → IsOwnOriginAt g → AllCoveredFrom g
from_own_origin g own_origin n = covered_at (steps xcm n g) (steps_own_origin n g own_origin)

from_end : (m : Machine) → AllCoveredFrom (Ended m)
from_end m n = subst IsCovered (sym (steps_end xcm n (Ended m) tt)) tt

from_next : (g : Stage) → IsCovered g → AllCoveredFrom (next xcm g) → AllCoveredFrom g
unfolding steps
from_next g here on zero = here
from_next g here on (suc n) = on n

to_appendix_from : (appendix : List Instruction) (m : Machine) → appendix ≡ [] → AllCoveredFrom (begin parts.Appendix appendix m)
to_appendix_from [] m none_left = from_end m
to_appendix_from (x ∷ behind) m none_left = absurd cc

-- ---- after ClearOrigin
own_origin_none : IsOwnOrigin None
own_origin_none l e = absurd cc

clear_from : (behind : List Instruction) (k : Machine) → AllCoveredFrom (At parts.Program (0 + 1) second behind k)
clear_from behind k =
    let clears : refusal_of second k ≡ None = ap (λ (l : Instruction-F Instruction). refused l k) (out-roll-Instruction Instruction-F.ClearOrigin) in
    let goes : next xcm (At parts.Program (0 + 1) second behind k) ≡ go_on parts.Program ((0 + 1) + 1) behind (traced parts.Program (0 + 1) second None (done Instruction-F.ClearOrigin k)) =
    ap (by_answer xcm parts.Program (0 + 1) second behind k) clears
    ∙ ap (λ (l : Instruction-F Instruction). go_on parts.Program ((0 + 1) + 1) behind (traced parts.Program (0 + 1) second None (done l k))) (out-roll-Instruction Instruction-F.ClearOrigin) in
    let there = go_on_own_origin parts.Program ((0 + 1) + 1) behind (traced parts.Program (0 + 1) second None (done Instruction-F.ClearOrigin k)) own_origin_none in
    from_next (At parts.Program (0 + 1) second behind k) (subst IsNoShortage (sym clears) none_other) (from_own_origin (next xcm (At parts.Program (0 + 1) second behind k)) (subst IsOwnOriginAt (sym goes) there))

-- ---- the run of a message
module _ (rules : ChainRules) (origin : Location) (p : ChainPart) (a : Admitted) where
  abbrev m0 : Machine
  m0 = first_machine rules origin p

  rolled : (l : Instruction-F Instruction) → IsNoShortage (refused l (first_machine rules origin p)) → IsNoShortage (refusal_of (roll-Instruction l) (first_machine rules origin p))
  rolled l other = subst (λ (f : Instruction-F Instruction). IsNoShortage (refused f (first_machine rules origin p))) (sym (out-roll-Instruction l)) other

  led_answer : (x : Instruction) (behind : List Instruction) (o : Option XcmError) → AllCoveredFrom (by_answer xcm parts.Program 0 x (second ∷ behind) (first_machine rules origin p) o)
  led_answer x behind None = clear_from behind (traced parts.Program 0 x None (xcm.done x m0))
  led_answer x behind (Some e) = from_end _

  led_from : (l : Instruction-F Instruction) (behind : List Instruction) → a.program ≡ led_by l behind → IsNoShortage (refused l (first_machine rules origin p)) → AllCoveredFrom (first_stage rules origin a p)
  led_from l behind is other =
      let x = roll-Instruction l in
      subst (λ (program : List Instruction). AllCoveredFrom (begin parts.Program program m0)) (sym is)
      (from_next (At parts.Program 0 x (second ∷ behind) m0) (rolled l other) (led_answer x behind (refusal_of x m0)))

  alone_answer : (x : Instruction) → (xcm.done x (first_machine rules origin p)).regs.appendix ≡ [] → (o : Option XcmError) → AllCoveredFrom (by_answer xcm parts.Program 0 x [] (first_machine rules origin p) o)
  alone_answer x no_appendix None = to_appendix_from (xcm.done x m0).regs.appendix _ no_appendix
  alone_answer x no_appendix (Some e) = from_end _

  alone_keeps : (l : Instruction-F Instruction) → stands_alone l ≡ true → (done l (first_machine rules origin p)).regs.appendix ≡ []
  alone_keeps (Instruction-F.QueryResponse query answer weight querier) kind = refl
  alone_keeps (Instruction-F.NoteUnlockable asset owner) kind = refl
  alone_keeps (Instruction-F.UnlockAsset asset target) kind = refl
  alone_keeps _ kind = absurd cc

  alone_from : IsAlone a.program → AllCoveredFrom (first_stage rules origin a p)
  alone_from s =
      let l : Instruction-F Instruction = s.what in
      let x = roll-Instruction l in
      let no_appendix : (xcm.done x m0).regs.appendix ≡ [] = ap (λ (f : Instruction-F Instruction). (done f m0).regs.appendix) (out-roll-Instruction l) ∙ alone_keeps l s.kind in
      subst (λ (program : List Instruction). AllCoveredFrom (begin parts.Program program m0)) (sym s.is)
      (from_next (At parts.Program 0 x [] m0) (rolled l (alone_other l m0 s.kind)) (alone_answer x no_appendix (refusal_of x m0)))

-- ---- a delivery
module _ (laws : LawsBelow) (shapes : ShapeLaws) (decodes : Decodes) (order : List Link) (w : networks.World) (steps : List Step) (f : IsFirst w) (d : IsDelivery order w steps) where
  reached : IsReached (views w) d.world
  reached = all_at (IsReached (views w)) (worlds order w steps) d.at d.world (worlds_reached laws shapes decodes (views w) f.genesis order w steps (first_reached w f)) d.reached

  front : Front d.from d.to d.sender d.receiver d.message
  front = front_of laws shapes decodes (views w) f.genesis d.world reached d.from d.to d.sender d.receiver d.channel d.message d.sends d.receives d.leads d.oldest

  abbrev q0 : ChainPart
  q0 = arrives d.sender d.receiver d.message

  abbrev CoveredFor : Admitted → Type 0
  CoveredFor a = AllCoveredFrom (first_stage d.receiver.rules (sender_name d) a (arrives d.sender d.receiver d.message))

  shape_of : (a : Admitted) → Admits d a → IsShape d.sender.part.site (chain_of d.receiver) a.program d.message.cargo
  shape_of a ok = shapes.admits d.sender.part.site (chain_of d.receiver) d.message.program d.message.cargo d.receiver.rules (sender_name d) no_weight (arrives d.sender d.receiver d.message).queries a front.shape ok

  teleport_from : (a : Admitted) → Admits d a → fits_call ByTeleport d.message.cargo ≡ true → CoveredFor a
  teleport_from a ok kind =
      let s = teleport_taken (views d.world) (agrees_now (views w) f.genesis (views d.world) reached.history) ((safe_history (views w) (views d.world) f.genesis.agrees reached.history).backed f.genesis.backed)
      (checked_now (views w) f.genesis (views d.world) reached.history)
      d.from d.to d.sender.part d.receiver.part (seen_at d.world d.from d.sender d.sends) (seen_at d.world d.to d.receiver d.receives) front.apart (reached.parts d.to d.receiver d.receives).listed
      d.receiver.rules d.message.cargo d.message.program (Event.Message (chain_of d.sender) (chain_of d.receiver) d.message.number) front.first front.name (sender_name d) front.there front.back front.runs front.trusted a ok kind (shape_of a ok) in
      led_from d.receiver.rules (sender_name d) q0 a (Instruction-F.ReceiveTeleportedAsset s.list) s.behind s.leads
      (taken_other (first_machine d.receiver.rules (sender_name d) q0) s.list (λ who e. let same : sender_name d ≡ who = cc in subst (λ (l : Location). receive_refusal q0 s.list l true ≡ None) same s.taken))

  by_way : (a : Admitted) → Admits d a → (shipment : Shipment) (way : Way) → shipment.way ≡ way → d.message.cargo ≡ cargos.Away shipment → IsLedBy d.sender.part.site (chain_of d.receiver) (held_assets shipment.units) (away_program way) a.program → CoveredFor a
  by_way a ok shipment Way.Withdrawal by carries s =
      led_from d.receiver.rules (sender_name d) q0 a (Instruction-F.WithdrawAsset s.list) s.behind s.is (withdrawal_other (first_machine d.receiver.rules (sender_name d) q0) s.list)
  by_way a ok shipment Way.Teleport by carries s = teleport_from a ok (ap (fits_call ByTeleport) carries ∙ ap (λ (way : Way). arrives_by way ByTeleport) by)

  by_cargo : (a : Admitted) → Admits d a → (c : Cargo) → d.message.cargo ≡ c → IsShape d.sender.part.site (chain_of d.receiver) a.program c → CoveredFor a
  by_cargo a ok cargos.Nothing carries shape =
      ⊎_elim (λ (s : IsAlone a.program). alone_from d.receiver.rules (sender_name d) q0 a s)
      (λ (s : IsLedByClaim a.program).
      led_from d.receiver.rules (sender_name d) q0 a (Instruction-F.ClaimAsset s.list s.ticket) s.behind s.is (claiming_other (first_machine d.receiver.rules (sender_name d) q0) s.list s.ticket)) shape
  by_cargo a ok (cargos.Deposit list) carries s =
      led_from d.receiver.rules (sender_name d) q0 a (Instruction-F.ReserveAssetDeposited s.list) s.behind s.is (deposited_other (first_machine d.receiver.rules (sender_name d) q0) s.list)
  by_cargo a ok (cargos.Away shipment) carries s = by_way a ok shipment shipment.way refl carries s

  pub delivery_covered : (a : Admitted) (g : Stage) → Admits d a → Reaches xcm (first_stage d.receiver.rules (sender_name d) a (arrives d.sender d.receiver d.message)) g → IsCovered g
  delivery_covered a g ok reach = subst IsCovered reach.1 (by_cargo a ok d.message.cargo refl (shape_of a ok) reach.0)

-- ---- a local execution
pub executions_covered : (order : List Link) (w : networks.World) (steps : List Step) → ExecutionsCovered order w steps
executions_covered order w steps account program x a g ok reach =
    let is_caller : IsCaller (caller account) = record { account = account; rest = []; is = refl; own = not_sovereign account x.own } in
    let own_origin : IsOwnOrigin (Some (caller account)) = λ l e. let same : caller account ≡ l = cc in subst IsCaller same is_caller in
    subst IsCovered reach.1 (from_own_origin _ (begin_own_origin parts.Program a.program _ own_origin) reach.0)
