-- A run doesn't depend on a frame, where the frame's channel isn't empty before it and no send on it answers Transport.
use Rattle.std.proofs.Common.{◌≡◌, ℕ, zero, suc, ◌+◌, Bool, true, false, List, [], ◌∷◌, Option, Some, None, Result, Ok, Err, refl, sym, ap, ◌∙◌}
use Rattle.std.specs.Prelude.{if◌then◌else◌, nat_eq, length}
use Rattle.std.specs.Option.{option_and_then, option_map}
use Rattle.amounts.specs.Amounts.{rows}
use Rattle.chain_ids.specs.declared.chain.ChainId.{ChainId}
use Rattle.locations.specs.declared.relative.Location.{Location}
use Rattle.operands.specs.declared.error.XcmError.{XcmError}
use Rattle.operands.specs.declared.weight.Weight.{Weight}
use Rattle.asset_bundles.specs.Bundles.{Bundle}
use Rattle.xcm_program.specs.declared.instruction.Instruction.{Instruction, out-Instruction, out-roll-Instruction}
use Rattle.xcm_program.specs.declared.instruction.Instruction.TheOpen.{Instruction-F}
use Rattle.xcm_program.specs.declared.outcome.Outcome.{Outcome}
use Rattle.channel_parts.specs.declared.cargo.Cargo.{Cargo}
use Rattle.channel_parts.specs.Channels.{Waiting, Outgoing}
use Rattle.chain_queues.specs.Queues.{channel_to, oldest, oldest_to}
use Rattle.exec_base.specs.declared.event.Part.{Part}
use Rattle.exec_base.specs.declared.event.Part.TheVariants.{Program, Appendix}
use Rattle.exec_base.specs.declared.registers.Registers.{Registers}
use Rattle.exec_base.specs.Part.{ChainPart}
use Rattle.exec_base.specs.Host.{settled, trapped}
use Rattle.exec_rules.specs.Machine.{Machine, machine}
use Rattle.exec_rules.specs.Run.{Stage, At, Ended, begin, to_appendix, to_handler, go_on, failed, without_appendix, handler_dropped, traced, by_answer, next, steps, machine_of, left_after, run, still_to_run}
use Rattle.exec_rules.specs.Outcome.{outcome_of, owner_of, end_event, end_told, rest_trapped, refund_surplus, refunded_last, finished}
use Rattle.exec_rules.specs.Instructions.{refusal_of, xcm}
use Rattle.exec_rules.specs.declared.rules.ChainRules.{ChainRules}
use Rattle.exec_rules.specs.declared.admission.Admitted.{Admitted}
use Rattle.exec_rules.specs.Admission.{admitted}
use Rattle.exec_rules.specs.Execution.{first_machine, first_stage, last_machine, executed_by}
use Rattle.network_steps.specs.Acting.{Acted, acted, ended}
use Rattle.law_independence.specs.Beside.{IsNotEmpty, RanBeside}
use Rattle.law_independence.specs.Freedom.{sends_on, IsCalmAt, RunsCalmly}
use Rattle.law_independence.proofs.Channels.{found_to, IsThere, found_sent}
use Rattle.law_independence.proofs.Calls.{framed, told_framed, trapped_framed, settled_framed}
use Rattle.law_independence.proofs.Refusals.{framed_machine}
use Rattle.law_independence.proofs.Effects.{refused_framed, done_framed}
use Rattle.law_independence.proofs.Keeping.{View, with_sent, next_kept, steps_kept, begin_kept, acted_kept}

-- ---- what a delivery finds on a channel stays
module _ (to : ChainId) where
  abbrev Finds : View → Type 0
  Finds v = IsThere to v.channels

  finds_kept : (v : View) (dest : Location) (program : List Instruction) (cargo : Cargo) → Finds v → Finds (with_sent dest program cargo v)
  finds_kept v dest program cargo there = λ e. there (sym (found_sent _ to program cargo v.channels there) ∙ e)

module _ (to : ChainId) (lost : Bundle) where
  abbrev frame : Machine → Machine
  frame m = framed_machine to lost m

  abbrev framed_stage : Stage → Stage
  framed_stage (At part place x behind m) = At part place x behind (frame m)
  framed_stage (Ended m) = Ended (frame m)

  abbrev There : Stage → Type 0
  There g = IsThere to (machine_of g).part.channels

  -- ---- one instruction
  begin_framed : (part : Part) (program : List Instruction) (m : Machine) → begin part program (frame m) ≡ framed_stage (begin part program m)
  begin_framed part [] m = refl
  begin_framed part (x ∷ behind) m = refl

  to_appendix_framed : (m : Machine) → to_appendix (frame m) ≡ framed_stage (to_appendix m)
  to_appendix_framed m = begin_framed Appendix m.regs.appendix (record m { regs = without_appendix m.regs })

  to_handler_framed : (handler : List Instruction) (m : Machine) → to_handler handler (frame m) ≡ framed_stage (to_handler handler m)
  to_handler_framed [] m = to_appendix_framed m
  to_handler_framed (x ∷ behind) m = refl

  go_on_framed : (part : Part) (place : ℕ) (behind : List Instruction) (m : Machine) → go_on part place behind (frame m) ≡ framed_stage (go_on part place behind m)
  go_on_framed part place [] m = to_appendix_framed (record m { regs = handler_dropped m.regs })
  go_on_framed part place (x ∷ behind) m = refl

  traced_framed : (part : Part) (place : ℕ) (x : Instruction) (o : Option XcmError) (m : Machine) → traced part place x o (frame m) ≡ frame (traced part place x o m)
  traced_framed part place x o m = ap (machine m.regs) (told_framed to lost m.part _)

  by_answer_framed : (part : Part) (place : ℕ) (x : Instruction) (behind : List Instruction) (m : Machine) (o : Option XcmError) → IsThere to m.part.channels
      → by_answer xcm part place x behind (frame m) o ≡ framed_stage (by_answer xcm part place x behind m o)
  by_answer_framed part place x behind m None there =
      ap (λ (d : Machine). go_on part (place + 1) behind (traced part place x None d)) (done_framed to lost (out-Instruction x) m there)
      ∙ ap (go_on part (place + 1) behind) (traced_framed part place x None (xcm.done x m))
      ∙ go_on_framed part (place + 1) behind (traced part place x None (xcm.done x m))
  by_answer_framed part place x behind m (Some e) there =
      ap (λ (d : Machine). to_handler m.regs.handler (record d { regs = failed place e behind m.regs })) (traced_framed part place x (Some e) m)
      ∙ to_handler_framed m.regs.handler (record (traced part place x (Some e) m) { regs = failed place e behind m.regs })

  next_framed : (g : Stage) → There g → IsCalmAt to g → next xcm (framed_stage g) ≡ framed_stage (next xcm g)
  next_framed (At part place x behind m) there calm =
      ap (by_answer xcm part place x behind (frame m)) (refused_framed to lost (out-Instruction x) m there calm) ∙ by_answer_framed part place x behind m (refusal_of x m) there
  next_framed (Ended m) there calm = refl

  -- ---- a run
  steps_framed : (n : ℕ) (g : Stage) → There g → ((k : ℕ) → IsCalmAt to (steps xcm k g)) → steps xcm n (framed_stage g) ≡ framed_stage (steps xcm n g)
  unfolding steps
  steps_framed zero g there calm = refl
  steps_framed (suc n) g there calm =
      ap (steps xcm n) (next_framed g there (calm 0)) ∙ steps_framed n (next xcm g) (next_kept (Finds to) (finds_kept to) g there) (λ k. calm (suc k))

  same_left : (g : Stage) → still_to_run (framed_stage g) ≡ still_to_run g
  same_left (At part place x behind m) = refl
  same_left (Ended m) = refl

  run_framed : (g : Stage) → There g → ((k : ℕ) → IsCalmAt to (steps xcm k g)) → run xcm (framed_stage g) ≡ framed_stage (run xcm g)
  run_framed g there calm = ap (λ n. steps xcm n (framed_stage g)) (same_left g) ∙ steps_framed (still_to_run g) g there calm

  machine_framed : (g : Stage) → machine_of (framed_stage g) ≡ frame (machine_of g)
  machine_framed (At part place x behind m) = refl
  machine_framed (Ended m) = refl

  -- ---- its end
  sends_nothing : (here : ChainId) → sends_on here to (out-Instruction refund_surplus) ≡ false
  sends_nothing here = ap (sends_on here to) (out-roll-Instruction Instruction-F.RefundSurplus)

  not_both : (b : Bool) → b ≡ false → b ≡ true → ⊥
  not_both true h k = absurd cc
  not_both false h k = absurd cc

  last_by : (m : Machine) (o : Option XcmError) → IsThere to m.part.channels → left_after xcm refund_surplus (frame m) o ≡ frame (left_after xcm refund_surplus m o)
  last_by m None there = done_framed to lost (out-Instruction refund_surplus) m there
  last_by m (Some e) there = refl

  last_framed : (m : Machine) → IsThere to m.part.channels → refunded_last xcm (frame m) ≡ frame (refunded_last xcm m)
  last_framed m there =
      ap (left_after xcm refund_surplus (frame m)) (refused_framed to lost (out-Instruction refund_surplus) m there (λ on e. not_both (sends_on m.part.site.chain to (out-Instruction refund_surplus)) (sends_nothing m.part.site.chain) on))
      ∙ last_by m (refusal_of refund_surplus m) there

  rest_by : (b : Bool) (r : Registers) (p : ChainPart) → (if b then framed to lost p else trapped (framed to lost p) r.holding (owner_of r)) ≡ framed to lost (if b then p else trapped p r.holding (owner_of r))
  rest_by true r p = refl
  rest_by false r p = trapped_framed to lost p r.holding (owner_of r)

  finished_framed : (m : Machine) → IsThere to m.part.channels → finished xcm (frame m) ≡ framed to lost (finished xcm m)
  finished_framed m there =
      let last = refunded_last xcm m in
      ap (λ (k : Machine). rest_trapped k.regs (settled (end_told k))) (last_framed m there)
      ∙ ap (λ (p : ChainPart). rest_trapped last.regs (settled p)) (told_framed to lost last.part (end_event last.regs))
      ∙ ap (rest_trapped last.regs) (settled_framed to lost (end_told last))
      ∙ rest_by (nat_eq (length (rows last.regs.holding)) 0) last.regs (settled (end_told last))

  -- ---- an execution
  abbrev acted_from : (Outcome × Bool) × ChainPart → Acted
  acted_from e = record { outcome = e.0.0; left = e.1.cargo.cargo; part = ended e.1 }

  module _ (rules : ChainRules) (origin : Location) where
    last_machine_framed : (a : Admitted) (p : ChainPart) → IsThere to p.channels → ((k : ℕ) → IsCalmAt to (steps xcm k (first_stage rules origin a p))) → last_machine rules origin a (framed to lost p) ≡ frame (last_machine rules origin a p)
    last_machine_framed a p there calm =
        ap (λ g. machine_of (run xcm g)) (begin_framed Program a.program (first_machine rules origin p))
        ∙ ap machine_of (run_framed (first_stage rules origin a p) (begin_kept (Finds to) (finds_kept to) Program a.program (first_machine rules origin p) there) calm)
        ∙ machine_framed (run xcm (first_stage rules origin a p))

    there_last : (a : Admitted) (p : ChainPart) → IsThere to p.channels → IsThere to (last_machine rules origin a p).part.channels
    there_last a p there =
        steps_kept (Finds to) (finds_kept to) (still_to_run (first_stage rules origin a p)) (first_stage rules origin a p) (begin_kept (Finds to) (finds_kept to) Program a.program (first_machine rules origin p) there)

    acted_by : (r : Result Admitted Outcome) (p : ChainPart) → IsThere to p.channels → ((a : Admitted) (k : ℕ) → r ≡ Ok a → IsCalmAt to (steps xcm k (first_stage rules origin a p)))
        → RanBeside to lost (acted_from (executed_by rules origin r p)) (acted_from (executed_by rules origin r (framed to lost p)))
    acted_by (Err outcome) p there calm = record { outcome = refl; left = refl; part = refl }
    acted_by (Ok a) p there calm =
        let same = last_machine_framed a p there (λ k. calm a k refl) in
        let last = there_last a p there in
        let end : finished xcm (last_machine rules origin a (framed to lost p)) ≡ framed to lost (finished xcm (last_machine rules origin a p)) = ap (finished xcm) same ∙ finished_framed (last_machine rules origin a p) last in
        record {
          outcome = ap (λ (m : Machine). outcome_of a.weight (refunded_last xcm m).regs) same ∙ ap (λ (m : Machine). outcome_of a.weight m.regs) (last_framed (last_machine rules origin a p) last);
          left = ap (λ (p : ChainPart). p.cargo.cargo) end;
          part = ap ended end;
        }

  pub acted_framed : (rules : ChainRules) (origin : Location) (credit : Weight) (program : List Instruction) (p : ChainPart) → IsThere to p.channels → RunsCalmly to rules origin credit program p
      → RanBeside to lost (acted rules origin credit program p) (acted rules origin credit program (framed to lost p))
  acted_framed rules origin credit program p there calm =
      acted_by rules origin (admitted rules origin credit p.queries program) p there (λ a k is. calm a (steps xcm k (first_stage rules origin a p)) is (k, refl))

-- ---- what an execution leaves to be found
module _ (to : ChainId) (found : Option (Option Waiting)) (some : found ≡ Some None → ⊥) where
  abbrev FindsThat : View → Type 0
  FindsThat v = found_to to v.channels ≡ found

  that_kept : (v : View) (dest : Location) (program : List Instruction) (cargo : Cargo) → FindsThat v → FindsThat (with_sent dest program cargo v)
  that_kept v dest program cargo is = found_sent _ to program cargo v.channels (λ e. some (sym is ∙ e)) ∙ is

pub acted_finds : (to : ChainId) (rules : ChainRules) (origin : Location) (credit : Weight) (program : List Instruction) (p : ChainPart) → IsThere to p.channels
    → found_to to (acted rules origin credit program p).part.channels ≡ found_to to p.channels
acted_finds to rules origin credit program p there = acted_kept (FindsThat to (found_to to p.channels) there) (that_kept to (found_to to p.channels) there) rules origin credit program p refl

-- ---- in the words of the statements
not_empty : (to : ChainId) (cs : List Outgoing) → ((c : Outgoing) → channel_to to cs ≡ Some c → oldest c ≡ None → ⊥) → IsThere to cs
not_empty to cs some = λ e. by (channel_to to cs) some e
  where
    by : (o : Option Outgoing) → ((c : Outgoing) → o ≡ Some c → oldest c ≡ None → ⊥) → option_map oldest o ≡ Some None → ⊥
    by None some e = absurd cc
    by (Some c) some e = some c refl (inside (oldest c) e)
      where
        inside : (x : Option Waiting) → Some x ≡ Some None → x ≡ None
        inside x e = cc

pub ran_beside : (to : ChainId) (lost : Bundle) (rules : ChainRules) (origin : Location) (credit : Weight) (program : List Instruction) (p : ChainPart) → IsNotEmpty to p → RunsCalmly to rules origin credit program p
    → RanBeside to lost (acted rules origin credit program p) (acted rules origin credit program (framed to lost p))
ran_beside to lost rules origin credit program p some calm = acted_framed to lost rules origin credit program p (not_empty to p.channels some) calm

found_oldest : (o : Option Outgoing) (x : Waiting) → option_and_then oldest o ≡ Some x → option_map oldest o ≡ Some (Some x)
found_oldest None x e = absurd cc
found_oldest (Some c) x e = ap (λ (y : Option Waiting). Some y) e

oldest_found : (o : Option Outgoing) (x : Waiting) → option_map oldest o ≡ Some (Some x) → option_and_then oldest o ≡ Some x
oldest_found None x e = absurd cc
oldest_found (Some c) x e = inside (oldest c) x e
  where
    inside : (y : Option Waiting) (x : Waiting) → Some y ≡ Some (Some x) → y ≡ Some x
    inside y x e = cc

pub oldest_stays : (to : ChainId) (rules : ChainRules) (origin : Location) (credit : Weight) (program : List Instruction) (p : ChainPart) (x : Waiting) → oldest_to to p.channels ≡ Some x
    → oldest_to to (acted rules origin credit program p).part.channels ≡ Some x
oldest_stays to rules origin credit program p x e =
    let found = found_oldest (channel_to to p.channels) x e in
    oldest_found (channel_to to (acted rules origin credit program p).part.channels) x (acted_finds to rules origin credit program p (λ empty. not_none x (sym found ∙ empty)) ∙ found)
  where
    not_none : (x : Waiting) → Some (Some x) ≡ Some None → ⊥
    not_none x e = cc
