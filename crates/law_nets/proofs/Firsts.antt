-- Lemmas: where the run of a delivered message is, and that it burns no excess. A reader may skip this file.
use Rattle.std.proofs.Common.{◌≡◌, ℕ, zero, suc, ◌+◌, List, [], ◌∷◌, Some, None, refl, sym, ap, ◌∙◌, subst}
use Rattle.locations.specs.declared.relative.Location.{Location}
use Rattle.operands.specs.declared.error.XcmError.{XcmError}
use Rattle.asset_bundles.specs.Books.{AreListed}
use Rattle.trust_tables.specs.Trust.{listing}
use Rattle.xcm_program.specs.declared.instruction.Instruction.{Instruction, out-Instruction, out-roll-Instruction}
use Rattle.xcm_program.specs.declared.instruction.Instruction.TheOpen.{Instruction-F}
use Rattle.xcm_program.specs.Indices.{index}
use Rattle.exec_base.specs.declared.event.Event.{Event}
use Rattle.exec_base.specs.declared.event.Part.{Part}
use Rattle.exec_base.specs.declared.event.Part.TheVariants as parts
use Rattle.exec_base.specs.declared.registers.Registers.{Registers}
use Rattle.exec_base.specs.Part.{ChainPart}
use Rattle.exec_base.specs.Host.{told}
use Rattle.exec_rules.specs.Machine.{Machine, machine}
use Rattle.exec_rules.specs.Run.{Stage, At, Ended, begin, go_on, failed, without_appendix, handler_dropped, traced, by_answer, next, steps, machine_of, Reaches}
use Rattle.exec_rules.proofs.Lemmas.RunLaws.{one_step, steps_end, reached_balanced}
use Rattle.exec_rules.proofs.Lemmas.KeepingLaws.{begin_machine, reached_hold}
use Rattle.exec_rules.specs.Accounts.{IsBalanced}
use Rattle.exec_rules.specs.Instructions.{refused, done, refusal_of, xcm}
use Rattle.exec_rules.specs.declared.rules.ChainRules.{ChainRules}
use Rattle.exec_rules.specs.declared.admission.Admitted.{Admitted}
use Rattle.exec_rules.specs.Execution.{started, first_machine, first_stage}
use Rattle.law_coherence.specs.Networks.{Table, Agrees}
use Rattle.law_runs.specs.Safety.{AreLists}
use Rattle.law_runs.proofs.Lemmas.Safety.{keeps_room}
use Rattle.law_runs.proofs.Lemmas.Runs.{told_steady, lists_go_inside}
use Rattle.law_steps.specs.Soundness.{LawsBelow}
use Rattle.law_steps.proofs.Lemmas.Firsts.{told_safely, step_on, stays_here, second, stopped, refused_next, alone, alone_next, IsSetBehind, led_once, led_on}
use Rattle.law_nets.proofs.Calls.{BurnsNoExcess, same_burns, no_excess_then, told_burns}
use Rattle.law_nets.proofs.Runs.{fits_after}
use Rattle.law_nets.proofs.Stages.{StandsWell, Accepts, StandsAll, stands_on}

go_on_burns : (part : Part) (place : ℕ) (behind : List Instruction) (m : Machine) → (machine_of (go_on part place behind m)).part.burns ≡ m.part.burns
go_on_burns part place [] m =
    let k : Machine = record m { regs = handler_dropped m.regs } in
    ap (λ (z : Machine). z.part.burns) (begin_machine parts.Appendix k.regs.appendix (record k { regs = without_appendix k.regs }))
go_on_burns part place (x ∷ behind) m = refl

-- ClearOrigin burns nothing
clear_burns : (part : Part) (place : ℕ) (behind : List Instruction) (m : Machine) → (machine_of (next xcm (At part place second behind m))).part.burns ≡ m.part.burns
clear_burns part place behind m =
    let clears : refusal_of second m ≡ None = ap (λ (l : Instruction-F Instruction). refused l m) (out-roll-Instruction Instruction-F.ClearOrigin) in
    ap (λ (g : Stage). (machine_of g).part.burns)
    (ap (by_answer xcm part place second behind m) clears
    ∙ ap (λ (l : Instruction-F Instruction). go_on part (place + 1) behind (traced part place second None (done l m))) (out-roll-Instruction Instruction-F.ClearOrigin))
    ∙ go_on_burns part (place + 1) behind (traced part place second None (done Instruction-F.ClearOrigin m))
    ∙ told_burns m.part (Event.Ran part place (index (out-Instruction second)) None)

module _ (laws : LawsBelow) (n : List Table) (agrees : Agrees n) (rules : ChainRules) (origin : Location) (p : ChainPart) (a : Admitted) (balanced : IsBalanced a.weight (first_stage rules origin a p)) where
  abbrev m0 : Machine
  m0 = first_machine rules origin p

  abbrev StandsAt : Stage → Type 0
  StandsAt h = StandsWell p (machine_of h) × Accepts p h

  -- before its first instruction
  begins_at : (x : Instruction) (behind : List Instruction) → a.program ≡ x ∷ behind → first_stage rules origin a p ≡ At parts.Program 0 x behind (first_machine rules origin p)
  begins_at x behind is = ap (λ (program : List Instruction). begin parts.Program program m0) is

  begins_standing : (x : Instruction) (behind : List Instruction) → a.program ≡ x ∷ behind → StandsWell p (first_machine rules origin p) → (refusal_of x (first_machine rules origin p) ≡ None → BurnsNoExcess p (xcm.done x (first_machine rules origin p)).part)
      → (h : Stage) → steps xcm zero (first_stage rules origin a p) ≡ h → StandsAt h
  begins_standing x behind is begins accepts h e = subst StandsAt (sym (begins_at x behind is) ∙ sym (stays_here (first_stage rules origin a p)) ∙ e) (begins, accepts)

  -- where the run ends at once
  ends_standing : (k : Machine) → next xcm (first_stage rules origin a p) ≡ Ended k → StandsWell p k → (h : Stage) (count : ℕ) → steps xcm (suc count) (first_stage rules origin a p) ≡ h → StandsAt h
  ends_standing k ends stands h count e =
      subst StandsAt (sym (steps_end xcm count (Ended k) tt) ∙ ap (steps xcm count) (sym ends) ∙ sym (step_on count (first_stage rules origin a p)) ∙ e) (stands, tt)

  -- a line is told, and other registers than the holding change
  told_stands : (m : Machine) (e : Event) (r : Registers) → r.holding ≡ m.regs.holding → StandsWell p m → StandsWell p (machine r (told m.part e))
  told_stands m e r same s =
      let safely = told_safely m e r same in
      let steady = told_steady m e s.steady in
      record {
        fits = fits_after m (machine r (told m.part e)) safely s.fits;
        steady = record { rest = steady.rest; holding = subst (AreListed (listing (told m.part e).rows)) (sym same) steady.holding };
        room = keeps_room m (machine r (told m.part e)) safely s.room;
        no_excess = no_excess_then p m.part (told m.part e) s.no_excess (same_burns m.part (told m.part e) (told_burns m.part e));
      }

  -- its first instruction is refused
  pub refused_stands : (x : Instruction) (behind : List Instruction) (e : XcmError) → a.program ≡ x ∷ behind → refusal_of x (first_machine rules origin p) ≡ Some e → StandsWell p (first_machine rules origin p) → StandsAll p (first_stage rules origin a p)
  refused_stands x behind e is no_way begins h (zero, reach) = begins_standing x behind is begins (λ way. let both : None ≡ Some e = sym way ∙ no_way in absurd cc) h reach
  refused_stands x behind e is no_way begins h (suc count, reach) =
      ends_standing (stopped laws n agrees rules origin p a balanced x e behind) (refused_next laws n agrees rules origin p a balanced x behind e is no_way)
      (told_stands m0 (Event.Ran parts.Program 0 (index (out-Instruction x)) (Some e)) (without_appendix (failed 0 e behind (started rules origin))) refl begins) h count reach

  -- it is the only one
  pub alone_stands : (x : Instruction) → a.program ≡ x ∷ [] → refusal_of x (first_machine rules origin p) ≡ None → (xcm.done x (first_machine rules origin p)).regs.appendix ≡ [] → StandsWell p (first_machine rules origin p) → StandsWell p (xcm.done x (first_machine rules origin p))
      → StandsAll p (first_stage rules origin a p)
  alone_stands x is way no_appendix begins behind_it h (zero, reach) = begins_standing x [] is begins (λ again. behind_it.no_excess) h reach
  alone_stands x is way no_appendix begins behind_it h (suc count, reach) =
      let d = xcm.done x m0 in
      ends_standing (alone laws n agrees rules origin p a balanced x d) (alone_next laws n agrees rules origin p a balanced x is way no_appendix)
      (told_stands d (Event.Ran parts.Program 0 (index (out-Instruction x)) None) (without_appendix (handler_dropped d.regs)) refl behind_it) h count reach

  -- ClearOrigin and more come after it
  pub led_stands : (x : Instruction) (behind : List Instruction) → IsSetBehind laws n agrees rules origin p a balanced x behind → StandsWell p (first_machine rules origin p) → StandsWell p (xcm.done x (first_machine rules origin p)) → StandsAll p (first_stage rules origin a p)
  led_stands x behind s begins behind_it h (zero, reach) = begins_standing x (second ∷ behind) s.is begins (λ again. behind_it.no_excess) h reach
  led_stands x behind s begins behind_it h (suc zero, reach) =
      let g = first_stage rules origin a p in
      let d = xcm.done x m0 in
      let k = traced parts.Program 0 x None d in
      let there : At parts.Program (0 + 1) second behind k ≡ h = sym (led_once laws n agrees rules origin p a balanced x behind s.is s.way) ∙ sym (stays_here (next xcm g)) ∙ sym (step_on zero g) ∙ reach in
      let stands : StandsWell p k = told_stands d (Event.Ran parts.Program 0 (index (out-Instruction x)) None) d.regs refl behind_it in
      let clears : (xcm.done second k).part.burns ≡ k.part.burns = ap (λ (l : Instruction-F Instruction). (done l k).part.burns) (out-roll-Instruction Instruction-F.ClearOrigin) in
      subst StandsAt there (stands, λ way. no_excess_then p k.part (xcm.done second k).part stands.no_excess (same_burns k.part (xcm.done second k).part clears))
  led_stands x behind s begins behind_it h (suc (suc count), reach) =
      let g = first_stage rules origin a p in
      let d = xcm.done x m0 in
      let h2 = steps xcm 1 (next xcm g) in
      let on = led_on laws n agrees rules origin p a balanced x behind s zero in
      let to : Reaches xcm g h2 = (2, step_on 1 g) in
      let from : Reaches xcm h2 h = (count, ap (steps xcm count) (one_step xcm (next xcm g)) ∙ sym (step_on count (next xcm g)) ∙ sym (step_on (suc count) g) ∙ reach) in
      let clear : (machine_of h2).part.burns ≡ d.part.burns =
      ap (λ (z : Stage). (machine_of z).part.burns) (one_step xcm (next xcm g) ∙ ap (next xcm) (led_once laws n agrees rules origin p a balanced x behind s.is s.way))
      ∙ clear_burns parts.Program (0 + 1) behind (traced parts.Program 0 x None d) ∙ told_burns d.part (Event.Ran parts.Program 0 (index (out-Instruction x)) None) in
      stands_on laws n agrees p a.weight h2 (reached_balanced xcm laws.orderly a.weight g h2 to balanced) (reached_hold xcm laws.orderly AreLists lists_go_inside g h2 to s.ahead) on.0 (fits_after d (machine_of h2) on.1 behind_it.fits)
      (no_excess_then p d.part (machine_of h2).part behind_it.no_excess (same_burns d.part (machine_of h2).part clear)) h from
