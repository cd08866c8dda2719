-- What runs and executions keep, also where memory is refused.
use Rattle.std.proofs.Common.{◌≡◌, ℕ, ◌+◌, List, Ok, refl, sym, ap, subst, arith}
use Rattle.std.specs.List.{AllByRecursion}
use Rattle.amounts.specs.Amounts.{total, empty}
use Rattle.amounts.proofs.Lemmas.AmountLaws.{total-empty}
use Rattle.locations.specs.declared.relative.Location.{Location}
use Rattle.operands.specs.declared.weight.Weight.{Weight}
use Rattle.asset_lists.specs.Units.{unit_cmp}
use Rattle.asset_bundles.specs.Bundles.{Bundle}
use Rattle.asset_bundles.proofs.Lemmas.Bundles.{unit_keys}
use Rattle.xcm_program.specs.declared.instruction.Instruction.{Instruction}
use Rattle.exec_base.specs.Part.{ChainPart}
use Rattle.exec_rules.specs.Instructions.{xcm}
use Rattle.exec_rules.specs.Keeping.{IsAheadOf}
use Rattle.exec_rules.specs.Machine.{machine, IsOrderly}
use Rattle.exec_rules.specs.Run.{Stage, steps, machine_of, Reaches}
use Rattle.exec_rules.specs.declared.admission.Admitted.{Admitted}
use Rattle.exec_rules.specs.declared.rules.ChainRules.{ChainRules}
use Rattle.exec_rules.specs.Admission.{admitted}
use Rattle.exec_rules.specs.Execution.{first_machine, first_stage, executed, IsAbandoned}
use Rattle.exec_rules.specs.Kept.{IsKeptByCalls, HoldsAtEnd}
use Rattle.exec_rules.proofs.Lemmas.KeptLaws.{run_kept, executed_by_kept, abandoned_in_kept}
use Rattle.exec_rules.specs.HostCalls.{MachineWithGoods, between}
use Rattle.law_runs.specs.Safety.{AreLists, hold}
use Rattle.law_runs.specs.Sums.{none}
use Rattle.law_steps.proofs.Lemmas.Admitting.{admitted_lists}
use Rattle.law_authority.specs.Floors.{WaitInOrder}
use Rattle.law_authority.proofs.Lemmas.ListLaws.{open_list, inside_lists, refund_lists, program_ahead}
use Rattle.law_authority.proofs.Lemmas.WaitingLaws.{call_lists}
use Rattle.law_audits.specs.Ends.{MayTeleport}
use Rattle.law_audits.proofs.Calls.{LawsOfMoves, IsBounded, in_hands, bounded_less, call_bounded}
use Rattle.law_audits.proofs.Refusals.{never_too_full}

-- a chain between runs: and the lists of what waits are in order
abbrev pub IsBoundedPart : ChainPart → Type 0
IsBoundedPart p = IsBounded none p × WaitInOrder p

abbrev Sound : MachineWithGoods → Type 0
Sound t = IsBounded (in_hands t) t.part × WaitInOrder t.part

-- nothing is held
resting : (p : ChainPart) (holding : Bundle) → holding ≡ empty → IsBounded none p → IsBounded (λ q. total q holding + total {R = unit_cmp} q empty) p
resting p holding e x = bounded_less none (λ q. total q holding + total {R = unit_cmp} q empty) p (λ q. let h = ap (total q) e in let z = total-empty unit_keys q in omega (arith, h, z)) x

module _ (laws : LawsOfMoves) (orderly : IsOrderly xcm) where
  sound_kept : IsKeptByCalls AreLists Sound
  sound_kept = record {
    refunds = refund_lists;
    called = λ x l is q moment m t c k asks from ok h.
        (call_bounded laws moment l m (open_list x l is q) k.0.fees c t asks ok h.0, call_lists moment l m c t (inside_lists x l is q) asks ok h.1);
    turned = λ t r turns h. (subst (λ (b : Bundle). IsBounded (λ q. total q b + total q t.goods) t.part) (sym turns.holding) h.0, h.1);
  }

  module _ (rules : ChainRules) (origin : Location) (credit : Weight) (program : List Instruction) (p : ChainPart) (lists : AllByRecursion AreLists program) (sound : IsBoundedPart p) where
    ahead_of : (a : Admitted) → admitted rules origin credit p.queries program ≡ Ok a → (k : ℕ) → IsAheadOf AreLists (steps xcm k (first_stage rules origin a p))
    ahead_of a e k = program_ahead orderly a.program (first_machine rules origin p) refl refl (admitted_lists rules origin credit p.queries program lists a e) k

    begins : Sound (between (first_machine rules origin p))
    begins = (resting p (first_machine rules origin p).regs.holding refl sound.0, sound.1)

    ended : (now : ChainPart) → HoldsAtEnd Sound now → IsBoundedPart now
    ended now ends = (bounded_less (in_hands (between (machine ends.regs now))) none now (λ q. omega arith) ends.kept.0, ends.kept.1)

    pub executed_sound : IsBoundedPart (executed rules origin credit program p).1
    executed_sound = ended (executed rules origin credit program p).1 (executed_by_kept AreLists Sound sound_kept rules origin (admitted rules origin credit p.queries program) p ahead_of begins)

    pub stopped_sound : (now : ChainPart) → IsAbandoned rules origin credit program p now → IsBoundedPart now
    stopped_sound now h = ended now (abandoned_in_kept AreLists Sound sound_kept rules origin h.0 p now (ahead_of h.0 h.1) h.2 begins)

    pub reached_teleports : (a : Admitted) (g : Stage) → admitted rules origin credit p.queries program ≡ Ok a → Reaches xcm (first_stage rules origin a p) g → MayTeleport (machine_of g)
    reached_teleports a g e r =
        let m = machine_of g in
        let there : Sound (between m) = run_kept AreLists Sound sound_kept rules origin a p (ahead_of a e) begins g r in
        record {
          below = (bounded_less (in_hands (between m)) (hold m) m.part (λ q. omega arith) there.0).below;
          never = never_too_full laws m there.0;
        }
