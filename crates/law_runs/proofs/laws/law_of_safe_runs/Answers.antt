use Rattle.xcm_program.specs.declared.instruction.Instruction.{out-Instruction}
use Rattle.xcm_program.proofs.Lemmas.{everywhere_open}
use Rattle.exec_rules.proofs.Lemmas.KeepingLaws.{reached_keeps}
use Rattle.exec_rules.specs.Instructions.{xcm}
use Rattle.law_runs.specs.Safety.{HasList, AreLists}
use Rattle.law_runs.proofs.Lemmas.Shipping.{HasList-IsOfLayer}
use Rattle.law_runs.specs.Runs.{Goes}
use Rattle.law_runs.proofs.Lemmas.Runs.{done_goes, runs_go, lists_go_inside, finished_safely}
use Rattle.law_runs.proofs.Lemmas.Accepted.{spilled_safely}
use Rattle.law_runs.proofs.laws.law_of_safe_runs.Goals as goal

pub returns : goal.returns
returns c =
    let withdraws = c.law_of_ledgers.ensures.withdrawn in
    let moves = c.law_of_conserved_payments.ensures.moves in
    let stays = c.law_of_readiness.ensures.done in
    record {
      done = λ n x m agrees lists ok. done_goes withdraws moves stays n agrees x m lists ok;
      reached = λ n most g h agrees balanced ahead reach. reached_keeps xcm c.law_of_orderly_instructions.ensures.steers AreLists lists_go_inside (Goes n) (runs_go withdraws moves stays n agrees) most g h reach balanced ahead;
      ended = λ n m agrees safe. finished_safely withdraws moves stays n agrees c.law_of_traps.ensures.kept m safe.steady safe.fine.room;
      stopped = λ n x m now safe lists h.
          let opened = everywhere_open HasList HasList-IsOfLayer x lists in
          spilled_safely withdraws moves n (out-Instruction x) m safe.fine safe.own_origin safe.steady safe.fees opened.0 opened.1 now h;
    }
