use Rattle.std.proofs.Common.{rules, ◌≡◌, ◌<◌, length}
use Rattle.std.proofs.lemmas.Result.{err_from_is_err_and}
use Rattle.exec_base.specs.declared.event.Part.TheVariants as parts
use Rattle.exec_rules.specs.Machine.{machine}
use Rattle.exec_rules.proofs.Lemmas.RunLaws.{reaches_here}
use Rattle.xcm_executor.proofs.Standing.{nil}
use Rattle.xcm_executor.proofs.Programs.{reached_more, reached_stopped, reached_runnable, less_is_left, reached_end}
use Rattle.xcm_executor.proofs.running.run_all.Goals as goal

pub programs-init : goal.programs-init
programs-init g c = reached_more _ _ _ (reaches_here _ _) c.in_ok-part.ensures.ok

pub take_program-requires-in-programs-clause-runnable : goal.take_program-requires-in-programs-clause-runnable
take_program-requires-in-programs-clause-runnable g c =
    reached_runnable c.law_of_orderly_instructions.ensures.steers parts.Program c.programs.part c.args.program c.programs.program
    (machine c.args.r.now (g.H.Host.part c.args.h.now)) (machine c.programs.r (g.H.Host.part c.programs.h)) c.programs.invariant c.requires.runnable

pub returns-in_err-next_part-clause-err : goal.returns-in_err-next_part-clause-err
returns-in_err-next_part-clause-err g c =
    let p = err_from_is_err_and c.from_residual-in_err-next_part.result c.from_residual-in_err-next_part.ensures.1 in
    rw p.1 (reached_stopped _ _ _ c.programs.invariant c.in_err-next_part.ensures.err)

pub programs-smaller : goal.programs-smaller
programs-smaller g c =
    let some : 0 < length c.programs.program = search rules in
    less_is_left c.law_of_orderly_instructions.ensures.steers c.programs.part c.in_ok-next_part.next_part c.programs.program c.in_ok-next_part.next
    (machine c.programs.r (g.H.Host.part c.programs.h)) (machine c.take_program-in-programs.new.r (g.H.Host.part c.take_program-in-programs.new.h)) some c.in_ok-next_part.ensures.ok

pub programs-preserved : goal.programs-preserved
programs-preserved g c = reached_more _ _ _ c.programs.invariant c.in_ok-next_part.ensures.ok

pub returns-clause-ok : goal.returns-clause-ok
returns-clause-ok g c =
    let none : length c.programs.program ≡ 0 = search rules in
    reached_end c.law_of_orderly_instructions.ensures.steers _ c.programs.part _ (machine c.programs.r (g.H.Host.part c.programs.h)) (nil _ none) c.programs.invariant

pub returns-then-is_empty-clause-ok : goal.returns-then-is_empty-clause-ok
returns-then-is_empty-clause-ok g c =
    let none : length c.args.program ≡ 0 = search rules in
    reached_end c.law_of_orderly_instructions.ensures.steers _ parts.Program _ (machine c.args.r.now (g.H.Host.part c.args.h.now)) (nil _ none) (reaches_here _ _)
