use Rattle.std.proofs.lemmas.Result.{err_from_is_err_and}
use Rattle.exec_base.specs.declared.event.Part.TheVariants as parts
use Rattle.exec_rules.specs.Machine.{machine}
use Rattle.exec_rules.specs.Run.{begin}
use Rattle.xcm_executor.specs.Running.{IsReadyThroughout}
use Rattle.exec_rules.specs.Execution.{first_stage}
use Rattle.xcm_executor.proofs.Parking.{stopped_few}
use Rattle.xcm_executor.proofs.Ends.{first_runnable, first_ready, ended_balances, ended_steady, ended_abandoned, ended_rests, stopped_abandoned, refund_ready, surplus_within}
use Rattle.xcm_executor.proofs.executing.run_admitted.Goals as goal

pub run_all-requires : goal.run_all-requires
run_all-requires g c =
    let p = g.H.Host.part c.args.h.now in
    let balanced = c.law_of_admission.ensures.balanced c.args.rules.now c.args.origin.now c.args.admitted p c.requires.weighed in
    let ready : IsReadyThroughout (first_stage c.args.rules.now c.args.origin.now c.args.admitted p) =
    λ part place x behind m reaches. c.law_of_admission.ensures.ready c.args.rules.now c.args.origin.now c.args.admitted p part place x behind m c.requires.weighed c.requires.forwardable c.requires.rest reaches in
    record { runnable = first_runnable c.args.rules.now c.args.origin.now c.args.admitted c.set_origin.new.r c.set_origin.ensures p balanced ready }

pub abandon-requires : goal.abandon-requires
abandon-requires g c =
    let p = g.H.Host.part c.args.h.now in
    let ready : IsReadyThroughout (first_stage c.args.rules.now c.args.origin.now c.args.admitted p) =
    λ part place x behind m reaches. c.law_of_admission.ensures.ready c.args.rules.now c.args.origin.now c.args.admitted p part place x behind m c.requires.weighed c.requires.forwardable c.requires.rest reaches in
    record {
      few = stopped_few c.law_of_readiness.ensures.done (begin parts.Program c.args.admitted.program (machine c.set_origin.new.r p)) (machine c.run_all.new.r (g.H.Host.part c.run_all.new.h))
          (first_ready c.args.rules.now c.args.origin.now c.args.admitted c.set_origin.new.r c.set_origin.ensures p ready) c.in-Err.ensures.err;
    }

pub close-closed-requires : goal.close-closed-requires
close-closed-requires g c =
    let p = g.H.Host.part c.args.h.now in
    let m = machine c.run_all.new.r (g.H.Host.part c.run_all.new.h) in
    let balanced = c.law_of_admission.ensures.balanced c.args.rules.now c.args.origin.now c.args.admitted p c.requires.weighed in
    let ends = ended_balances c.args.rules.now c.args.origin.now c.args.admitted c.set_origin.new.r c.set_origin.ensures p m c.in-Ok.ensures.ok c.law_of_orderly_instructions.ensures.steers balanced in
    let steady = ended_steady c.args.rules.now c.args.origin.now c.args.admitted c.set_origin.new.r c.set_origin.ensures p m c.in-Ok.ensures.ok c.law_of_readiness.ensures.reached balanced c.requires.rest in
    record { ready = refund_ready c.args.admitted.weight m ends steady; within = surplus_within c.args.admitted.weight m.regs ends }

pub returns-in_err-outcome-in-Ok-clause-err : goal.returns-in_err-outcome-in-Ok-clause-err
returns-in_err-outcome-in-Ok-clause-err g c =
    let q = err_from_is_err_and c.from_residual.result c.from_residual.ensures.1 in
    rw q.1 (ended_abandoned c.args.rules.now c.args.origin.now c.args.admitted c.set_origin.new.r c.set_origin.ensures (g.H.Host.part c.args.h.now)
    (machine c.run_all.new.r (g.H.Host.part c.run_all.new.h)) c.in-Ok.ensures.ok (g.H.Host.part c.close-closed.new.h) c.in_err-outcome-in-Ok.ensures.err)

pub returns-in-Err-clause-err : goal.returns-in-Err-clause-err
returns-in-Err-clause-err g c =
    stopped_abandoned c.args.rules.now c.args.origin.now c.args.admitted c.set_origin.new.r c.set_origin.ensures (g.H.Host.part c.args.h.now)
    (machine c.run_all.new.r (g.H.Host.part c.run_all.new.h)) (g.H.Host.part c.abandon.new.h) c.in-Err.ensures.err c.abandon.ensures

pub returns-in_ok-outcome-in-Ok-clause-rests : goal.returns-in_ok-outcome-in-Ok-clause-rests
returns-in_ok-outcome-in-Ok-clause-rests g c =
    ended_rests c.args.rules.now c.args.origin.now c.args.admitted c.set_origin.new.r c.set_origin.ensures (g.H.Host.part c.args.h.now)
    (machine c.run_all.new.r (g.H.Host.part c.run_all.new.h)) c.in-Ok.ensures.ok (g.H.Host.part c.close-closed.new.h) c.in_ok-outcome-in-Ok.ensures.ok
    (c.law_of_admission.ensures.rests c.args.rules.now c.args.origin.now c.args.admitted (g.H.Host.part c.args.h.now) c.requires.weighed c.requires.rest)
