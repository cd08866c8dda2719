use Rattle.exec_rules.specs.Machine.{machine}
use Rattle.exec_rules.specs.Outcome.{refunded_last}
use Rattle.exec_rules.specs.Instructions.{xcm}
use Rattle.xcm_executor.proofs.Parking.{halted_few}
use Rattle.xcm_executor.proofs.Ends.{refunded_steady, halted_before, wound_within, wound_few}
use Rattle.xcm_executor.proofs.ending.close.Goals as goal

pub outcome-ended-requires : goal.outcome-ended-requires
outcome-ended-requires g c =
    record { within = wound_within (machine c.args.r.now (g.H.Host.part c.args.h.now)) (machine c.wind_up.new.r (g.H.Host.part c.wind_up.new.h)) c.args.weight c.in-Ok.ensures.ok c.requires.within }

pub trap_rest-requires : goal.trap_rest-requires
trap_rest-requires g c =
    let m = machine c.args.r.now (g.H.Host.part c.args.h.now) in
    record { few = wound_few m (machine c.wind_up.new.r (g.H.Host.part c.wind_up.new.h)) c.in-Ok.ensures.ok (refunded_steady m c.law_of_readiness.ensures.done c.requires.ready.steady) }

pub abandon-requires : goal.abandon-requires
abandon-requires g c =
    let m = machine c.args.r.now (g.H.Host.part c.args.h.now) in
    let last = refunded_steady m c.law_of_readiness.ensures.done c.requires.ready.steady in
    record { few = halted_few m (refunded_last xcm m) (machine c.wind_up.new.r (g.H.Host.part c.wind_up.new.h)) c.requires.ready.steady.rest.order.unparked last.rest.order.unparked c.in-Err.ensures.err }

pub returns-in-Err-clause-err : goal.returns-in-Err-clause-err
returns-in-Err-clause-err g c =
    halted_before (machine c.args.r.now (g.H.Host.part c.args.h.now)) (machine c.wind_up.new.r (g.H.Host.part c.wind_up.new.h)) (g.H.Host.part c.abandon.new.h) c.in-Err.ensures.err c.abandon.ensures
