use Rattle.std.proofs.Common.{ap, ◌≡◌, sym, subst, inr}
use Rattle.std.proofs.lemmas.Result.{err_from_is_err_and}
use Rattle.weight_trader.specs.Purchases.{no_weight}
use Rattle.versioned_xcm.specs.Reading.{message_of}
use Rattle.chain_state.specs.PartOf.{part_of}
use Rattle.exec_base.specs.declared.event.Event.TheVariants as events
use Rattle.exec_rules.specs.Readiness.{IsAtRest}
use Rattle.exec_rules.specs.Execution.{executed, IsAbandoned}
use Rattle.chain_net.proofs.Runs.{message_run, rest_told}
use Rattle.chain_net.proofs.running.run_bytes.Goals as goal

pub execute-requires-clause-rest : goal.execute-requires-clause-rest
execute-requires-clause-rest c =
    subst IsAtRest (sym c.in_ok-event.ensures.step.1) (rest_told (part_of c.args.there.now) (events.Message c.args.from c.site.result.now.chain c.args.number) c.requires.rest)

pub returns-in_err-outcome-clause-stopped : goal.returns-in_err-outcome-clause-stopped
returns-in_err-outcome-clause-stopped c =
    let q = err_from_is_err_and c.from_residual-in_err-outcome.result c.from_residual-in_err-outcome.ensures.1 in
    rw q.1 (inr (message_run (λ l program p. IsAbandoned c.args.rules.now l no_weight program p (part_of c.execute.new.h)) (part_of c.args.there.now) (part_of c.event.new.self) c.args.from c.site.result.now c.args.number c.location_of.result c.in-Ok.program (message_of c.args.bytes.now)
    c.site.ensures c.location_of.ensures c.in-Ok.ensures.read c.in_ok-event.ensures.step.1 c.in_err-outcome.ensures.err))

pub returns-clause-outcome : goal.returns-clause-outcome
returns-clause-outcome c =
    ap (λ x. x.0.0) (message_run (λ l program p. ((c.in_ok-outcome.outcome, c.in_ok-outcome.field-0-1), part_of c.execute.new.h) ≡ executed c.args.rules.now l no_weight program p) (part_of c.args.there.now) (part_of c.event.new.self) c.args.from c.site.result.now c.args.number c.location_of.result c.in-Ok.program (message_of c.args.bytes.now)
    c.site.ensures c.location_of.ensures c.in-Ok.ensures.read c.in_ok-event.ensures.step.1 c.in_ok-outcome.ensures.ok)

pub returns-clause-part : goal.returns-clause-part
returns-clause-part c =
    ap (λ x. x.1) (message_run (λ l program p. ((c.in_ok-outcome.outcome, c.in_ok-outcome.field-0-1), part_of c.execute.new.h) ≡ executed c.args.rules.now l no_weight program p) (part_of c.args.there.now) (part_of c.event.new.self) c.args.from c.site.result.now c.args.number c.location_of.result c.in-Ok.program (message_of c.args.bytes.now)
    c.site.ensures c.location_of.ensures c.in-Ok.ensures.read c.in_ok-event.ensures.step.1 c.in_ok-outcome.ensures.ok)
