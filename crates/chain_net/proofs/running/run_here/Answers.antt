use Rattle.std.proofs.Common.{ap, ◌≡◌, ◌∙◌, subst, refl, []}
use Rattle.std.proofs.lemmas.Result.{err_from_is_err_and}
use Rattle.channel_parts.specs.declared.cargo.Cargo.TheVariants.{Nothing}
use Rattle.chain_state.specs.PartOf.{part_of}
use Rattle.exec_base.specs.Part.{ChainPart}
use Rattle.exec_rules.specs.Readiness.{IsAtRest}
use Rattle.exec_rules.specs.Execution.{executed, IsAbandoned}
use Rattle.network_steps.specs.Acting.{begun, caller, ended}
use Rattle.chain_net.proofs.Runs.{same_run, started_is, here_between, here_stopped_site, site_of_run, carrying_nothing}
use Rattle.chain_net.proofs.running.run_here.Goals as goal

pub returns-in_err-outcome-clause-stopped : goal.returns-in_err-outcome-clause-stopped
returns-in_err-outcome-clause-stopped c =
    let q = err_from_is_err_and c.from_residual.result c.from_residual.ensures.1 in
    let begun_is = started_is (part_of c.args.here.now) (part_of c.begin.new.self) c.site.result.now Nothing c.begin.ensures.begun c.site.ensures c.requires.between.told in
    rw q.1 (
      part_of c.execute-ran.new.h,
      same_run (λ l program p. IsAbandoned c.args.rules.now l c.args.rules.now.limit program p (part_of c.execute-ran.new.h)) c.caller.result (caller c.args.account.now) c.args.program c.args.program (part_of c.begin.new.self) (begun (part_of c.args.here.now).site.chain Nothing (part_of c.args.here.now))
          c.caller.ensures refl begun_is c.in_err-outcome.ensures.err,
      c.finish.ensures.finished,
    )

pub returns-clause-outcome : goal.returns-clause-outcome
returns-clause-outcome c =
    let begun_is = started_is (part_of c.args.here.now) (part_of c.begin.new.self) c.site.result.now Nothing c.begin.ensures.begun c.site.ensures c.requires.between.told in
    ap (λ x. x.0.0) (same_run (λ l program p. ((c.in_ok-outcome.outcome, c.in_ok-outcome.field-0-1), part_of c.execute-ran.new.h) ≡ executed c.args.rules.now l c.args.rules.now.limit program p) c.caller.result (caller c.args.account.now) c.args.program c.args.program (part_of c.begin.new.self) (begun (part_of c.args.here.now).site.chain Nothing (part_of c.args.here.now))
    c.caller.ensures refl begun_is c.in_ok-outcome.ensures.ok)

pub returns-clause-part : goal.returns-clause-part
returns-clause-part c =
    let begun_is = started_is (part_of c.args.here.now) (part_of c.begin.new.self) c.site.result.now Nothing c.begin.ensures.begun c.site.ensures c.requires.between.told in
    c.finish.ensures.finished ∙ ap (λ x. ended x.1) (same_run (λ l program p. ((c.in_ok-outcome.outcome, c.in_ok-outcome.field-0-1), part_of c.execute-ran.new.h) ≡ executed c.args.rules.now l c.args.rules.now.limit program p) c.caller.result (caller c.args.account.now) c.args.program c.args.program (part_of c.begin.new.self) (begun (part_of c.args.here.now).site.chain Nothing (part_of c.args.here.now))
    c.caller.ensures refl begun_is c.in_ok-outcome.ensures.ok)

pub returns-clause-between : goal.returns-clause-between
returns-clause-between c =
    let begun_is = started_is (part_of c.args.here.now) (part_of c.begin.new.self) c.site.result.now Nothing c.begin.ensures.begun c.site.ensures c.requires.between.told in
    let ran = same_run (λ l program p. ((c.in_ok-outcome.outcome, c.in_ok-outcome.field-0-1), part_of c.execute-ran.new.h) ≡ executed c.args.rules.now l c.args.rules.now.limit program p) c.caller.result (caller c.args.account.now) c.args.program c.args.program (part_of c.begin.new.self) (begun (part_of c.args.here.now).site.chain Nothing (part_of c.args.here.now))
    c.caller.ensures refl begun_is c.in_ok-outcome.ensures.ok in
    here_between c.args.rules.now (caller c.args.account.now) c.args.rules.now.limit c.args.program (part_of c.args.here.now) (part_of c.finish.new.self) (part_of c.args.here.now).site.chain c.requires.between
    (c.finish.ensures.finished ∙ ap (λ x. ended x.1) ran) (subst IsAtRest (ap (λ x. x.1) ran) c.in_ok-outcome.ensures.rests)

pub returns-in_err-outcome-clause-place : goal.returns-in_err-outcome-clause-place
returns-in_err-outcome-clause-place c =
    let begun_is = started_is (part_of c.args.here.now) (part_of c.begin.new.self) c.site.result.now Nothing c.begin.ensures.begun c.site.ensures c.requires.between.told in
    here_stopped_site c.args.rules.now c.args.account.now c.args.program (part_of c.args.here.now) (part_of c.finish.new.self) c.requires.between (
      part_of c.execute-ran.new.h,
      same_run (λ l program p. IsAbandoned c.args.rules.now l c.args.rules.now.limit program p (part_of c.execute-ran.new.h)) c.caller.result (caller c.args.account.now) c.args.program c.args.program (part_of c.begin.new.self) (begun (part_of c.args.here.now).site.chain Nothing (part_of c.args.here.now))
          c.caller.ensures refl begun_is c.in_err-outcome.ensures.err,
      c.finish.ensures.finished,
    )

pub returns-clause-place : goal.returns-clause-place
returns-clause-place c =
    let begun_is = started_is (part_of c.args.here.now) (part_of c.begin.new.self) c.site.result.now Nothing c.begin.ensures.begun c.site.ensures c.requires.between.told in
    let ran = same_run (λ l program p. ((c.in_ok-outcome.outcome, c.in_ok-outcome.field-0-1), part_of c.execute-ran.new.h) ≡ executed c.args.rules.now l c.args.rules.now.limit program p) c.caller.result (caller c.args.account.now) c.args.program c.args.program (part_of c.begin.new.self) (begun (part_of c.args.here.now).site.chain Nothing (part_of c.args.here.now))
    c.caller.ensures refl begun_is c.in_ok-outcome.ensures.ok in
    ap (λ (p : ChainPart). p.site) c.finish.ensures.finished ∙ ap (λ x. x.1.site) ran
    ∙ site_of_run [] c.args.rules.now (caller c.args.account.now) c.args.rules.now.limit c.args.program (begun (part_of c.args.here.now).site.chain Nothing (part_of c.args.here.now)) (carrying_nothing (part_of c.args.here.now) (part_of c.args.here.now).site.chain c.requires.between)
