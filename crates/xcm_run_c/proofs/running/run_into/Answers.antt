use Rattle.std.proofs.Common.{◌∙◌, refl, ap}
use Rattle.line_serving.specs.Replies.{code_of}
use Rattle.xcm_run_c.specs.Words.{run_reply}
use Rattle.xcm_run_c.proofs.Runs.{front_left, whole_left}
use Rattle.xcm_run_c.proofs.running.run_into.Goals as goal

pub returns-in_default-clause-front : goal.returns-in_default-clause-front
returns-in_default-clause-front c = ((run_reply c.args.audit c.args.input.now).text, rw c.requires refl)

pub returns-clause-front : goal.returns-clause-front
returns-clause-front c =
    front_left c.args.audit _ _ _ _ _ _ _ _ c.deref.ensures.value c.in-Ok.ensures c.new.ensures c.requires c.run.ensures.front

pub returns-in-Ok-run-clause-front : goal.returns-in-Ok-run-clause-front
returns-in-Ok-run-clause-front c =
    front_left c.args.audit _ _ _ _ _ _ _ _ c.deref.ensures.value c.in-Ok.ensures c.new.ensures c.requires c.run.ensures.front

pub returns-in-Ok-run-clause-text : goal.returns-in-Ok-run-clause-text
returns-in-Ok-run-clause-text c = λ own.
    (whole_left c.args.audit _ _ _ _ _ _ _ c.deref.ensures.value c.in-Ok.ensures c.new.ensures c.requires
    (c.in-Ok-run.ensures.answer (λ fault. own (c.number_of.ensures.fault fault)))).1

pub returns-in-Ok-run-clause-number : goal.returns-in-Ok-run-clause-number
returns-in-Ok-run-clause-number c = λ own.
    c.number_of.ensures.other (λ fault. own (c.number_of.ensures.fault fault))
    ∙ ap code_of (whole_left c.args.audit _ _ _ _ _ _ _ c.deref.ensures.value c.in-Ok.ensures c.new.ensures c.requires
    (c.in-Ok-run.ensures.answer (λ fault. own (c.number_of.ensures.fault fault)))).0
