use Rattle.std.proofs.Common.{◌≡◌, ◌∙◌, [], sym, ap, true, Some}
use Rattle.xcm_cli.specs.declared.words.Task.TheVariants.{Run, Generate, Usage}
use Rattle.xcm_cli.specs.Words.{task_of, reads}
use Rattle.xcm_cli.proofs.Advance.{serves_first}
use Rattle.xcm_cli.proofs.Headline.{reply_of, answer_run, front_run, answer_written, front_written, front_none}
use Rattle.xcm_cli.proofs.top.run.Goals as goal

pub returns-in-Usage-clause-answer : goal.returns-in-Usage-clause-answer
returns-in-Usage-clause-answer g c =
    let words : task_of c.args.words.now ≡ Usage = sym c.in_ok-audit.ensures ∙ c.in-Usage.is in
    answer_written _ _ _ _ _ _ (λ bytes. reply_of _ _ bytes words) c.write_usage.ensures.run

pub returns-in-Usage-clause-unread : goal.returns-in-Usage-clause-unread
returns-in-Usage-clause-unread g c =
    let words : task_of c.args.words.now ≡ Usage = sym c.in_ok-audit.ensures ∙ c.in-Usage.is in
    λ n. answer_written _ _ (Some []) _ _ _ (λ bytes. reply_of _ _ bytes words) c.write_usage.ensures.run

pub returns-in-Usage-clause-front : goal.returns-in-Usage-clause-front
returns-in-Usage-clause-front g c =
    let words : task_of c.args.words.now ≡ Usage = sym c.in_ok-audit.ensures ∙ c.in-Usage.is in
    front_written _ _ _ _ _ _ (λ bytes. reply_of _ _ bytes words) (ap reads words) c.write_usage.ensures.run

pub returns-in-Generate-clause-answer : goal.returns-in-Generate-clause-answer
returns-in-Generate-clause-answer g c =
    let words : task_of c.args.words.now ≡ Generate c.in-Generate.number c.in-Generate.steps = sym c.in_ok-audit.ensures ∙ c.in-Generate.is in
    answer_written _ _ _ _ _ _ (λ bytes. reply_of _ _ bytes words) c.write_generated.ensures.run

pub returns-in-Generate-clause-unread : goal.returns-in-Generate-clause-unread
returns-in-Generate-clause-unread g c =
    let words : task_of c.args.words.now ≡ Generate c.in-Generate.number c.in-Generate.steps = sym c.in_ok-audit.ensures ∙ c.in-Generate.is in
    λ n. answer_written _ _ (Some []) _ _ _ (λ bytes. reply_of _ _ bytes words) c.write_generated.ensures.run

pub returns-in-Generate-clause-front : goal.returns-in-Generate-clause-front
returns-in-Generate-clause-front g c =
    let words : task_of c.args.words.now ≡ Generate c.in-Generate.number c.in-Generate.steps = sym c.in_ok-audit.ensures ∙ c.in-Generate.is in
    front_written _ _ _ _ _ _ (λ bytes. reply_of _ _ bytes words) (ap reads words) c.write_generated.ensures.run

pub returns-in-Run-clause-answer : goal.returns-in-Run-clause-answer
returns-in-Run-clause-answer g c =
    let words : task_of c.args.words.now ≡ Run c.in-Run.audit = sym c.in_ok-audit.ensures ∙ c.in-Run.is in
    answer_run _ _ _ _ _ _ _ words (serves_first _ c.new.result _ _ _ _ _ c.new.ensures.start c.new.ensures.phase c.new.ensures.taken c.serve.ensures.run)

pub returns-in-Run-clause-unread : goal.returns-in-Run-clause-unread
returns-in-Run-clause-unread g c =
    let words : task_of c.args.words.now ≡ Run c.in-Run.audit = sym c.in_ok-audit.ensures ∙ c.in-Run.is in
    λ n. let read : reads (task_of c.args.words.now) ≡ true = ap reads words in absurd cc

pub returns-in-Run-clause-front : goal.returns-in-Run-clause-front
returns-in-Run-clause-front g c =
    let words : task_of c.args.words.now ≡ Run c.in-Run.audit = sym c.in_ok-audit.ensures ∙ c.in-Run.is in
    front_run _ _ _ _ _ _ _ words (serves_first _ c.new.result _ _ _ _ _ c.new.ensures.start c.new.ensures.phase c.new.ensures.taken c.serve.ensures.run)

pub returns-in_err-audit-clause-front : goal.returns-in_err-audit-clause-front
returns-in_err-audit-clause-front g c = front_none _ _ _ c.from_residual.result c.from_residual.ensures.0
