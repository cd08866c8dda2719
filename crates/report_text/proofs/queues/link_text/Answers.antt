use Rattle.std.proofs.Common.{◌≡◌, ◌∙◌, subst, IfOk, string_bytes, ap, sym}
use Rattle.std.specs.Option.{option_copied}
use Rattle.step_text.specs.Blocks.{queue_lines}
use Rattle.report_text.proofs.queues.link_text.Goals as goal

pub returns-in-None : goal.returns-in-None
returns-in-None c = c.new.ensures.bytes ∙ ap (λ o. queue_lines c.args.from (option_copied o)) (sym c.in-None.is) ∙ c.queue_between.ensures

pub returns-in-Some : goal.returns-in-Some
returns-in-Some c =
    subst (λ t. IfOk c.queue_text.result (λ text. string_bytes text ≡ t))
    (ap (λ o. queue_lines c.args.from (option_copied o)) (sym c.in-Some.is) ∙ c.queue_between.ensures)
    c.queue_text.ensures.bytes
