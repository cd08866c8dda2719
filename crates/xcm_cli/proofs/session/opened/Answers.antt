use Rattle.std.proofs.Common.{sym, ap, ◌∙◌, subst}
use Rattle.std.specs.Prelude.{MatchResult}
use Rattle.report_blocks.specs.Serving.{IsOpened, IsRefused}
use Rattle.xcm_cli.specs.Session.{head_of}
use Rattle.xcm_cli.proofs.Advance.{opens_short}
use Rattle.xcm_cli.proofs.session.opened.Goals as goal

pub returns-in-Some-clause-opened : goal.returns-in-Some-clause-opened
returns-in-Some-clause-opened g c =
    let part = c.args.part.now in
    let opened : IsOpened part c.in-Ok-Ok.net = subst (λ r. MatchResult r (IsOpened part) (IsRefused part)) c.in-Ok-Ok.field-0-is c.in-Ok-Ok.ensures.opened in
    opens_short _ _ c.in-Some.status _ _ _ c.write_text.ensures.text c.in-Some.is
    (ap head_of opened.read ∙ sym (c.deref.ensures ∙ c.in_ok-text-in-Ok-Ok.ensures.text))
