use Rattle.std.proofs.Common.{◌≡◌, ◌∙◌, sym, true, false}
use Rattle.line_serving.specs.Replies.{fits_limits}
use Rattle.xcm_compose.specs.Replies.{IsReplyOf}
use Rattle.xcm_compose.proofs.Steps.{long_line, within_line}
use Rattle.xcm_compose.proofs.composer.Composer.take_line.Goals as goal

pub returns-then-not-fits_limits-clause-run : goal.returns-then-not-fits_limits-clause-run
returns-then-not-fits_limits-clause-run g c =
    let long : fits_limits c.args.self.now.taken c.args.line.now ≡ false = sym c.fits_limits.ensures ∙ c.if-not-fits_limits.true in
    long_line c.args.self.now.taken c.args.self.now.tree.items c.args.line.now (λ lines. IsReplyOf c.args.self.now lines) _ long

pub returns-clause-run : goal.returns-clause-run
returns-clause-run g c =
    let within : fits_limits c.args.self.now.taken c.args.line.now ≡ true = sym c.fits_limits.ensures ∙ c.if-not-fits_limits.false in
    within_line c.args.self.now.taken c.args.self.now.tree.items c.args.line.now c.text_of.result.now (λ lines. IsReplyOf c.take_text.new.self lines) _ _ _ within c.text_of.ensures c.take_text.ensures.run
