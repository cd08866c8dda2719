use Rattle.std.proofs.Common.{◌∙◌, ap}
use Rattle.xcm_explain.specs.Explanations.{explainer_replies}
use Rattle.xcm_explain.proofs.Steps.{long_here}
use Rattle.xcm_explain.proofs.explainer.ExplainerLineMachine.is_over.Goals as goal

pub returns-clause-over : goal.returns-clause-over
returns-clause-over c t at_end more =
    let past = c.passes_limits.ensures.over t more in
    ap (explainer_replies c.args.self.now at_end) past.2 ∙ long_here c.args.self.now.lines c.args.self.now.taken _ _ past.3
