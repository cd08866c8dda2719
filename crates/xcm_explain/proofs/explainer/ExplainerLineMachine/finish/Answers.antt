use Rattle.line_serving.proofs.Lemmas.{finishes_done}
use Rattle.xcm_explain.specs.Laws.{nothing_explained}
use Rattle.xcm_explain.proofs.explainer.ExplainerLineMachine.finish.Goals as goal

pub returns-clause-run : goal.returns-clause-run
returns-clause-run g c = finishes_done _ _ (nothing_explained c.args.self.now c.requires)
