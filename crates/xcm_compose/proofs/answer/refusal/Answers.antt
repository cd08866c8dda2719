use Rattle.xcm_compose.proofs.Judging.{refuses_tree}
use Rattle.xcm_compose.proofs.answer.refusal.Goals as goal

pub returns : goal.returns
returns c = λ tree none. refuses_tree tree _ _ _ none c.refused_line.ensures
