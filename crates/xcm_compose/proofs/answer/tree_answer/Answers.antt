use Rattle.xcm_compose.proofs.Judging.{made_only, refused_has_none, judges_refused}
use Rattle.xcm_compose.proofs.answer.tree_answer.Goals as goal

pub judged-requires : goal.judged-requires
judged-requires c = made_only c.args.tree.now c.in-Ok.made c.in-Ok.ensures

pub returns-in-Err-Row : goal.returns-in-Err-Row
returns-in-Err-Row c = judges_refused _ _ (c.refusal.ensures c.args.tree.now (refused_has_none c.args.tree.now c.in-Err-Row.field-0 c.in-Err-Row.ensures (λ e. cc (c.in-Err-Row.field-0-is, e))))
