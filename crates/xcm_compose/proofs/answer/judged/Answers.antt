use Rattle.xcm_compose.proofs.Judging.{judges_refused, undecoded_none}
use Rattle.xcm_compose.proofs.answer.judged.Goals as goal

pub returns-in-Ok-None : goal.returns-in-Ok-None
returns-in-Ok-None c =
    let none = rw c.in-Ok-None.field-0-is at c.in-Ok-None.ensures in
    judges_refused _ _ (c.refusal.ensures c.args.tree.now (undecoded_none c.args.made.now.number c.args.made.now.bytes.items c.args.tree.now c.requires (rw c.as_slice.ensures.value at none)))
