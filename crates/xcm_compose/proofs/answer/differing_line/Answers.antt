use Rattle.xcm_compose.proofs.answer.differing_line.Goals as goal

pub returns : goal.returns
returns c = c.refusal.ensures c.args.tree.now
