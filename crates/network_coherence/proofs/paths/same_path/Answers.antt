use Rattle.network_coherence.proofs.Splits.{path_answer, paths_apart}
use Rattle.network_coherence.proofs.paths.same_path.Goals as goal

pub returns-then-ends_apart : goal.returns-then-ends_apart
returns-then-ends_apart c =
    paths_apart c.args.context.now c.args.other_context.now _ _ c.args.id.now c.args.other_id.now c.items-back.ensures.value c.items-other_back.ensures.value
    (c.ends_apart.ensures c.if-ends_apart.true)

pub returns : goal.returns
returns c = path_answer _ _ _ _ _ _ _ _ _ c.kept-front.ensures c.items-back.ensures.value c.kept-other_front.ensures c.items-other_back.ensures.value c.is_same_list.ensures
