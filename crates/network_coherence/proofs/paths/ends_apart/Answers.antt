use Rattle.network_coherence.proofs.Ends.{one_end, some_in}
use Rattle.network_coherence.proofs.paths.ends_apart.Goals as goal

pub returns : goal.returns
returns c = λ told front other_front same.
    c.are_apart.ensures told
    (one_end c.args.a.now c.args.b.now _ (some_in _ _ c.is_empty.ensures c.if-is_empty.false) (some_in _ _ c.is_empty-else-is_empty.ensures c.if-is_empty-2.false) front other_front same)
