use Rattle.network_coherence.proofs.Splits.{other_starts, short_back, other_middles, ends}
use Rattle.network_coherence.proofs.paths.is_same_split.Goals as goal

pub returns-then-not-are_same : goal.returns-then-not-are_same
returns-then-not-are_same c = other_starts _ _ _ _ c.requires _ _ c.split_at.ensures.front c.are_same.ensures c.if-not-are_same.true

pub returns-then-back-rest : goal.returns-then-back-rest
returns-then-back-rest c = short_back _ _ _ _ c.requires _ c.split_at.ensures.back c.if-back-rest.true

pub returns-then-not-are_same-2 : goal.returns-then-not-are_same-2
returns-then-not-are_same-2 c = other_middles _ _ _ _ c.requires _ _ _ c.split_at.ensures.back c.split_at-2.ensures.front c.are_same-2.ensures c.if-not-are_same-2.true

pub returns : goal.returns
returns c = ends _ _ _ _ c.requires _ _ _ _ _ c.split_at.ensures.front (c.are_same.ensures.0 c.if-not-are_same.false) c.split_at.ensures.back c.split_at-2.ensures.front (c.are_same-2.ensures.0 c.if-not-are_same-2.false) c.split_at-2.ensures.back c.are_same-3.ensures
