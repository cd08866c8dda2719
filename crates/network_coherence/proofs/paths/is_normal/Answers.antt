use Rattle.network_coherence.proofs.Normals.{normal_answer}
use Rattle.network_coherence.proofs.paths.is_normal.Goals as goal

pub returns : goal.returns
returns c = normal_answer _ _ _ c.is_normal.ensures
