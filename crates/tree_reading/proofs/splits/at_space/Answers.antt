use Rattle.tree_reading.proofs.Solid.{space_split}
use Rattle.tree_reading.proofs.splits.at_space.Goals as goal

pub returns : goal.returns
returns c = λ one rest solid e. space_split _ one rest c.split_once.result c.split_once.ensures.cases solid e
