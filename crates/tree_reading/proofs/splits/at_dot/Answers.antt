use Rattle.tree_reading.proofs.Solid.{dot_split}
use Rattle.tree_reading.proofs.splits.at_dot.Goals as goal

pub returns : goal.returns
returns c = λ one rest dotless e. dot_split _ one rest c.split_once.result c.split_once.ensures.cases dotless e
