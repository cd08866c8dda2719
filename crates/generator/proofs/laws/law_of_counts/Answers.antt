use Rattle.generator.proofs.Going.{all_drawn_counted}
use Rattle.generator.proofs.laws.law_of_counts.Goals as goal

pub returns : goal.returns
returns c = all_drawn_counted
