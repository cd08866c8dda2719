use Rattle.law_coherence.proofs.Lemmas.Bounds.{row_at_most, instances_at_most}
use Rattle.law_coherence.proofs.conserving.law_of_stock_within_supply.Goals as goal

pub returns : goal.returns
returns c = record { whole = row_at_most; instances = instances_at_most }
