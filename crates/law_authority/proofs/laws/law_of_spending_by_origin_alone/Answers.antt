use Rattle.law_authority.proofs.Acts.{done_spends}
use Rattle.law_authority.proofs.laws.law_of_spending_by_origin_alone.Goals as goal

pub returns : goal.returns
returns c = record { done = done_spends }
