use Rattle.law_steps.proofs.Lemmas.Insides.{kept_in_delivery, kept_stopped_delivery}
use Rattle.law_steps.proofs.laws.law_of_conserved_deliveries.Goals as goal

pub returns : goal.returns
returns c =
    let below = c.law_of_premises_of_conservation.ensures in
    record {
      inside = λ order w steps d a g f ok on. kept_in_delivery below.below below.shapes below.decodes order w steps f d a ok g on;
      stopped = λ order w steps d now f stops. kept_stopped_delivery below.below below.shapes below.decodes order w steps f d now stops;
    }
