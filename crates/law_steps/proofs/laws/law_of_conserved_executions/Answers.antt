use Rattle.law_steps.proofs.Lemmas.Insides.{kept_inside, stopped_kept}
use Rattle.law_steps.proofs.laws.law_of_conserved_executions.Goals as goal

pub returns : goal.returns
returns c =
    let below = c.law_of_premises_of_conservation.ensures in
    record {
      inside = λ order w steps account program x a g f ok reach. kept_inside below.below below.shapes below.decodes order w steps f account program x a ok g reach;
      stopped = λ order w steps account program x now f h. stopped_kept below.below below.shapes below.decodes order w steps f account program x now h;
    }
