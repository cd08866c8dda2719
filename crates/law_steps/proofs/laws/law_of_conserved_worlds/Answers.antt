use Rattle.law_steps.proofs.Lemmas.Stepping.{worlds_kept, kept_between, worlds_sound}
use Rattle.law_steps.proofs.laws.law_of_conserved_worlds.Goals as goal

pub returns : goal.returns
returns c =
    let below = c.law_of_premises_of_conservation.ensures in
    record {
      kept = worlds_kept below.below below.shapes below.decodes;
      between = λ order w steps f. kept_between below.below below.shapes below.decodes order w steps f;
      sound = worlds_sound below.below below.shapes below.decodes;
    }
