use Rattle.law_nets.proofs.UnsaturatedWorlds.{inside_execution, stopped_execution, inside_delivery, stopped_delivery}
use Rattle.law_nets.proofs.overflow.law_of_unsaturated_runs.Goals as goal

pub returns : goal.returns
returns c =
    let below = c.law_of_premises_of_conservation.ensures in
    record {
      executions = λ order w steps account program x a g f all ok reach. inside_execution below.below below.shapes below.decodes order w steps f account program x all a g ok reach;
      stopped_executions = λ order w steps account program x now f all h. stopped_execution below.below below.shapes below.decodes order w steps f account program x all now h;
      deliveries = λ order w steps d a g f all ok reach. inside_delivery below.below below.shapes below.decodes order w steps f d all a g ok reach;
      stopped_deliveries = λ order w steps d now f all h. stopped_delivery below.below below.shapes below.decodes order w steps f d all now h;
    }
