-- Lemmas on the definitions of `specs/Promise.antt`: what proofs cite.
use Rattle.std.specs.Prelude.{List}
use Rattle.network_spec.specs.declared.network.NetworkSpec.{NetworkSpec}
use Rattle.network_steps.specs.Genesis.{first_world, order_of}
use Rattle.network_steps.specs.Steps.{Step}
use Rattle.law_steps.specs.Drained.{by_deliveries}

-- the steps with each drain as the deliveries that it makes, one by one
abbrev pub singly : NetworkSpec → List Step → List Step
singly spec steps = by_deliveries (order_of spec) (first_world spec) steps
