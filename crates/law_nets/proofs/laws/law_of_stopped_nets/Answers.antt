use Rattle.std.proofs.Common.{ℕ, List, [], subst}
use Rattle.xcm_program.specs.declared.instruction.Instruction.{Instruction}
use Rattle.exec_base.specs.Part.{ChainPart}
use Rattle.exec_rules.specs.Execution.{IsAbandoned}
use Rattle.network_spec.specs.declared.network.NetworkSpec.{NetworkSpec}
use Rattle.network_steps.specs.Worlds.{World}
use Rattle.network_steps.specs.Acting.{caller}
use Rattle.network_steps.specs.Steps.{Step}
use Rattle.network_steps.specs.Genesis.{order_of, first_world}
use Rattle.law_coherence.specs.Headline.{IsKept}
use Rattle.law_steps.specs.Views.{views}
use Rattle.law_steps.specs.Worlds.{IsFirst, AllKept, IsExecution, begins, where_stopped, IsDelivery, StopsAt, where_delivery_stopped}
use Rattle.law_steps.specs.Kept.{IsCoherent}
use Rattle.law_nets.specs.Excess.{NoExcess, NoExcessIn, NoExcessEver}
use Rattle.law_nets.specs.Stops.{ExecStops, DeliverStops, DrainStops}
use Rattle.law_nets.proofs.Stopped.{exec_kept, deliver_kept, drain_kept}
use Rattle.law_nets.proofs.StoppedBurns.{exec_none, deliver_none, drain_none}
use Rattle.law_nets.proofs.laws.law_of_stopped_nets.Goals as goal

pub returns : goal.returns
returns c =
    let first : (spec : NetworkSpec) → IsCoherent spec → IsFirst (first_world spec) = λ spec coherent. c.law_of_conserved_networks.ensures.first spec coherent in
    let kept : (spec : NetworkSpec) → IsCoherent spec → (steps : List Step) → AllKept (order_of spec) (first_world spec) steps = λ spec coherent steps. c.law_of_conserved_networks.ensures.kept spec steps coherent in
    let none : (spec : NetworkSpec) → IsCoherent spec → (steps : List Step) → NoExcessEver (order_of spec) (first_world spec) steps = λ spec coherent steps. c.law_of_unsaturated_worlds.ensures.networks spec steps coherent in
    let none_first : (spec : NetworkSpec) → IsCoherent spec → NoExcessIn (first_world spec) = λ spec coherent. (none spec coherent []).0 in
    let here : (spec : NetworkSpec) → IsCoherent spec → (steps : List Step) (account : List ℕ) (program : List Instruction) (x : IsExecution (order_of spec) (first_world spec) steps account program) (now : ChainPart)
    → IsAbandoned x.member.rules (caller account) x.member.rules.limit program (begins x.member) now → IsKept (views (first_world spec)) (where_stopped x.world x.place now) =
    λ spec coherent steps account program x now. c.law_of_conserved_executions.ensures.stopped (order_of spec) (first_world spec) steps account program x now (first spec coherent) in
    let there : (spec : NetworkSpec) → IsCoherent spec → (steps : List Step) (d : IsDelivery (order_of spec) (first_world spec) steps) (now : ChainPart) → StopsAt d.sender d.receiver d.message now
    → IsKept (views (first_world spec)) (where_delivery_stopped d.world d.from d.sender d.to d.receiver now) =
    λ spec coherent steps d now. c.law_of_conserved_deliveries.ensures.stopped (order_of spec) (first_world spec) steps d now (first spec coherent) in
    let none_here : (spec : NetworkSpec) → IsCoherent spec → (steps : List Step) (account : List ℕ) (program : List Instruction) (x : IsExecution (order_of spec) (first_world spec) steps account program) (now : ChainPart)
    → IsAbandoned x.member.rules (caller account) x.member.rules.limit program (begins x.member) now → NoExcess now.burns =
    λ spec coherent steps account program x now. c.law_of_unsaturated_runs.ensures.stopped_executions (order_of spec) (first_world spec) steps account program x now (first spec coherent) (none_first spec coherent) in
    let none_there : (spec : NetworkSpec) → IsCoherent spec → (steps : List Step) (d : IsDelivery (order_of spec) (first_world spec) steps) (now : ChainPart) → StopsAt d.sender d.receiver d.message now → NoExcess now.burns =
    λ spec coherent steps d now. c.law_of_unsaturated_runs.ensures.stopped_deliveries (order_of spec) (first_world spec) steps d now (first spec coherent) (none_first spec coherent) in
    record {
      exec = λ spec w now chain account bytes coherent past stops.
          let order = order_of spec in
          let old = first_world spec in
          let s = subst (λ (v : World). ExecStops v chain account bytes now) past.run stops in
          record {
            kept = exec_kept order old (kept spec coherent) (here spec coherent) (there spec coherent) past.steps chain account bytes now s;
            no_excess = exec_none order old (none spec coherent) (none_here spec coherent) (none_there spec coherent) past.steps chain account bytes now s;
          };
      deliver = λ spec w now from to coherent past stops.
          let order = order_of spec in
          let old = first_world spec in
          let s = subst (λ (v : World). DeliverStops v from to now) past.run stops in
          record {
            kept = deliver_kept order old (kept spec coherent) (here spec coherent) (there spec coherent) past.steps from to now s;
            no_excess = deliver_none order old (none spec coherent) (none_here spec coherent) (none_there spec coherent) past.steps from to now s;
          };
      drain = λ spec w now coherent past stops.
          let order = order_of spec in
          let old = first_world spec in
          let s = subst (λ (v : World). DrainStops order v now) past.run stops in
          record {
            kept = drain_kept order old (kept spec coherent) (here spec coherent) (there spec coherent) past.steps now s;
            no_excess = drain_none order old (none spec coherent) (none_here spec coherent) (none_there spec coherent) past.steps now s;
          };
    }
