use Rattle.std.proofs.Common.{◌-◌, ◌≤◌, ◌≡◌, false}
use Rattle.network_steps.specs.Genesis.{order_of}
use Rattle.chain_net.specs.Nets.{world_of, spec_of, is_stopped}
use Rattle.generator.specs.Turns.{steps_from}
use Rattle.generator.specs.Generated.{all_steps}
use Rattle.generator.proofs.Going.{Goes}
use Rattle.generator.proofs.running.run_steps.Given as goal

abbrev pub invariant-steps : goal.invariant-steps
invariant-steps l = record {
  goes : Goes (order_of (spec_of l.initial.net)) (world_of l.initial.net) (steps_from l.steps l.number) l.counts (world_of l.net) (steps_from (l.steps - l.done) l.draws.state);
  counted : all_steps l.counts ≡ l.done;
  within : l.done ≤ l.steps;
  running : is_stopped l.net ≡ false;
  spec : spec_of l.net ≡ spec_of l.initial.net;
}

abbrev pub decreases-steps : goal.decreases-steps
decreases-steps l = l.steps - l.done
