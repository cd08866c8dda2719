use Rattle.std.proofs.Common.{◌≡◌, false, string_bytes}
use Rattle.network_steps.specs.Genesis.{order_of}
use Rattle.network_steps.specs.Sends.{deliveries_left}
use Rattle.chain_net.specs.Nets.{world_of, spec_of, is_stopped}
use Rattle.report_blocks.proofs.DrainLines.{Drains}
use Rattle.report_blocks.proofs.draining.drained.Given as goal

abbrev pub invariant-deliveries : goal.invariant-deliveries
invariant-deliveries l = record {
  drains : Drains (order_of (spec_of l.initial.net)) (world_of l.initial.net) (world_of l.net) (string_bytes l.text) l.count;
  running : is_stopped l.net ≡ false;
  spec : spec_of l.net ≡ spec_of l.initial.net;
}

abbrev pub decreases-deliveries : goal.decreases-deliveries
decreases-deliveries l = deliveries_left (world_of l.net)
