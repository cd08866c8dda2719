use Rattle.std.proofs.Common.{take}
use Rattle.std.specs.Prelude.{map}
use Rattle.chain_queues.specs.Queues.{outgoing_of}
use Rattle.supply_audit.specs.Places.{total_sent}
use Rattle.supply_audit.specs.Found.{AreSumsOf, Rise}
use Rattle.supply_audit.proofs.row_sums.add_channels.Given as goal

abbrev pub invariant-loop-queue : goal.invariant-loop-queue
invariant-loop-queue l = record {
  sums : AreSumsOf l.ledger.listed l.sums;
  rise : Rise l.ledger.listed l.initial.sums l.sums (λ k. total_sent l.what l.to (map outgoing_of (take l.queue-index l.channels)) k.0 k.1);
}
