use Rattle.std.proofs.Common.{take}
use Rattle.std.specs.Prelude.{map, sum_by}
use Rattle.channel_parts.specs.Channels.{Waiting}
use Rattle.chain_queues.specs.Queues.{waiting_of}
use Rattle.supply_audit.specs.Places.{carried_amount}
use Rattle.supply_audit.specs.Found.{AreSumsOf, Rise}
use Rattle.supply_audit.proofs.row_sums.add_waiting.Given as goal

abbrev pub invariant-loop-i : goal.invariant-loop-i
invariant-loop-i l = record {
  sums : AreSumsOf l.ledger.listed l.sums;
  rise : Rise l.ledger.listed l.initial.sums l.sums (λ k. sum_by (λ (w : Waiting). carried_amount l.fn.what k.0 k.1 w.cargo) (map waiting_of (take l.i l.queue.waiting.items)));
}
