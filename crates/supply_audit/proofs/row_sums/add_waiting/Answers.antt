use Rattle.std.proofs.Common.{◌+◌, ap, take, arith}
use Rattle.std.specs.Prelude.{map, sum_by}
use Rattle.std.proofs.lemmas.List.{take_all}
use Rattle.channel_parts.specs.Channels.{Waiting}
use Rattle.chain_queues.specs.Queues.{outgoing_of, waiting_of}
use Rattle.supply_audit.specs.Places.{carried_amount, in_channel}
use Rattle.supply_audit.proofs.Found.{map_more, rise_along, rise_twice}
use Rattle.supply_audit.proofs.row_sums.add_waiting.Goals as goal

pub loop-i-preserved : goal.loop-i-preserved
loop-i-preserved c =
    let items = c.args.queue.now.waiting.items in
    let i = c.loop-i.i in
    record {
      sums = c.add_cargo.ensures.sums;
      rise = rise_twice c.args.ledger.now.listed c.args.sums.now c.loop-i.sums c.add_cargo.new.sums
          (λ k. sum_by (λ (w : Waiting). carried_amount c.args.what k.0 k.1 w.cargo) (map waiting_of (take i items))) (λ k. carried_amount c.args.what k.0 k.1 c.index.result.now.cargo)
          (λ k. sum_by (λ (w : Waiting). carried_amount c.args.what k.0 k.1 w.cargo) (map waiting_of (take (i + 1) items)))
          (λ k. map_more waiting_of (λ (w : Waiting). carried_amount c.args.what k.0 k.1 w.cargo) items i c.index.result.now (omega arith) c.index.ensures)
          c.loop-i.invariant.rise c.add_cargo.ensures.rise;
    }

pub returns-clause-rise : goal.returns-clause-rise
returns-clause-rise c =
    let items = c.args.queue.now.waiting.items in
    rise_along c.args.ledger.now.listed c.args.sums.now c.loop-i.sums
    (λ k. sum_by (λ (w : Waiting). carried_amount c.args.what k.0 k.1 w.cargo) (map waiting_of (take c.loop-i.i items))) (λ k. in_channel c.args.what k.0 k.1 (outgoing_of c.args.queue.now))
    (λ k. ap (λ ys. sum_by (λ (w : Waiting). carried_amount c.args.what k.0 k.1 w.cargo) (map waiting_of ys)) (take_all c.loop-i.i items (omega arith))) c.loop-i.invariant.rise
