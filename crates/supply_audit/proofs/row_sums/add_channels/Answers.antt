use Rattle.std.proofs.Common.{◌+◌, take}
use Rattle.std.specs.Prelude.{map}
use Rattle.chain_queues.specs.Queues.{outgoing_of}
use Rattle.supply_audit.specs.Places.{channel_share, total_sent}
use Rattle.supply_audit.proofs.Found.{map_more, rise_twice}
use Rattle.supply_audit.proofs.row_sums.add_channels.Goals as goal

pub loop-queue-preserved : goal.loop-queue-preserved
loop-queue-preserved c =
    let channels = c.args.channels.now in
    let i = c.loop-queue.queue-index in
    record {
      sums = c.add_channel.ensures.sums;
      rise = rise_twice c.args.ledger.now.listed c.args.sums.now c.loop-queue.sums c.add_channel.new.sums
          (λ k. total_sent c.args.what c.args.to (map outgoing_of (take i channels)) k.0 k.1) (λ k. channel_share c.args.what c.args.to k.0 k.1 (outgoing_of c.queue-item.result))
          (λ k. total_sent c.args.what c.args.to (map outgoing_of (take (i + 1) channels)) k.0 k.1)
          (λ k. map_more outgoing_of (channel_share c.args.what c.args.to k.0 k.1) channels i c.queue-item.result c.loop-queue-test.true c.queue-item.is)
          c.loop-queue.invariant.rise c.add_channel.ensures.rise;
    }
