use Rattle.std.proofs.Common.{◌≡◌, min, take}
use Rattle.asset_lists.specs.declared.units.AssetId.TheVariants.{Concrete}
use Rattle.std.specs.Prelude.{map, sum_by}
use Rattle.asset_bundles.specs.Books.{most_burned}
use Rattle.asset_bundles.specs.Totals.{total_value}
use Rattle.channel_parts.specs.Channels.{Waiting}
use Rattle.chain_queues.specs.Queues.{waiting_of}
use Rattle.supply_audit.specs.Places.{carried_amount}
use Rattle.supply_audit.proofs.messages.in_channel.Given as goal

abbrev pub invariant-loop-i : goal.invariant-loop-i
invariant-loop-i l = total_value l.total ≡ min (sum_by (λ (w : Waiting). carried_amount l.what (Concrete l.id) l.kind w.cargo) (map waiting_of (take l.i l.queue.waiting.items))) most_burned
