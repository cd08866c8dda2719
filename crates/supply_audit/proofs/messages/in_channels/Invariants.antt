use Rattle.std.proofs.Common.{◌≡◌, min, take}
use Rattle.asset_lists.specs.declared.units.AssetId.TheVariants.{Concrete}
use Rattle.asset_bundles.specs.Books.{most_burned}
use Rattle.asset_bundles.specs.Totals.{total_value}
use Rattle.std.specs.Prelude.{map}
use Rattle.chain_queues.specs.Queues.{outgoing_of}
use Rattle.supply_audit.specs.Places.{total_sent}
use Rattle.supply_audit.proofs.messages.in_channels.Given as goal

abbrev pub invariant-loop-queue : goal.invariant-loop-queue
invariant-loop-queue l = total_value l.total ≡ min (total_sent l.what l.to (map outgoing_of (take l.queue-index l.channels)) (Concrete l.id) l.kind) most_burned
