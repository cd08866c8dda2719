use Rattle.std.proofs.Common.{length}
use Rattle.call_dispatch.proofs.dispatching.+dispatch_items.Given as goal

abbrev pub decreases-dispatch_items : goal.decreases-dispatch_items
decreases-dispatch_items g l = length l.items.now
