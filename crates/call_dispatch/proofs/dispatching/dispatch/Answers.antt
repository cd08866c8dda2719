use Rattle.std.proofs.Common.{List, subst}
use Rattle.std.specs.Prelude.{OnErr}
use Rattle.call_dispatch.specs.Spelling.{Item}
use Rattle.call_dispatch.specs.Dispatches.{HasDoneFront}
use Rattle.call_dispatch.proofs.Batches.{stops_before, stops_front}
use Rattle.call_dispatch.proofs.dispatching.dispatch.Goals as goal

pub returns-in-Transfer-clause-err : goal.returns-in-Transfer-clause-err
returns-in-Transfer-clause-err g c = rw c.in-Transfer.is (stops_before _ _ _ c.dispatch_transfer.result (g.M.Mover.amounts c.args.m.now) (g.M.Mover.amounts c.dispatch_transfer.new.m) c.dispatch_transfer.ensures.err)

pub returns-in-Batch-clause-err : goal.returns-in-Batch-clause-err
returns-in-Batch-clause-err g c =
    let front = stops_front _ _ _ c.dispatch_items.result (g.M.Mover.amounts c.args.m.now) (g.M.Mover.amounts c.dispatch_items.new.m) c.items.result.now c.dispatch_items.ensures.err in
    rw c.in-Batch.is
    (subst (λ (items : List Item). OnErr c.dispatch_items.result (HasDoneFront (g.M.Mover.amounts c.args.m.now) (g.M.Mover.floors c.args.m.now) (g.M.Mover.rows c.args.m.now) c.args.who.now items (g.M.Mover.amounts c.dispatch_items.new.m))) c.items.ensures.same front)
