use Rattle.std.proofs.Common.{Ok, ap, ◌∙◌}
use Rattle.std.proofs.lemmas.Result.{err_from_is_err_and}
use Rattle.call_dispatch.specs.Shifts.{RowAmounts}
use Rattle.call_dispatch.specs.TakingBack.{taken_back}
use Rattle.call_dispatch.proofs.Batches.{nothing_done, first_fails, all_done, rest_fails, rest_stays, stops_first, stops_later, stops_back, can_take_back, took_back}
use Rattle.call_dispatch.proofs.dispatching.+dispatch_items.Goals as goal

pub returns-in_default-clause-ok : goal.returns-in_default-clause-ok
returns-in_default-clause-ok g t c = nothing_done _ _ _ (g.M.Mover.amounts c.args.m.now) c.args.items.now c.in_default.ensures.cases

pub returns-in-Error-clause-ok : goal.returns-in-Error-clause-ok
returns-in-Error-clause-ok g t c =
    let done = rw c.in-Error.is at c.in_ok-code.ensures.ok in
    first_fails _ _ _ (g.M.Mover.amounts c.args.m.now) c.args.items.now c.in-Some.item.now c.in-Some.rest.now c.in-Some.ensures.cases.0 (g.M.Mover.amounts c.dispatch_item.new.m) c.in-Error.code done

pub returns-in_err-code-clause-err : goal.returns-in_err-code-clause-err
returns-in_err-code-clause-err g t c =
    let p = err_from_is_err_and c.from_residual.result c.from_residual.ensures.1 in
    rw p.1 (stops_first _ _ _ (g.M.Mover.amounts c.args.m.now) c.args.items.now c.in-Some.item.now c.in-Some.rest.now c.in-Some.ensures.cases.0 (g.M.Mover.amounts c.dispatch_item.new.m) c.in_err-code.ensures.err)

pub returns-in-Success-2-clause-ok : goal.returns-in-Success-2-clause-ok
returns-in-Success-2-clause-ok g t c =
    let done = rw c.in-Success.is at c.in_ok-code.ensures.ok in
    let same = c.in_ok-code.ensures.beside in
    let rest = rw (c.in-Success-2.is, same.floors, same.rows) at c.in_ok-dispatch_items-in-Success.ensures.ok in
    all_done _ _ _ (g.M.Mover.amounts c.args.m.now) c.args.items.now c.in-Some.item.now c.in-Some.rest.now c.in-Some.ensures.cases.0 (g.M.Mover.amounts c.dispatch_item.new.m) done (g.M.Mover.amounts c.dispatch_items.new.m) rest

pub returns-in_err-dispatch_items-in-Success-clause-err : goal.returns-in_err-dispatch_items-in-Success-clause-err
returns-in_err-dispatch_items-in-Success-clause-err g t c =
    let done = rw c.in-Success.is at c.in_ok-code.ensures.ok in
    let same = c.in_ok-code.ensures.beside in
    let rest = rw (same.floors, same.rows) at c.in_err-dispatch_items-in-Success.ensures.err in
    let p = err_from_is_err_and c.from_residual-in_err-dispatch_items-in-Success.result c.from_residual-in_err-dispatch_items-in-Success.ensures.1 in
    rw p.1 (stops_later _ _ _ (g.M.Mover.amounts c.args.m.now) c.args.items.now c.in-Some.item.now c.in-Some.rest.now c.in-Some.ensures.cases.0 (g.M.Mover.amounts c.dispatch_item.new.m) done (g.M.Mover.amounts c.dispatch_items.new.m) rest)

pub take_back-requires : goal.take_back-requires
take_back-requires g t c =
    let done = rw c.in-Success.is at c.in_ok-code.ensures.ok in
    let same = c.in_ok-code.ensures.beside in
    let later = c.in_ok-dispatch_items-in-Success.ensures.beside in
    let failed = rw (c.in-Error-2.is, same.floors, same.rows) at c.in_ok-dispatch_items-in-Success.ensures.ok in
    let stays = rest_stays _ _ _ (g.M.Mover.amounts c.dispatch_item.new.m) (g.M.Mover.amounts c.dispatch_items.new.m) c.in-Some.rest.now c.in-Error-2.code failed in
    rw (stays, later.floors, same.floors, later.rows, same.rows)
    (can_take_back _ _ _ (g.M.Mover.amounts c.args.m.now) (g.M.Mover.amounts c.dispatch_item.new.m) c.in-Some.item.now (g.met.M.Mover.kept c.args.m.now) (c.in_ok-code.ensures.had (ap Ok c.in-Success.is)) done)

pub returns-in_err-take_back-in-Error-2-clause-err : goal.returns-in_err-take_back-in-Error-2-clause-err
returns-in_err-take_back-in-Error-2-clause-err g t c =
    let done = rw c.in-Success.is at c.in_ok-code.ensures.ok in
    let same = c.in_ok-code.ensures.beside in
    let failed = rw (c.in-Error-2.is, same.floors, same.rows) at c.in_ok-dispatch_items-in-Success.ensures.ok in
    let stays = rest_stays _ _ _ (g.M.Mover.amounts c.dispatch_item.new.m) (g.M.Mover.amounts c.dispatch_items.new.m) c.in-Some.rest.now c.in-Error-2.code failed in
    let p = err_from_is_err_and c.from_residual-in_err-take_back-in-Error-2.result c.from_residual-in_err-take_back-in-Error-2.ensures.1 in
    rw p.1
    (stops_back _ _ _ (g.M.Mover.amounts c.args.m.now) c.args.items.now c.in-Some.item.now c.in-Some.rest.now c.in-Some.ensures.cases.0 (g.M.Mover.amounts c.dispatch_item.new.m) done (g.M.Mover.amounts c.take_back.new.m) (g.M.Mover.amounts c.dispatch_items.new.m) c.in-Error-2.code (c.in_err-take_back-in-Error-2.ensures.err ∙ stays) failed)

pub returns-in_ok-take_back-in-Error-2-clause-ok : goal.returns-in_ok-take_back-in-Error-2-clause-ok
returns-in_ok-take_back-in-Error-2-clause-ok g t c =
    let done = rw c.in-Success.is at c.in_ok-code.ensures.ok in
    let same = c.in_ok-code.ensures.beside in
    let failed = rw (c.in-Error-2.is, same.floors, same.rows) at c.in_ok-dispatch_items-in-Success.ensures.ok in
    let stays = rest_stays _ _ _ (g.M.Mover.amounts c.dispatch_item.new.m) (g.M.Mover.amounts c.dispatch_items.new.m) c.in-Some.rest.now c.in-Error-2.code failed in
    let back = c.in_ok-take_back-in-Error-2.ensures.ok ∙ ap (λ (x : RowAmounts). taken_back x c.args.who.now c.in-Some.item.now) stays ∙ took_back _ _ _ (g.M.Mover.amounts c.args.m.now) (g.M.Mover.amounts c.dispatch_item.new.m) c.in-Some.item.now done in
    rw back (rest_fails _ _ _ (g.M.Mover.amounts c.args.m.now) c.args.items.now c.in-Some.item.now c.in-Some.rest.now c.in-Some.ensures.cases.0 (g.M.Mover.amounts c.dispatch_item.new.m) done (g.M.Mover.amounts c.dispatch_items.new.m) c.in-Error-2.code failed)
