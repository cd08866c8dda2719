use Rattle.std.proofs.Common.{◌≡◌, true, Some, Ok, ap, ◌∙◌, sym}
use Rattle.trust_tables.specs.Accounts.{account_of}
use Rattle.trust_tables.specs.declared.chains.Site.{Site}
use Rattle.call_dispatch.specs.Reading.{call_of}
use Rattle.exec_base.specs.Calls.{IsDispatchedInPart}
use Rattle.exec_rules.specs.Machine.{machine}
use Rattle.exec_rules.specs.Calls.{account_by, caller_in}
use Rattle.exec_control.proofs.Stopped.{was_read, stopped_by, stopped, on_err}
use Rattle.exec_control.proofs.calls.transact.Goals as goal

-- src/calls.rt:93:15
pub returns-in_err-end-clause-err : goal.returns-in_err-end-clause-err
returns-in_err-end-clause-err g c =
    let m = machine c.args.r.now (g.H.Host.part c.args.h.now) in
    let told = c.calls.ensures in
    let served = c.if-not-calls.false in
    let serves : m.part.calls ≡ true = cc in
    let read : call_of c.args.call.now ≡ Ok c.in-Ok.found = ap call_of (sym c.items.ensures.same) ∙ was_read c.in-Ok.found c.items.result.now c.in-Ok.ensures.read in
    let called : caller_in m c.args.origin_kind c.in-Some.who ≡ Some c.in-Some-caller_of.account =
    ap (λ (s : Site). account_by c.args.origin_kind (account_of c.in-Some.who s)) (sym c.site.ensures) ∙ sym c.in-Some-caller_of.ensures in
    let step : IsDispatchedInPart m.part c.in-Some-caller_of.account c.in-Ok.found (g.H.Host.part c.dispatch.new.self) =
    stopped_by m.part c.in-Some-caller_of.account c.in-Ok.found c.dispatch.result (g.H.Host.part c.dispatch.new.self) serves c.dispatch.ensures.step c.in_err-end.was in
    on_err c.from_residual-in_err-end.result
    (stopped m c.args.origin_kind c.args.require_weight_at_most c.args.call.now c.in-Some.who c.in-Ok.found c.in-Some-caller_of.account (g.H.Host.part c.dispatch.new.self) c.in-Some.is serves read called step)
