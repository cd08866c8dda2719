use Rattle.std.proofs.Common.{Ok, refl, ap, subst}
use Rattle.exec_base.specs.Host.{fee_to}
use Rattle.exec_rules.specs.Machine.{machine}
use Rattle.exec_holding.specs.Holding.{RanTo}
use Rattle.exec_holding.specs.Charging.{Begins}
use Rattle.exec_transfers.proofs.Around.{may_end, end_ran}
use Rattle.operands.specs.declared.query.Response.{Response}
use Rattle.operands.specs.declared.query.Response.TheVariants as response
use Rattle.exec_rules.specs.Reports.{report_refused, report_done}
use Rattle.exec_transfers.proofs.Forwarding.{report_forwardable}
use Rattle.exec_transfers.proofs.Inside.{status_inside}
use Rattle.exec_transfers.proofs.reports.report_transact_status.Goals as goal

pub report-requires : goal.report-requires
report-requires g c = record { forwardable = report_forwardable c.args.info.now (response.DispatchResult c.in_ok-status-in-Ok.status) c.begin_sending.new.r.origin refl }

pub end_sending-requires : goal.end_sending-requires
end_sending-requires g c =
    let m = machine c.args.r.now (g.H.Host.part c.args.h.now) in
    let n = machine c.begin_sending.new.r (g.H.Host.part c.begin_sending.new.h) in
    let begun : Begins (fee_to m.part c.args.info.now.destination) m (Ok c.in-Ok.charged) n = rw c.in-Ok.is at c.in_ok-charged.ensures.ok in
    let k = machine c.report.new.r (g.H.Host.part c.report.new.h) in
    let ran = subst (λ (x : Response). RanTo (report_refused n c.args.info.now x) (report_done n c.args.info.now x) n c.in_ok-answer-in-Ok.answer k) (ap response.DispatchResult c.in_ok-status-in-Ok.ensures) c.in_ok-answer-in-Ok.ensures.ok in
    record { can = may_end _ _ _ _ _ _ (status_inside m c.args.info.now) n k c.in-Ok.charged c.in_ok-answer-in-Ok.answer c.requires.ready.steady begun ran }

pub returns-in_ok-answer-in-Ok-clause-ok : goal.returns-in_ok-answer-in-Ok-clause-ok
returns-in_ok-answer-in-Ok-clause-ok g c =
    let m = machine c.args.r.now (g.H.Host.part c.args.h.now) in
    let n = machine c.begin_sending.new.r (g.H.Host.part c.begin_sending.new.h) in
    let begun : Begins (fee_to m.part c.args.info.now.destination) m (Ok c.in-Ok.charged) n = rw c.in-Ok.is at c.in_ok-charged.ensures.ok in
    let k = machine c.report.new.r (g.H.Host.part c.report.new.h) in
    let ran = subst (λ (x : Response). RanTo (report_refused n c.args.info.now x) (report_done n c.args.info.now x) n c.in_ok-answer-in-Ok.answer k) (ap response.DispatchResult c.in_ok-status-in-Ok.ensures) c.in_ok-answer-in-Ok.ensures.ok in
    end_ran _ _ _ _ _ _ (status_inside m c.args.info.now) n k (machine c.end_sending.new.r (g.H.Host.part c.end_sending.new.h)) c.in-Ok.charged c.in_ok-answer-in-Ok.answer c.end_sending.result c.requires.ready.steady begun ran c.end_sending.ensures
