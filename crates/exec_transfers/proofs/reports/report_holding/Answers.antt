use Rattle.std.proofs.Common.{Ok}
use Rattle.exec_base.specs.Host.{fee_to}
use Rattle.exec_rules.specs.Machine.{machine}
use Rattle.exec_holding.specs.Charging.{Begins}
use Rattle.exec_transfers.proofs.Around.{may_end, end_ran}
use Rattle.exec_transfers.proofs.Inside.{holding_inside}
use Rattle.exec_transfers.proofs.reports.report_holding.Goals as goal

pub end_sending-requires : goal.end_sending-requires
end_sending-requires g c =
    let m = machine c.args.r.now (g.H.Host.part c.args.h.now) in
    let n = machine c.begin_sending.new.r (g.H.Host.part c.begin_sending.new.h) in
    let begun : Begins (fee_to m.part c.args.info.now.destination) m (Ok c.in-Ok.charged) n = rw c.in-Ok.is at c.in_ok-charged.ensures.ok in
    let k = machine c.report_held.new.r (g.H.Host.part c.report_held.new.h) in
    record { can = may_end _ _ _ _ _ _ (holding_inside m c.args.info.now c.args.assets.now) n k c.in-Ok.charged c.in_ok-answer-in-Ok.answer c.requires.ready.steady begun c.in_ok-answer-in-Ok.ensures.ok }

pub returns-in_ok-answer-in-Ok-clause-ok : goal.returns-in_ok-answer-in-Ok-clause-ok
returns-in_ok-answer-in-Ok-clause-ok g c =
    let m = machine c.args.r.now (g.H.Host.part c.args.h.now) in
    let n = machine c.begin_sending.new.r (g.H.Host.part c.begin_sending.new.h) in
    let begun : Begins (fee_to m.part c.args.info.now.destination) m (Ok c.in-Ok.charged) n = rw c.in-Ok.is at c.in_ok-charged.ensures.ok in
    let k = machine c.report_held.new.r (g.H.Host.part c.report_held.new.h) in
    end_ran _ _ _ _ _ _ (holding_inside m c.args.info.now c.args.assets.now) n k (machine c.end_sending.new.r (g.H.Host.part c.end_sending.new.h)) c.in-Ok.charged c.in_ok-answer-in-Ok.answer c.end_sending.result c.requires.ready.steady begun c.in_ok-answer-in-Ok.ensures.ok c.end_sending.ensures
