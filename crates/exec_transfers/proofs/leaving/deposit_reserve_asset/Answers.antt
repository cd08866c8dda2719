use Rattle.std.proofs.Common.{Ok, refl}
use Rattle.exec_base.specs.Host.{fee_to}
use Rattle.exec_rules.specs.Machine.{machine}
use Rattle.exec_holding.specs.Charging.{Begins}
use Rattle.exec_transfers.proofs.Around.{begun_unparked, may_end, end_ran}
use Rattle.xcm_program.specs.declared.instruction.Instruction.TheOpen.{Instruction-F}
use Rattle.exec_transfers.proofs.Forwarding.{inner_forwardable}
use Rattle.exec_transfers.proofs.Inside.{deposit_inside}
use Rattle.exec_transfers.proofs.leaving.deposit_reserve_asset.Goals as goal

pub deposit_out-requires-clause-unparked : goal.deposit_out-requires-clause-unparked
deposit_out-requires-clause-unparked g c =
    let m = machine c.args.r.now (g.H.Host.part c.args.h.now) in
    let n = machine c.begin_sending.new.r (g.H.Host.part c.begin_sending.new.h) in
    let begun : Begins (fee_to m.part c.args.dest.now) m (Ok c.in-Ok.charged) n = rw c.in-Ok.is at c.in_ok-charged.ensures.ok in
    begun_unparked _ m n c.in-Ok.charged c.requires.ready.steady begun

pub deposit_out-requires-clause-forwardable : goal.deposit_out-requires-clause-forwardable
deposit_out-requires-clause-forwardable g c = inner_forwardable (Instruction-F.DepositReserveAsset c.args.assets.now c.args.dest.now c.args.xcm.now) c.args.xcm.now refl c.requires.ready.sound

pub end_sending-requires : goal.end_sending-requires
end_sending-requires g c =
    let m = machine c.args.r.now (g.H.Host.part c.args.h.now) in
    let n = machine c.begin_sending.new.r (g.H.Host.part c.begin_sending.new.h) in
    let begun : Begins (fee_to m.part c.args.dest.now) m (Ok c.in-Ok.charged) n = rw c.in-Ok.is at c.in_ok-charged.ensures.ok in
    let k = machine c.deposit_out.new.r (g.H.Host.part c.deposit_out.new.h) in
    record { can = may_end _ _ _ _ _ _ (deposit_inside m c.args.assets.now c.args.dest.now c.args.xcm.now) n k c.in-Ok.charged c.in_ok-answer-in-Ok.answer c.requires.ready.steady begun c.in_ok-answer-in-Ok.ensures.ok }

pub returns-in_ok-answer-in-Ok-clause-ok : goal.returns-in_ok-answer-in-Ok-clause-ok
returns-in_ok-answer-in-Ok-clause-ok g c =
    let m = machine c.args.r.now (g.H.Host.part c.args.h.now) in
    let n = machine c.begin_sending.new.r (g.H.Host.part c.begin_sending.new.h) in
    let begun : Begins (fee_to m.part c.args.dest.now) m (Ok c.in-Ok.charged) n = rw c.in-Ok.is at c.in_ok-charged.ensures.ok in
    let k = machine c.deposit_out.new.r (g.H.Host.part c.deposit_out.new.h) in
    end_ran _ _ _ _ _ _ (deposit_inside m c.args.assets.now c.args.dest.now c.args.xcm.now) n k (machine c.end_sending.new.r (g.H.Host.part c.end_sending.new.h)) c.in-Ok.charged c.in_ok-answer-in-Ok.answer c.end_sending.result c.requires.ready.steady begun c.in_ok-answer-in-Ok.ensures.ok c.end_sending.ensures
