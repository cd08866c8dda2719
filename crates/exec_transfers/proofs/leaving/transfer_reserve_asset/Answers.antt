use Rattle.std.proofs.Common.{Ok, Err, refl, ap, sym, ◌∙◌, Some}
use Rattle.exec_base.specs.Host.{fee_to}
use Rattle.exec_rules.specs.Machine.{machine}
use Rattle.exec_holding.specs.Charging.{Begins}
use Rattle.exec_transfers.proofs.Around.{begin_refused, may_end, end_ran}
use Rattle.xcm_program.specs.declared.instruction.Instruction.TheOpen.{Instruction-F}
use Rattle.exec_transfers.proofs.Forwarding.{inner_forwardable}
use Rattle.exec_transfers.proofs.Inside.{transfer_inside}
use Rattle.exec_transfers.proofs.leaving.transfer_reserve_asset.Goals as goal

pub transfer_out-requires : goal.transfer_out-requires
transfer_out-requires g c = record {
  forwardable = inner_forwardable (Instruction-F.TransferReserveAsset c.args.assets.now c.args.dest.now c.args.xcm.now) c.args.xcm.now refl c.requires.ready.sound;
}

pub end_sending-requires : goal.end_sending-requires
end_sending-requires g c =
    let m = machine c.args.r.now (g.H.Host.part c.args.h.now) in
    let n = machine c.begin_sending.new.r (g.H.Host.part c.begin_sending.new.h) in
    let begun : Begins (fee_to m.part c.args.dest.now) m (Ok c.in-Ok.charged) n = rw c.in-Ok.is at c.in_ok-charged.ensures.ok in
    let k = machine c.transfer_out.new.r (g.H.Host.part c.transfer_out.new.h) in
    record { can = may_end _ _ _ _ _ _ (transfer_inside m c.args.assets.now c.args.dest.now c.args.xcm.now c.assign.new.self (c.in-Some.is ∙ ap Some (sym c.assign.ensures))) n k c.in-Ok.charged c.in_ok-answer-in-Ok.answer c.requires.ready.steady begun c.in_ok-answer-in-Ok.ensures.ok }

pub returns-in_ok-answer-in-Ok-clause-ok : goal.returns-in_ok-answer-in-Ok-clause-ok
returns-in_ok-answer-in-Ok-clause-ok g c =
    let m = machine c.args.r.now (g.H.Host.part c.args.h.now) in
    let n = machine c.begin_sending.new.r (g.H.Host.part c.begin_sending.new.h) in
    let begun : Begins (fee_to m.part c.args.dest.now) m (Ok c.in-Ok.charged) n = rw c.in-Ok.is at c.in_ok-charged.ensures.ok in
    let k = machine c.transfer_out.new.r (g.H.Host.part c.transfer_out.new.h) in
    end_ran _ _ _ _ _ _ (transfer_inside m c.args.assets.now c.args.dest.now c.args.xcm.now c.assign.new.self (c.in-Some.is ∙ ap Some (sym c.assign.ensures))) n k (machine c.end_sending.new.r (g.H.Host.part c.end_sending.new.h)) c.in-Ok.charged c.in_ok-answer-in-Ok.answer c.end_sending.result c.requires.ready.steady begun c.in_ok-answer-in-Ok.ensures.ok c.end_sending.ensures

pub returns-in-Err-clause-ok : goal.returns-in-Err-clause-ok
returns-in-Err-clause-ok g c =
    let m = machine c.args.r.now (g.H.Host.part c.args.h.now) in
    let n = machine c.begin_sending.new.r (g.H.Host.part c.begin_sending.new.h) in
    let begun : Begins (fee_to m.part c.args.dest.now) m (Err c.in-Err.e) n = rw c.in-Err.is at c.in_ok-charged.ensures.ok in
    begin_refused _ _ _ _ _ _ (transfer_inside m c.args.assets.now c.args.dest.now c.args.xcm.now c.assign.new.self (c.in-Some.is ∙ ap Some (sym c.assign.ensures))) n c.in-Err.e begun
