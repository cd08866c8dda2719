use Rattle.exec_holding.proofs.Lemmas.{drawn_slot, drawn_known}
use Rattle.exec_holding.proofs.fees.charge.Goals as goal

pub hold_fee-requires-clause-slot : goal.hold_fee-requires-clause-slot
hold_fee-requires-clause-slot g c = drawn_slot (g.H.Host.part c.args.h.now) (g.H.Host.part c.draw_fee.new.self) c.args.fee.now c.in-Some.who c.in-Ok.ensures.step.2 c.requires.slot

pub hold_fee-requires-clause-fee : goal.hold_fee-requires-clause-fee
hold_fee-requires-clause-fee g c =
    drawn_known (g.H.Host.part c.args.h.now) (g.H.Host.part c.draw_fee.new.self) c.args.fee.now c.in-Some.who c.in-Ok.goods c.in-Ok.ensures.step.2 c.in-Ok.ensures.step.1 c.requires.fee
