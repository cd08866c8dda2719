use Rattle.exec_base.specs.Host.{deposit_refusal, deposited}
use Rattle.exec_rules.specs.Machine.{machine}
use Rattle.exec_holding.proofs.Lemmas.{slot_by_mode, slot_by_origin, few_after_refusal}
use Rattle.exec_holding.proofs.fees.give_back.Goals as goal

pub put_back-requires : goal.put_back-requires
put_back-requires g c = record {
  returnable = slot_by_mode (machine c.args.r.now (g.H.Host.part c.args.h.now)) _ (g.H.Host.part c.take_fee-goods.new.self) c.requires.refundable c.if-not-r.true c.take_fee-goods.ensures.goods c.take_fee-goods.ensures.step;
}

pub put_back-requires-in_default : goal.put_back-requires-in_default
put_back-requires-in_default g c = record {
  returnable = slot_by_origin (machine c.args.r.now (g.H.Host.part c.args.h.now)) _ (g.H.Host.part c.take_fee-goods.new.self) c.requires.refundable c.in_default.is c.take_fee-goods.ensures.goods c.take_fee-goods.ensures.step;
}

pub park-requires : goal.park-requires
park-requires g c =
    let p = g.H.Host.part c.take_fee-goods.new.self in
    record {
      few = few_after_refusal (machine c.args.r.now (g.H.Host.part c.args.h.now)) (deposit_refusal p c.take_fee-goods.result c.in-Some.who) c.take_fee-goods.result c.in-Err.goods
          (deposited p c.take_fee-goods.result c.in-Some.who) p (g.H.Host.part c.deposit.new.self) c.in-Err.fault c.requires.refundable c.take_fee-goods.ensures.step c.in-Err.ensures.step;
    }
