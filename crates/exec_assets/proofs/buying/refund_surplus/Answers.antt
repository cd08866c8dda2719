use Rattle.std.proofs.Common.{Bool, None, ap, sym, ◌∙◌}
use Rattle.operands.specs.declared.error.XcmError.TheVariants as error
use Rattle.operands.specs.declared.weight.Weight.{Weight}
use Rattle.weight_trader.specs.Refunds.{refund_of}
use Rattle.exec_base.specs.Sending.{unless}
use Rattle.exec_base.specs.Host.{refund_goods, refunded}
use Rattle.exec_rules.specs.Machine.{machine}
use Rattle.exec_assets.proofs.Joining.{refunded_joinable}
use Rattle.exec_assets.proofs.buying.refund_surplus.Goals as goal

pub hold-requires : goal.hold-requires
hold-requires g c =
    let p = g.H.Host.part c.args.h.now in
    record {
      joinable = refunded_joinable c.law_of_readiness.ensures.done (machine c.args.r.now p) (g.H.Host.part c.refund.new.self) (c.in-Some.coin, c.in-Some.field-0-1) c.in_ok-goods.goods c.requires.ready.steady
          (ap (λ (w : Weight). refund_of w p.lines) (sym c.not_refunded-weight.ensures) ∙ sym c.in-Some.ensures)
          (ap (λ (b : Bool). unless b error.HoldingWouldOverflow None) (sym c.takes_in.ensures ∙ c.if-not-takes_in.false))
          (c.in_ok-goods.ensures.step.0 ∙ ap (refund_goods p) c.not_refunded-weight.ensures)
          (c.in_ok-goods.ensures.step.1 ∙ ap (refunded p) c.not_refunded-weight.ensures);
    }
