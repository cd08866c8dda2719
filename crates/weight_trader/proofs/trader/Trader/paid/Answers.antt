use Rattle.std.proofs.Common.{sym, ap, ◌∙◌, subst}
use Rattle.weight_trader.specs.Purchases.{AreApart}
use Rattle.weight_trader.proofs.Bundles.{paid_in, paid_is, paid_next, paid_here, paid_end}
use Rattle.weight_trader.proofs.trader.Trader.paid.Goals as goal

pub returns-then-is_paid_in : goal.returns-then-is_paid_in
returns-then-is_paid_in c =
    c.paid.ensures ∙ sym (paid_here c.args.asset.now _ c.loop-line.line-index _ c.loop-line-test.true c.line-item.is (sym c.is_paid_in.ensures ∙ c.if-is_paid_in.true) c.loop-line.invariant)
    ∙ ap (paid_in c.args.asset.now) (c.as_slice-line-items.ensures.value ∙ c.self.view_is)
    ∙ paid_is c.args.asset.now _ (subst AreApart c.self.view_is c.self.invariant)

pub loop-line-preserved : goal.loop-line-preserved
loop-line-preserved c = paid_next c.args.asset.now _ c.loop-line.line-index _ c.loop-line-test.true c.line-item.is (sym c.is_paid_in.ensures ∙ c.if-is_paid_in.false) c.loop-line.invariant

pub returns : goal.returns
returns c =
    sym (paid_end c.args.asset.now _ c.loop-line.line-index c.loop-line-test.false c.loop-line.invariant)
    ∙ ap (paid_in c.args.asset.now) (c.as_slice-line-items.ensures.value ∙ c.self.view_is)
    ∙ paid_is c.args.asset.now _ (subst AreApart c.self.view_is c.self.invariant)
