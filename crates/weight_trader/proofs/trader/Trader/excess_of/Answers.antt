use Rattle.std.proofs.Common.{sym, ap, ◌∙◌}
use Rattle.std.specs.List.{position}
use Rattle.weight_trader.specs.Purchases.{is_covered, excess_at}
use Rattle.weight_trader.proofs.Charging.{too_expensive, paying_none, paying_at}
use Rattle.weight_trader.proofs.trader.Trader.excess_of.Goals as goal

pub returns-in_default : goal.returns-in_default
returns-in_default c =
    let first = sym (c.in_default.ensures ∙ ap (position (is_covered c.args.weight c.args.payment.now)) c.as_slice.ensures.value) in
    sym (ap (excess_at c.args.weight) (paying_none c.args.weight c.args.payment.now c.args.self.now (too_expensive _ _ c.self.inside.lines.items _ c.self.view_is first)))

pub returns : goal.returns
returns c =
    let first = sym (c.in-Some.ensures ∙ ap (position (is_covered c.args.weight c.args.payment.now)) c.as_slice.ensures.value) in
    c.excess_of.ensures
    ∙ sym (ap (excess_at c.args.weight) (paying_at _ _ c.self.inside.lines.items _ c.in-Some.place _ c.self.view_is first c.index.ensures))
