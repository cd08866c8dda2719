use Rattle.std.proofs.Common.{length, sym, ap, ◌∙◌}
use Rattle.weight_trader.specs.Refunds.{Closed}
use Rattle.weight_trader.proofs.Apart.{apart_closed}
use Rattle.weight_trader.proofs.Lines.{closed_whole}
use Rattle.weight_trader.proofs.trader.Trader.forget.Goals as goal

pub invariant_of-self : goal.invariant_of-self
invariant_of-self c =
    let size = sym c.as_mut_slice.ensures.len ∙ ap length c.as_mut_slice.ensures.value in
    apart_closed c.self.inside.lines.items _ (closed_whole c.self.inside.lines.items c.clear_all.new.lines _ (c.clear_all.ensures ∙ ap Closed c.as_mut_slice.ensures.value) size) c.self.invariant

pub returns : goal.returns
returns c =
    let size = sym c.as_mut_slice.ensures.len ∙ ap length c.as_mut_slice.ensures.value in
    closed_whole c.self.inside.lines.items c.clear_all.new.lines _ (c.clear_all.ensures ∙ ap Closed c.as_mut_slice.ensures.value) size ∙ ap Closed c.self.view_is
