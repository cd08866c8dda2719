use Rattle.std.proofs.Common.{length, sym, ap, ◌∙◌, subst}
use Rattle.weight_trader.specs.Purchases.{AreApart}
use Rattle.weight_trader.specs.Refunds.{Closed}
use Rattle.weight_trader.proofs.Apart.{apart_closed}
use Rattle.weight_trader.proofs.Lines.{closed_whole}
use Rattle.weight_trader.proofs.trader.Trader.close.Goals as goal

pub minted-requires : goal.minted-requires
minted-requires c = subst AreApart (sym c.as_slice.ensures.value) c.self.invariant

pub invariant_of-self : goal.invariant_of-self
invariant_of-self c =
    let size = sym c.as_mut_slice.ensures.len ∙ ap length c.as_mut_slice.ensures.value in
    apart_closed c.self.inside.lines.items _ (closed_whole c.self.inside.lines.items c.clear_all.new.lines _ (c.clear_all.ensures ∙ ap Closed c.as_mut_slice.ensures.value) size) c.self.invariant

pub returns-clause-lines : goal.returns-clause-lines
returns-clause-lines c =
    let size = sym c.as_mut_slice.ensures.len ∙ ap length c.as_mut_slice.ensures.value in
    closed_whole c.self.inside.lines.items c.clear_all.new.lines _ (c.clear_all.ensures ∙ ap Closed c.as_mut_slice.ensures.value) size ∙ ap Closed c.self.view_is
