use Rattle.std.proofs.Common.{sym, subst}
use Rattle.weight_trader.specs.Purchases.{AreWithinEnd}
use Rattle.weight_trader.proofs.Trading.{new_within}
use Rattle.weight_trader.proofs.Apart.{apart_new}
use Rattle.weight_trader.proofs.trader.Trader.new.Goals as goal

pub invariant_of-result : goal.invariant_of-result
invariant_of-result c = apart_new c.args.rates.now c.in_ok-lines.lines.items c.in_ok-lines.ensures c.requires

pub returns-clause-ends : goal.returns-clause-ends
returns-clause-ends c = subst AreWithinEnd (sym c.in_ok-lines.ensures) (new_within c.args.rates.now)
