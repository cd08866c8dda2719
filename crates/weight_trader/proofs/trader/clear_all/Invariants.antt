use Rattle.std.proofs.Common.{◌≡◌, take}
use Rattle.weight_trader.specs.Refunds.{Closed}
use Rattle.weight_trader.proofs.trader.clear_all.Given as goal

abbrev pub invariant-loop-line : goal.invariant-loop-line
invariant-loop-line l = (Closed l.lines ≡ Closed l.fn.lines) × (Closed (take l.line-index l.lines) ≡ take l.line-index l.lines)
