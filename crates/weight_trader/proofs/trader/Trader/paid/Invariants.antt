use Rattle.std.proofs.Common.{◌≡◌, drop}
use Rattle.weight_trader.proofs.Bundles.{paid_in}
use Rattle.weight_trader.proofs.trader.Trader.paid.Given as goal

abbrev pub invariant-loop-line : goal.invariant-loop-line
invariant-loop-line l = paid_in l.asset l.line-items ≡ paid_in l.asset (drop l.line-index l.line-items)
