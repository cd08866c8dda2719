use Rattle.std.proofs.Common.{◌≡◌, ◌++◌, drop}
use Rattle.weight_trader.specs.Purchases.{new_lines}
use Rattle.weight_trader.proofs.trader.new_lines.Given as goal

abbrev pub invariant-loop-rate : goal.invariant-loop-rate
invariant-loop-rate l = l.lines.items ++ new_lines (drop l.rate-index l.rates) ≡ new_lines l.rates
