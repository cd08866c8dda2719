use Rattle.std.proofs.Common.{◌≡◌, ◌++◌, drop}
use Rattle.weight_trader.specs.Closing.{paid_assets}
use Rattle.weight_trader.proofs.trader.paid_assets.Given as goal

abbrev pub invariant-loop-line : goal.invariant-loop-line
invariant-loop-line l = l.assets.items ++ paid_assets (drop l.line-index l.lines) ≡ paid_assets l.lines
