use Rattle.std.proofs.Common.{◌≡◌, ◌++◌, take, flat_map, string_bytes}
use Rattle.step_text.specs.Lines.{balance_line}
use Rattle.step_text.proofs.blocks.push_balances.Given as goal

abbrev pub invariant-loop-asset : goal.invariant-loop-asset
invariant-loop-asset l = string_bytes l.text ≡ string_bytes l.initial.text ++ flat_map (balance_line l.fn.chain l.fn.who) (take l.asset-index l.assets)
