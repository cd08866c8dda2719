use Rattle.std.proofs.Common.{◌≡◌, ◌-◌, length, flat_map, string_bytes}
use Rattle.amounts.specs.Amounts.{rows}
use Rattle.step_text.specs.Blocks.{holder_line}
use Rattle.ledgers.proofs.Lemmas.Shown.{shown}
use Rattle.step_text.proofs.blocks.accounts_text.Given as goal

abbrev pub invariant-loop-who : goal.invariant-loop-who
invariant-loop-who l = string_bytes l.text ≡ flat_map (holder_line l.chain) (shown l.after (rows l.ledger.held))

abbrev pub decreases-loop-who : goal.decreases-loop-who
decreases-loop-who l = length (rows l.ledger.held) - length (shown l.after (rows l.ledger.held))
