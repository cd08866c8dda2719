use Rattle.std.proofs.Common.{◌≡◌, ℕ, length, get_or}
use Rattle.ledgers.proofs.account_sums.no_sums.Given as goal

abbrev pub invariant-loop : goal.invariant-loop
invariant-loop l = (length l.sums.items ≡ l.counter) × ((n : ℕ) → get_or l.sums.items n 0 ≡ 0)
