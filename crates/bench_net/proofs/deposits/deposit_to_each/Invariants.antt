use Rattle.std.proofs.Common.{◌≡◌}
use Rattle.bench_net.proofs.deposits.deposit_to_each.Given as goal

abbrev pub invariant-loop-number : goal.invariant-loop-number
invariant-loop-number l = l.ledger.listed ≡ l.fn.ledger.listed
