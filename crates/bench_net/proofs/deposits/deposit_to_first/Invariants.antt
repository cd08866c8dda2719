use Rattle.std.proofs.Common.{◌≡◌}
use Rattle.bench_net.proofs.deposits.deposit_to_first.Given as goal

abbrev pub invariant-loop-done : goal.invariant-loop-done
invariant-loop-done l = l.ledger.listed ≡ l.fn.ledger.listed
