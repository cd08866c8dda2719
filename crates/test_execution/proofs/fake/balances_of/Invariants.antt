use Rattle.std.proofs.Common.{◌≡◌, map}
use Rattle.test_execution.specs.Opening.{balance_of}
use Rattle.test_execution.proofs.fake.balances_of.Given as goal

abbrev pub invariant-loop-who : goal.invariant-loop-who
invariant-loop-who l = l.balances.items ≡ map balance_of l.yielded
