use Rattle.std.proofs.Common.{◌≡◌, length}
use Rattle.test_codec.specs.Examples.{AreClears}
use Rattle.test_codec.proofs.messages.clears.Given as goal

abbrev pub invariant-loop : goal.invariant-loop
invariant-loop l = AreClears l.items.items × (length l.items.items ≡ l.counter)
