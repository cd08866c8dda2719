use Rattle.std.proofs.Common.{◌≡◌, drop}
use Rattle.network_spec.specs.Networks.{rises}
use Rattle.network_validity.proofs.valid.rises.Given as goal

abbrev pub invariant-loop-chain : goal.invariant-loop-chain
invariant-loop-chain l = rises l.fn.before l.chains ≡ rises l.last (drop l.chain-index l.chains)
