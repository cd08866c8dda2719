use Rattle.std.proofs.Common.{◌≡◌, ◌++◌, map, drop}
use Rattle.network_steps.specs.Genesis.{rules_of}
use Rattle.chain_net.proofs.opening.all_rules.Given as goal

abbrev pub invariant-loop-entry : goal.invariant-loop-entry
invariant-loop-entry l = l.all.items ++ map rules_of (drop l.entry-index l.chains) ≡ map rules_of l.chains
