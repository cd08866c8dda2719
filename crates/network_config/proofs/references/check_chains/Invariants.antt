use Rattle.std.proofs.Common.{◌≡◌, take, drop, []}
use Rattle.network_config.specs.References.{chains_references}
use Rattle.network_config.proofs.references.check_chains.Given as goal

abbrev pub invariant-loop-at : goal.invariant-loop-at
invariant-loop-at l =
    chains_references l.fn.chains l.fn.network 0 [] l.fn.chains ≡ chains_references l.fn.chains l.fn.network l.index (take l.at l.fn.chains) (drop l.at l.fn.chains)
