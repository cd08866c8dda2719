use Rattle.std.proofs.Common.{◌≡◌, drop}
use Rattle.exec_base.specs.Host.{first_fault, raise_fault}
use Rattle.chain_state.specs.PartOf.{part_of}
use Rattle.chain_state.proofs.state.ChainState.raise_refusal.Given as goal

abbrev pub invariant-loop-asset : goal.invariant-loop-asset
invariant-loop-asset l = first_fault (raise_fault (part_of l.self)) l.list ≡ first_fault (raise_fault (part_of l.self)) (drop l.asset-index l.list)
