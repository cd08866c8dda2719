use Rattle.std.proofs.Common.{◌≡◌, drop}
use Rattle.exec_base.specs.Host.{first_fault, trust_fault}
use Rattle.chain_state.specs.PartOf.{part_of}
use Rattle.chain_state.proofs.state.ChainState.trust_refusal.Given as goal

abbrev pub invariant-loop-asset : goal.invariant-loop-asset
invariant-loop-asset l = first_fault (trust_fault (part_of l.self) l.from l.teleport) l.list ≡ first_fault (trust_fault (part_of l.self) l.from l.teleport) (drop l.asset-index l.list)
