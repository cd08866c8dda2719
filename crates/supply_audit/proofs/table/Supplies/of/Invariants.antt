use Rattle.std.proofs.Common.{map, take}
use Rattle.law_coherence.specs.UniversalAssets.{UniversalAsset}
use Rattle.chain_state.specs.PartOf.{part_of}
use Rattle.supply_audit.specs.Supply.{at_homes}
use Rattle.supply_audit.specs.Supplies.{HasSums, supply_in}
use Rattle.supply_audit.proofs.table.Supplies.of.Given as goal

abbrev pub invariant-loop-chain : goal.invariant-loop-chain
invariant-loop-chain l = (a : UniversalAsset) → HasSums (supply_in l.sums.entries a) (λ f. at_homes f a (map part_of (take l.chain-index l.chains)))
