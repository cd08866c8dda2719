use Rattle.std.proofs.Common.{◌≡◌, map, flat_map, take}
use Rattle.chain_state.specs.PartOf.{part_of}
use Rattle.chain_state.specs.declared.state.ChainState.{ChainState}
use Rattle.supply_audit.specs.Places.{chain_table}
use Rattle.report_text.specs.Plan.{planned_backings}
use Rattle.report_text.proofs.backings.plan_backings.Given as goal

abbrev pub invariant-loop-chain : goal.invariant-loop-chain
invariant-loop-chain l =
    l.entries.items ≡ flat_map (λ (c : ChainState). planned_backings (map chain_table (map part_of l.chains)) (chain_table (part_of c))) (take l.chain-index l.chains)
