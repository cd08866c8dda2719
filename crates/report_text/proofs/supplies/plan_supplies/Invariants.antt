use Rattle.std.proofs.Common.{◌≡◌, ◌++◌, map}
use Rattle.chain_state.specs.PartOf.{part_of}
use Rattle.supply_audit.specs.Places.{chain_table}
use Rattle.report_text.specs.Plan.{planned_supply}
use Rattle.report_text.proofs.supplies.plan_supplies.Given as goal

abbrev pub invariant-loop-asset : goal.invariant-loop-asset
invariant-loop-asset l =
    l.entries.items ++ map (planned_supply (map chain_table (map part_of l.chains))) l.asset-iterator ≡ map (planned_supply (map chain_table (map part_of l.chains))) l.assets.keys
