use Rattle.std.proofs.Common.{◌≡◌, ◌++◌, map, flat_map, drop}
use Rattle.std.specs.List.{enumerate_from}
use Rattle.chain_state.specs.PartOf.{part_of}
use Rattle.supply_audit.specs.Places.{chain_table}
use Rattle.report_text.specs.Plan.{planned_if}
use Rattle.report_text.proofs.backings.plan_rows.Given as goal

abbrev pub invariant-loop-place : goal.invariant-loop-place
invariant-loop-place l =
    let planned = planned_if (map chain_table (map part_of l.chains)) l.site in
    l.entries.items ++ flat_map planned (enumerate_from l.place (drop l.place l.rows)) ≡ l.initial.entries.items ++ flat_map planned (enumerate_from 0 l.rows)
