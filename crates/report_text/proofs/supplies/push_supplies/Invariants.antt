use Rattle.std.proofs.Common.{◌≡◌, ◌++◌, map, flat_map, string_bytes, take}
use Rattle.chain_state.specs.PartOf.{part_of}
use Rattle.report_text.specs.Plan.{planned_supply_text}
use Rattle.report_text.proofs.supplies.push_supplies.Given as goal

abbrev pub invariant-loop-entry : goal.invariant-loop-entry
invariant-loop-entry l = string_bytes l.text ≡ string_bytes l.initial.text ++ flat_map (planned_supply_text (map part_of l.chains)) (take l.entry-index l.entries)
