use Rattle.std.proofs.Common.{take}
use Rattle.chain_state.specs.PartOf.{part_of}
use Rattle.supply_audit.specs.Supplies.{Raises, rows_part}
use Rattle.supply_audit.proofs.table.add_rows.Given as goal

abbrev pub invariant-loop-row : goal.invariant-loop-row
invariant-loop-row l = Raises l.initial.sums.entries l.sums.entries (rows_part (part_of l.chain) (take l.row-index l.rows))
