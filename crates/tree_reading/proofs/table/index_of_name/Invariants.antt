use Rattle.std.proofs.Common.{◌≢◌, ◌<◌, ℕ}
use Rattle.xcm_program.specs.Names.{instruction_name_at}
use Rattle.tree_reading.proofs.table.index_of_name.Given as goal

abbrev pub invariant-loop-index : goal.invariant-loop-index
invariant-loop-index l = (k : ℕ) → k < l.index → l.name ≢ instruction_name_at k
