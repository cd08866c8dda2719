use Rattle.std.proofs.Common.{◌≢◌, ◌<◌, ℕ, [], get_or}
use Rattle.tree_reading.specs.Errors.{error_names}
use Rattle.tree_reading.proofs.errors.error_index.Given as goal

abbrev pub invariant-loop-index : goal.invariant-loop-index
invariant-loop-index l = (k : ℕ) → k < l.index → l.text ≢ get_or error_names k []
