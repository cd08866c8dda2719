use Rattle.std.proofs.Common.{◌≡◌}
use Rattle.chain_state.specs.Fees.{cleared}
use Rattle.chain_state.proofs.Lemmas.Mapped.{front_mapped}
use Rattle.chain_state.proofs.fees.rows.clear_all.Given as goal

abbrev pub invariant-loop-row : goal.invariant-loop-row
invariant-loop-row l = l.rows ≡ front_mapped cleared l.row-index l.fn.rows
