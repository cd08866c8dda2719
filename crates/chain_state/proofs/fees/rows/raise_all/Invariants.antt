use Rattle.std.proofs.Common.{◌≡◌}
use Rattle.chain_state.specs.Fees.{raised_fee}
use Rattle.chain_state.proofs.Lemmas.Mapped.{front_mapped}
use Rattle.chain_state.proofs.fees.rows.raise_all.Given as goal

abbrev pub invariant-loop-row : goal.invariant-loop-row
invariant-loop-row l = l.rows ≡ front_mapped (raised_fee l.goods) l.row-index l.fn.rows
