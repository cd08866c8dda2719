use Rattle.std.proofs.Common.{◌≡◌, ◌++◌, map, drop}
use Rattle.chain_state.specs.Fees.{no_fee}
use Rattle.chain_state.proofs.Lent.{lent}
use Rattle.chain_state.proofs.fees.rows.new_rows.Given as goal

abbrev pub invariant-loop-id : goal.invariant-loop-id
invariant-loop-id l = l.rows.items ++ map no_fee (map lent (drop l.id-index l.ids)) ≡ map no_fee (map lent l.ids)
