-- Lemmas on the definitions of `specs/Fees.antt`: what proofs cite.
use Rattle.std.specs.Prelude.{ℕ, ◌+◌, List, [], ◌∷◌, ◌++◌}
use Rattle.asset_lists.specs.Units.{Unit}
use Rattle.chain_state.specs.Fees.{Fee, some_row}

-- the rows' units, each with its amount, if that isn't 0
abbrev pub some_rows : (Unit → ℕ) → List Fee → List Fee
some_rows f [] = []
some_rows f (fee ∷ fees) = some_row fee.0 (f fee.0) ++ some_rows f fees
