-- The same keys with other amounts. This is the project's own vocabulary.
use Rattle.std.specs.Prelude.{ℕ, List, [], ◌∷◌}
use Rattle.std.specs.declared.cmp.Ordering.{Ordering}
use Rattle.amounts.specs.Amounts.{Amounts, rows, from_rows}

abbrev pub rows_with : {K : Type 0} → (K → ℕ → ℕ) → List (K × ℕ) → List (K × ℕ)
rows_with f [] = []
rows_with f (r ∷ rs) = (r.0, f r.0 r.1) ∷ rows_with f rs

unfoldable pub with_amounts : {K : Type 0} {R : K → K → Ordering} → (K → ℕ → ℕ) → Amounts R → Amounts R
with_amounts f m = from_rows (rows_with f (rows m))
