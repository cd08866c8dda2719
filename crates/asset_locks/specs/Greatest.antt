-- The greatest of the amounts of a map, at the keys that pass a test. This project's own vocabulary.
use Rattle.std.specs.Prelude.{ℕ, max, Bool, List, [], ◌∷◌}
use Rattle.std.specs.declared.cmp.Ordering.{Ordering}
use Rattle.amounts.specs.Rows.{amount_if}
use Rattle.amounts.specs.Amounts.{Amounts, rows}

-- the greatest amount of the rows whose keys pass, 0 where none does
abbrev pub greatest_in : {K : Type 0} → (K → Bool) → List (K × ℕ) → ℕ
greatest_in p [] = 0
greatest_in p (e ∷ es) = max (amount_if (p e.0) e.1) (greatest_in p es)

-- the greatest amount at the keys that pass, 0 where none does
unfoldable pub greatest_amount : {K : Type 0} {R : K → K → Ordering} → (K → Bool) → Amounts R → ℕ
greatest_amount p m = greatest_in p (rows m)
