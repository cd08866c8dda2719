-- A map made of entries, as a `BTreeMap` keeps them: at a key that is there twice the first entry counts.
use Rattle.std.specs.Prelude.{ℕ, List, [], ◌∷◌}
use Rattle.std.specs.declared.cmp.Ordering.{Ordering}
use Rattle.amounts.specs.Amounts.{Amounts, empty, with_amount}

unfoldable pub from_entries : {K : Type 0} {R : K → K → Ordering} → List (K × ℕ) → Amounts R
from_entries [] = empty
from_entries (e ∷ es) = with_amount (from_entries es) e.0 e.1
