-- Lists of rows, each a key and an amount, and the sums of their amounts. This is the project's own vocabulary.
--     sum_where p es      the amounts of the rows whose keys pass the test p, added up
--     raised_rows es, lowered_rows es      each amount one higher, one lower: a map keeps its amounts less one, so that none is 0
--     IsPositive es      no amount is 0
--     IsKeyOrder R      a total order in which only equal keys tie
use Rattle.std.specs.Prelude.{ℕ, suc, ◌+◌, ◌<◌, Bool, if◌then◌else◌, List, [], ◌∷◌, Option, Some, None}

-- the amount if the test passes, and else 0
abbrev pub amount_if : Bool → ℕ → ℕ
amount_if b n = if b then n else 0

-- the amounts of the rows whose keys pass, added up
abbrev pub sum_where : {K : Type 0} → (K → Bool) → List (K × ℕ) → ℕ
sum_where p [] = 0
sum_where p (e ∷ es) = amount_if (p e.0) e.1 + sum_where p es

-- the same rows under other keys
abbrev pub rows_at : {J K : Type 0} → (J → K) → List (J × ℕ) → List (K × ℕ)
rows_at f [] = []
rows_at f (e ∷ es) = (f e.0, e.1) ∷ rows_at f es

-- each amount one higher
abbrev pub raised_rows : {K : Type 0} → List (K × ℕ) → List (K × ℕ)
raised_rows [] = []
raised_rows (e ∷ es) = (e.0, suc e.1) ∷ raised_rows es

-- no amount is 0
abbrev pub IsPositive : {K : Type 0} → List (K × ℕ) → Type 0
IsPositive [] = Unit {0}
IsPositive (e ∷ es) = (0 < e.1) × IsPositive es

-- what is found, one higher, or 0
abbrev pub raised : Option ℕ → ℕ
raised None = 0
raised (Some n) = suc n
