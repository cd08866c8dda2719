-- Bytes of spellings.
use Rattle.std.proofs.Common.{get_or, lit<, zero, suc, ℕ, ◌<◌, List, [], ◌∷◌, ◌++◌}
use Rattle.tree_reading.specs.Puts.{AreBytes}

pub bytes_front : (xs ys : List ℕ) → AreBytes (xs ++ ys) → AreBytes xs
bytes_front [] ys h = tt
bytes_front (x ∷ xs) ys h = (h.0, bytes_front xs ys h.1)

pub bytes_back : (xs ys : List ℕ) → AreBytes (xs ++ ys) → AreBytes ys
bytes_back [] ys h = h
bytes_back (x ∷ xs) ys h = bytes_back xs ys h.1

pub bytes_at : (xs : List ℕ) → AreBytes xs → (i : ℕ) → get_or xs i 0 < 256
bytes_at [] h i = lit< tt
bytes_at (x ∷ xs) h zero = h.0
bytes_at (x ∷ xs) h (suc i) = bytes_at xs h.1 i
