-- After the last form there is none.
use Rattle.std.proofs.Common.{◌≡◌, ℕ, zero, suc, ◌≤◌, List, [], ◌∷◌, length, None, refl, arith}
use Rattle.scale_codec.specs.Reading.{Reader, reader_by_index}

pub chosen_past : {X : Type 0} (forms : List (Reader X)) (k : ℕ) (bytes : List ℕ) → length forms ≤ k → reader_by_index forms k bytes ≡ None
chosen_past [] k bytes le = refl
chosen_past (r ∷ rs) zero bytes le = absurd (omega arith)
chosen_past (r ∷ rs) (suc k) bytes le = chosen_past rs k bytes (omega arith)
