-- The last element of a list that is borrowed for writing.
use Rattle.std.proofs.Common.{◌≡◌, List, [], ◌∷◌, ◌++◌, length, slice_set, refl}
use Rattle.std.specs.List.{refill}

-- what is written to the last element of a list is what the list ends with
pub written_last : {X : Type 0} (old : List X) (p w : X)
    → refill (length (old ++ p ∷ [])) (old ++ p ∷ []) (slice_set (old ++ p ∷ []) (length old) w)
    ≡ old ++ w ∷ []
written_last [] p w = refl
written_last (a ∷ old) p w = let written = written_last old p w in cc
