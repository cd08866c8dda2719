-- Any number of safe changes, one after another.
use Rattle.std.specs.Prelude.{◌≡◌, ℕ, Some, slice_get, slice_set}
use Rattle.law_coherence.specs.Parts.{Part, WorldView}
use Rattle.law_coherence.specs.Steps.{IsSafe, IsExchange}

pub data History (w : WorldView) : WorldView → Type 0 where
  Start : History w w
  One : (v : WorldView) (i : ℕ) (p q : Part) → History w v → slice_get v i ≡ Some p → IsSafe p q → History w (slice_set v i q)
  Two : (v : WorldView) (i j : ℕ) (p p' q q' : Part) → History w v → slice_get v i ≡ Some p → slice_get v j ≡ Some q → (i ≡ j → ⊥) → IsExchange p p' q q' → History w (slice_set (slice_set v i p') j q')
