-- That what is burned stays in the books. This project's own rule.
use Rattle.std.specs.Prelude.{◌≡◌, ℕ, Some, slice_get}
use Rattle.network_steps.specs.Worlds.{Member, World}
use Rattle.law_authority.specs.Origins.{KeepsBurns}

-- at each chain its book has of each asset, for each cause, at least what it had before
abbrev pub NoBurnFalls : World → World → Type 0
NoBurnFalls old new =
    (place : ℕ) (before now : Member) → slice_get old place ≡ Some before
    → slice_get new place ≡ Some now
    → KeepsBurns before.part.burns now.part.burns
