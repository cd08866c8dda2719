-- The origins of a chain's own: those that no other chain speaks through. This project's own rule.
use Rattle.std.proofs.Common.{◌≡◌, ℕ, List, ◌∷◌, Option, Some, None}
use Rattle.locations.specs.declared.grammar.Junction.{Junction}
use Rattle.locations.specs.declared.relative.Location.{Location}
use Rattle.trust_tables.specs.Accounts.{IsSovereign}

-- an account of the chain itself that is no other chain's, or something below it
pub record IsCaller (l : Location) : Type 0 where
  pub account : List ℕ
  pub rest : List Junction
  pub is : ◌≡◌ {A = Location} l (record { parents = 0; interior = Junction.AccountId32 None account ∷ rest })
  pub own : IsSovereign account → ⊥

-- the origin register is such a one, or empty
abbrev pub IsOwnOrigin : Option Location → Type 0
IsOwnOrigin origin = (l : Location) → origin ≡ Some l → IsCaller l
