-- Lemmas on the definitions of `specs/Portions.antt`: what proofs cite.
use Rattle.std.specs.Prelude.{ℕ, ◌≤◌, Some}
use Rattle.asset_lists.specs.declared.units.AssetId.{AssetId}
use Rattle.asset_lists.specs.declared.units.Instance.{Instance}
use Rattle.asset_lists.specs.Units.{Unit}

-- an instance stays one or goes
abbrev pub FitsInstances : (Unit → ℕ → ℕ) → Type 0
FitsInstances f = (id : AssetId) (instance : Instance) → f (id, Some instance) 1 ≤ 1
