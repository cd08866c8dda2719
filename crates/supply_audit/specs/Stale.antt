-- Chains that may have changed since figures were read at positions, and when such figures are still right. Chains are numbered from 0, with a
-- flag for each. This project's own rule.
use Rattle.std.specs.Prelude.{◌≡◌, ℕ, Bool, true, false, List, unwrap_or, slice_get}
use Rattle.std.specs.List.{list_any}
use Rattle.exec_base.specs.Part.{ChainPart}
use Rattle.supply_audit.specs.declared.place.Place.{Place}

-- a chain without a flag counts as changed
abbrev pub is_stale : List Bool → ℕ → Bool
is_stale stale chain = unwrap_or (slice_get stale chain) true

-- one of the positions is at such a chain
abbrev pub are_touched : List Bool → List Place → Bool
are_touched stale places = list_any (λ (place : Place). is_stale stale place.chain) places

-- all other chains are as they were
abbrev pub Agree : List Bool → List ChainPart → List ChainPart → Type 0
Agree stale before parts =
    (chain : ℕ) → is_stale stale chain ≡ false → slice_get parts chain ≡ slice_get before chain
