-- Traps by their positions, and the oldest that fits. Each trap has a position, which is higher than those before it.
use Rattle.std.specs.Prelude.{◌≡◌, ℕ, ◌<◌, Bool, true, List, [], ◌∷◌, ◌++◌, Option, Some}
use Rattle.std.specs.declared.cmp.Ordering.{Ordering}
use Rattle.std.specs.Ordering.{nat_cmp, on, then_cmp, eq_by_cmp}
use Rattle.std.specs.List.{list_any}
use Rattle.std.specs.List.Sorted.{IsStrictlySortedBy}
use Rattle.std.specs.Map.{lookup, keys_of}
use Rattle.locations.specs.declared.relative.Location.{Location}
use Rattle.asset_lists.specs.declared.units.Asset.{Asset}
use Rattle.asset_bundles.specs.declared.trap.Trap.{Trap}
use Rattle.asset_bundles.specs.Traps.{Fits, NoneFits}
use Rattle.asset_bundles.specs.Digest.{digest_of}

-- a position and its trap
abbrev pub TrapRow : Type 0
TrapRow = ℕ × Trap

-- others may follow the rows
abbrev pub IsLonger : List TrapRow → List TrapRow → Type 0
IsLonger old new = (more : List TrapRow) × (new ≡ old ++ more)

-- one trap follows the rows
abbrev pub IsOneLonger : List TrapRow → Trap → List TrapRow → Type 0
IsOneLonger old t new = (place : ℕ) × (new ≡ old ++ (place, t) ∷ [])

-- the trap at a position
abbrev pub trap_at : List TrapRow → ℕ → Option Trap
trap_at rows place = lookup (eq_by_cmp nat_cmp place) rows

-- a digest, and a position under it
abbrev pub DigestPlace : Type 0
DigestPlace = ℕ × ℕ

abbrev pub digest_place_cmp : DigestPlace → DigestPlace → Ordering
digest_place_cmp = then_cmp (on (λ (k : DigestPlace). k.0) nat_cmp) (on (λ (k : DigestPlace). k.1) nat_cmp)

-- a position is listed under a digest
abbrev pub is_listed : List DigestPlace → DigestPlace → Bool
is_listed index k = list_any (eq_by_cmp digest_place_cmp k) index

-- the positions rise, and each is listed under the digest of its trap. Others may be listed too
pub record ArePlaced (rows : List TrapRow) (index : List DigestPlace) : Type 0 where
  pub rising : IsStrictlySortedBy nat_cmp (keys_of rows)
  pub listed : (place : ℕ) (t : Trap) → trap_at rows place ≡ Some t → is_listed index (digest_of t, place) ≡ true

-- no trap fits
abbrev pub NoneAt : List Asset → Location → List TrapRow → Type 0
NoneAt list origin rows = (place : ℕ) (t : Trap) → trap_at rows place ≡ Some t → Fits list origin t → ⊥

-- the trap at this position fits
pub record FitsAt (list : List Asset) (origin : Location) (rows : List TrapRow) (place : ℕ) : Type 0 where
  pub trap : Trap
  pub here : trap_at rows place ≡ Some trap
  pub fits : Fits list origin trap

-- and it is the oldest that does
pub record IsOldest (list : List Asset) (origin : Location) (rows : List TrapRow) (place : ℕ) : Type 0 where
  pub at : FitsAt list origin rows place
  pub oldest : (p : ℕ) (t : Trap) → p < place → trap_at rows p ≡ Some t → Fits list origin t → ⊥

-- the oldest trap that fits is taken out
pub record IsTaken (list : List Asset) (origin : Location) (old : List Trap) (trap : Trap) (new : List Trap) : Type 0 where
  pub front : List Trap
  pub back : List Trap
  pub before : old ≡ front ++ trap ∷ back
  pub fits : Fits list origin trap
  pub oldest : NoneFits list origin front
  pub after : new ≡ front ++ back
