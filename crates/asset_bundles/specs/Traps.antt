-- The trap store: what was left in the holding register, kept until it is claimed.
-- Source: xcm-executor's documentation of asset traps and claims. Pieces and numbers are this project's own rule.
use Rattle.std.specs.Prelude.{◌≡◌, ℕ, zero, suc, ◌+◌, ◌-◌, ◌/◌, ◌%◌, ◌^◌, Bool, List, [], ◌∷◌, ◌++◌, length, min, take, drop, ⊤}
use Rattle.std.specs.List.{sum_by, AllByRecursion}
use Rattle.amounts.specs.Amounts.{total, rows, from_rows}
use Rattle.locations.specs.declared.relative.Location.{Location}
use Rattle.asset_lists.specs.declared.units.AssetId.{AssetId}
use Rattle.asset_lists.specs.declared.units.Kind.{Kind}
use Rattle.asset_lists.specs.declared.units.Asset.{Asset}
use Rattle.asset_lists.specs.Units.{Unit}
use Rattle.asset_lists.specs.Lists.{IsAssetList}
use Rattle.asset_bundles.specs.Bundles.{Bundle, bundle_of, is_asset}
use Rattle.asset_bundles.specs.declared.trap.Trap.{Trap}

-- the traps that are kept, oldest first, and the number that the next trap gets
pub record Store : Type 0 where
  pub traps : List Trap
  pub next : ℕ

-- ---- trapping

-- the number after this one; it saturates at 2^64-1
abbrev pub number_after : ℕ → ℕ
number_after number = min (number + 1) (2 ^ 64 - 1)

-- how many pieces of at most 20 so many assets make
abbrev pub piece_count : ℕ → ℕ
piece_count n = n / 20 + min 1 (n % 20)

-- so many traps, each with the next 20 units, or with the rest of them, under the next number
abbrev pub traps_of : ℕ → ℕ → Location → List (Unit × ℕ) → List Trap
traps_of zero number origin units = []
traps_of (suc count) number origin units =
    record { number = number; origin = origin; goods = from_rows (take 20 units) } ∷ traps_of count (number_after number) origin (drop 20 units)

-- the traps that a bundle makes, in holding order
abbrev pub pieces_of : ℕ → Location → Bundle → List Trap
pieces_of number origin goods = traps_of (piece_count (length (rows goods))) number origin (rows goods)

-- the store after a bundle was trapped
abbrev pub with_trapped : Store → Location → Bundle → Store
with_trapped store origin goods = record {
  traps = store.traps ++ pieces_of store.next origin goods;
  next = min (store.next + piece_count (length (rows goods))) (2 ^ 64 - 1);
}

-- ---- claiming

-- a trap has that origin and just those assets
abbrev pub Fits : List Asset → Location → Trap → Type 0
Fits list origin trap = (trap.origin ≡ origin) × (trap.goods ≡ bundle_of list)

-- none of these traps fits
abbrev pub NoneFits : List Asset → Location → List Trap → Type 0
NoneFits list origin traps = AllByRecursion (λ (t : Trap). Fits list origin t → ⊥) traps

-- the oldest trap that fits is gone, and all others stay
pub record IsClaimed (list : List Asset) (origin : Location) (old new : Store) : Type 0 where
  pub front : List Trap
  pub trap : Trap
  pub back : List Trap
  pub before : old.traps ≡ front ++ trap ∷ back
  pub fits : Fits list origin trap
  pub oldest : NoneFits list origin front
  pub after : new.traps ≡ front ++ back
  pub number : new.next ≡ old.next

-- ---- what lies in all traps

-- how many of the units that pass a test
abbrev pub trapped_where : (Unit → Bool) → List Trap → ℕ
trapped_where p traps = sum_by (λ (t : Trap). total p t.goods) traps

-- the amount of a fungible asset, or the number of instances of a class
abbrev pub trapped_amount : AssetId → Kind → List Trap → ℕ
trapped_amount id kind traps = trapped_where (is_asset id kind) traps

-- ---- what a piece is: a list of assets that an instruction may name, at its origin
abbrev pub IsPiece : Location → Trap → Type 0
IsPiece origin t = (t.origin ≡ origin) × ((list : List Asset) × IsAssetList list × (t.goods ≡ bundle_of list))

-- these numbers, one after the other
abbrev pub AreNumbered : ℕ → List Trap → Type 0
AreNumbered number [] = ⊤
AreNumbered number (t ∷ ts) = (t.number ≡ number) × AreNumbered (number_after number) ts
