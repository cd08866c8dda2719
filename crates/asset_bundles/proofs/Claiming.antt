-- Traps that fit, and the claim of one.
use Rattle.std.proofs.Common.{◌≡◌, Bool, true, false, ◌↔◌, List, sym, ◌∙◌}
use Rattle.std.specs.Prelude.{IsTrue}
use Rattle.std.specs.Ordering.{eq_by_cmp}
use Rattle.locations.specs.Order.{location_cmp}
use Rattle.locations.proofs.Lemmas.OrderLaws.{location_decides}
use Rattle.asset_bundles.specs.Bundles.{bundle_of}
use Rattle.asset_lists.specs.declared.units.Asset.{Asset}
use Rattle.locations.specs.declared.relative.Location.{Location}
use Rattle.asset_bundles.specs.declared.trap.Trap.{Trap}
use Rattle.asset_bundles.specs.Traps.{Fits, IsClaimed, Store}
use Rattle.asset_bundles.specs.Oldest.{IsTaken}

-- a trap of another origin doesn't fit
pub another_origin : (list : List Asset) (origin : Location) (t : Trap) (test : Bool) → test ≡ eq_by_cmp location_cmp t.origin origin → test ≡ false → Fits list origin t → ⊥
another_origin list origin t test origins other fits =
    let same : test ≡ true = origins ∙ (location_decides t.origin origin).1 fits.0 in absurd (cc)

pub same_origin : (list : List Asset) (origin : Location) (t : Trap) (test goods : Bool) → test ≡ eq_by_cmp location_cmp t.origin origin → test ≡ true
    → (IsTrue goods ↔ (t.goods ≡ bundle_of list)) → IsTrue goods ↔ Fits list origin t
same_origin list origin t test goods origins same says = (
  λ h. ((location_decides t.origin origin).0 (sym origins ∙ same), says.0 h),
  λ fits. says.1 fits.1,
)

pub is_claimed : (list : List Asset) (origin : Location) (old new : Store) (t : Trap) → IsTaken list origin old.traps t new.traps → new.next ≡ old.next → IsClaimed list origin old new
is_claimed list origin old new t taken number = record {
  front = taken.front;
  trap = t;
  back = taken.back;
  before = taken.before;
  fits = taken.fits;
  oldest = taken.oldest;
  after = taken.after;
  number = number;
}
