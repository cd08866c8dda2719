-- The orders of instances, ids, units and assets are total, and only equal values tie.
use Rattle.std.specs.Prelude.{◌≡◌, ℕ, List, [], refl}
use Rattle.std.proofs.Common.{sym, subst}
use Rattle.std.specs.declared.cmp.Ordering.{Ordering}
use Rattle.std.specs.declared.cmp.Ordering.TheVariants.{Less, Equal, Greater}
use Rattle.std.specs.Ordering.{nat_cmp, on, then_cmp, ordering_then}
use Rattle.std.specs.Cmp.{IsTotalOrder, nat_cmp_total, on_total, then_total}
use Rattle.std.specs.Cmp.Lexicographic.{slice_cmp, nat_list_cmp_total, options_total, lists_total}
use Rattle.locations.specs.declared.relative.Location.{Location}
use Rattle.locations.specs.Order.{location_cmp}
use Rattle.locations.specs.OrderLaws.{fields_total, location_total}
use Rattle.asset_lists.specs.declared.units.AssetId.{AssetId}
use Rattle.asset_lists.specs.declared.units.AssetId.TheVariants.{Concrete, Abstract}
use Rattle.asset_lists.specs.Units.{instance_fields, instance_cmp, asset_id_cmp, Unit, unit_of, amount_of, kind_index, unit_cmp, asset_cmp, assets_cmp}

pub instance_total : IsTotalOrder instance_cmp
instance_total = on_total instance_fields fields_total

-- an id as its variant, its location and its bytes, of which one counts
variant_of : AssetId → ℕ
variant_of (Concrete l) = 0
variant_of (Abstract b) = 1

place_of : AssetId → Location
place_of (Concrete l) = l
place_of (Abstract b) = record { parents = 0; interior = [] }

bytes_of : AssetId → List ℕ
bytes_of (Concrete l) = []
bytes_of (Abstract b) = b

in_parts : AssetId → AssetId → Ordering
in_parts = then_cmp (on variant_of nat_cmp) (then_cmp (on place_of location_cmp) (on bytes_of (slice_cmp nat_cmp)))

then_equal : (r : Ordering) → r ≡ ordering_then r Equal
then_equal Less = refl
then_equal Equal = refl
then_equal Greater = refl

as_parts : (x y : AssetId) → in_parts x y ≡ asset_id_cmp x y
unfolding in_parts variant_of place_of bytes_of
as_parts (Concrete l) (Concrete m) = sym (then_equal (location_cmp l m))
as_parts (Concrete l) (Abstract b) = refl
as_parts (Abstract a) (Concrete m) = refl
as_parts (Abstract a) (Abstract b) = refl

parts_total : IsTotalOrder in_parts
unfolding in_parts
parts_total = then_total (on_total variant_of nat_cmp_total) (then_total (on_total place_of location_total) (on_total bytes_of nat_list_cmp_total))

pub asset_id_total : IsTotalOrder asset_id_cmp
asset_id_total = subst IsTotalOrder (λ i x y. as_parts x y i) parts_total

pub unit_total : IsTotalOrder unit_cmp
unit_total = then_total (on_total (λ (u : Unit). kind_index u.1) nat_cmp_total)
    (then_total (on_total (λ (u : Unit). u.0) asset_id_total) (on_total (λ (u : Unit). u.1) (options_total instance_total)))

pub asset_total : IsTotalOrder asset_cmp
asset_total = then_total (on_total unit_of unit_total) (on_total amount_of nat_cmp_total)

pub assets_total : IsTotalOrder assets_cmp
assets_total = lists_total asset_total
