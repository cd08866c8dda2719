-- Lemmas on the definitions of `specs/UnitLaws.antt`: what proofs cite.
use Rattle.std.specs.Prelude.{◌≡◌, ℕ, List, [], ◌∷◌, Option, Some, None, refl, get_or}
use Rattle.std.proofs.Common.{ap}
use Rattle.std.specs.declared.cmp.Ordering.TheVariants.{Equal}
use Rattle.std.specs.Bool.{Decides}
use Rattle.std.specs.Option.{option_cmp}
use Rattle.std.specs.Ordering.{nat_cmp, ordering_then, eq_by_cmp}
use Rattle.std.specs.FinMap.{IsAntisymmetric, nat_cmp-IsAntisymmetric, slice_cmp-IsAntisymmetric}
use Rattle.locations.specs.Order.{IsExactOrder}
use Rattle.locations.proofs.Lemmas.OrderLaws.{on_exact, fields_exact, first_tie, second_tie, location_exact, tie_decides, exact_order}
use Rattle.asset_lists.specs.declared.units.AssetId.{AssetId}
use Rattle.asset_lists.specs.declared.units.AssetId.TheVariants.{Concrete, Abstract}
use Rattle.asset_lists.specs.declared.units.Instance.{Instance}
use Rattle.asset_lists.specs.declared.units.Instance.TheVariants.{Undefined, Index, Array4, Array8, Array16, Array32}
use Rattle.asset_lists.specs.declared.units.Fun.{Fun}
use Rattle.asset_lists.specs.declared.units.Fun.TheVariants.{Fungible, NonFungible}
use Rattle.asset_lists.specs.declared.units.Asset.{Asset}
use Rattle.asset_lists.specs.Units.{instance_fields, instance_cmp, asset_id_cmp, Unit, instance_in, amount_in, unit_of, amount_of, kind_index, unit_cmp, asset_cmp, assets_cmp}
use Rattle.asset_lists.specs.UnitLaws.{instance_total, asset_id_total, unit_total, asset_total, assets_total}

-- the instance that the fields came from
instance_of : List (List ℕ) → Instance
instance_of fs =
    let field = get_or fs 1 [] in
    get_or (Undefined ∷ Index (get_or field 0 0) ∷ Array4 field ∷ Array8 field ∷ Array16 field ∷ Array32 field ∷ []) (get_or (get_or fs 0 []) 0 0) Undefined

instance_back : (i : Instance) → instance_of (instance_fields i) ≡ i
unfolding instance_of
instance_back Undefined = refl
instance_back (Index index) = refl
instance_back (Array4 bytes) = refl
instance_back (Array8 bytes) = refl
instance_back (Array16 bytes) = refl
instance_back (Array32 bytes) = refl

pub instance_exact : IsAntisymmetric instance_cmp
instance_exact = on_exact instance_fields instance_of instance_back fields_exact

pub asset_id_exact : IsAntisymmetric asset_id_cmp
asset_id_exact (Concrete l) (Concrete m) tie = ap Concrete (location_exact l m tie)
asset_id_exact (Concrete l) (Abstract b) tie = absurd (cc)
asset_id_exact (Abstract a) (Concrete m) tie = absurd (cc)
asset_id_exact (Abstract a) (Abstract b) tie = ap Abstract (slice_cmp-IsAntisymmetric nat_cmp-IsAntisymmetric a b tie)

option_exact : (x y : Option Instance) → option_cmp instance_cmp x y ≡ Equal → x ≡ y
option_exact None None tie = refl
option_exact None (Some j) tie = absurd (cc)
option_exact (Some i) None tie = absurd (cc)
option_exact (Some i) (Some j) tie = ap Some (instance_exact i j tie)

pub unit_exact : IsAntisymmetric unit_cmp
unit_exact x y tie =
    let rest = second_tie (nat_cmp (kind_index x.1) (kind_index y.1)) (ordering_then (asset_id_cmp x.0 y.0) (option_cmp instance_cmp x.1 y.1)) tie in
    let ids = asset_id_exact x.0 y.0 (first_tie (asset_id_cmp x.0 y.0) (option_cmp instance_cmp x.1 y.1) rest) in
    let instances = option_exact x.1 y.1 (second_tie (asset_id_cmp x.0 y.0) (option_cmp instance_cmp x.1 y.1) rest) in
    λ i. (ids i, instances i)

same_fun : (f g : Fun) → instance_in f ≡ instance_in g → amount_in f ≡ amount_in g → f ≡ g
same_fun (Fungible m) (Fungible n) instances amounts = ap Fungible amounts
same_fun (Fungible m) (NonFungible j) instances amounts = absurd (cc)
same_fun (NonFungible i) (Fungible n) instances amounts = absurd (cc)
same_fun (NonFungible i) (NonFungible j) instances amounts = let same : i ≡ j = cc in ap NonFungible same

pub asset_exact : IsAntisymmetric asset_cmp
asset_exact x y tie =
    let units = unit_exact (unit_of x) (unit_of y) (first_tie (unit_cmp (unit_of x) (unit_of y)) (nat_cmp (amount_of x) (amount_of y)) tie) in
    let amounts = nat_cmp-IsAntisymmetric (amount_of x) (amount_of y) (second_tie (unit_cmp (unit_of x) (unit_of y)) (nat_cmp (amount_of x) (amount_of y)) tie) in
    let funs = same_fun x.fun y.fun (ap (λ (u : Unit). u.1) units) amounts in
    λ i. record { id = (ap (λ (u : Unit). u.0) units) i; fun = funs i }

-- `==` of ids and of assets says that they are equal
pub asset_id_decides : (x y : AssetId) → Decides (eq_by_cmp asset_id_cmp x y) (x ≡ y)
asset_id_decides = tie_decides asset_id_total asset_id_exact

pub asset_decides : (x y : Asset) → Decides (eq_by_cmp asset_cmp x y) (x ≡ y)
asset_decides = tie_decides asset_total asset_exact

pub instances_exactly : IsExactOrder instance_cmp
instances_exactly = exact_order instance_total instance_exact

pub ids_exactly : IsExactOrder asset_id_cmp
ids_exactly = exact_order asset_id_total asset_id_exact

pub units_exactly : IsExactOrder unit_cmp
units_exactly = exact_order unit_total unit_exact

pub assets_exactly : IsExactOrder asset_cmp
assets_exactly = exact_order asset_total asset_exact

pub assets_decide : (xs ys : List Asset) → Decides (eq_by_cmp assets_cmp xs ys) (xs ≡ ys)
assets_decide = tie_decides assets_total (slice_cmp-IsAntisymmetric asset_exact)
