-- Lemmas on the definitions of `specs/Renaming.antt`: what proofs cite.
use Rattle.std.specs.Prelude.{◌≡◌, ◌+◌, ◌<◌, true, false, ◌&&◌, List, [], ◌∷◌, Option, Some, None, Ok, Err, unwrap_or, refl}
use Rattle.std.specs.Ordering.{eq_by_cmp}
use Rattle.std.specs.Option.{option_map}
use Rattle.std.specs.declared.result.Result.{Result}
use Rattle.std.proofs.Common.{ap, ◌∙◌, subst, arith}
use Rattle.amounts.specs.Rows.{amount_if, sum_where}
use Rattle.amounts.specs.Amounts.{total}
use Rattle.amounts.proofs.Lemmas.{key_same, total_alike_held}
use Rattle.locations.specs.declared.grammar.Junction.{Junction}
use Rattle.locations.specs.declared.relative.Location.{Location}
use Rattle.locations.specs.declared.faults.LocationFault.{LocationFault}
use Rattle.locations.specs.Order.{junctions_cmp}
use Rattle.locations.specs.Chains.{HasPath, path_of}
use Rattle.locations.specs.Reanchoring.{reanchored}
use Rattle.locations.proofs.Lemmas.{keeps_path}
use Rattle.asset_lists.specs.declared.units.AssetId.{AssetId}
use Rattle.asset_lists.specs.declared.units.AssetId.TheVariants.{Concrete, Abstract}
use Rattle.asset_lists.specs.declared.units.Asset.{Asset}
use Rattle.asset_lists.specs.Units.{Unit, unit_of, amount_of, unit_cmp}
use Rattle.asset_lists.specs.Moves.{id_of_result, reanchored_id, moved, both, all_reanchored}
use Rattle.asset_bundles.specs.Bundles.{Bundle, rows_of}
use Rattle.asset_bundles.proofs.Lemmas.Bundles.{unit_keys}
use Rattle.asset_bundles.specs.Landing.{new_id, renamed, Renamed}
use Rattle.asset_bundles.proofs.Lemmas.{landed_conserves}
use Rattle.asset_lists.specs.Listed.{listed_of, same_kind}
use Rattle.law_coherence.specs.UniversalAssets.{UniversalAsset, leads_to_path, Choice, is_unit_at, IsPlaced}
use Rattle.law_coherence.specs.Renaming.{CanBeNamed, HasReanchorableUnits}

pub of_result : (r : Result Location LocationFault) (new : AssetId) → id_of_result r ≡ Some new → (m : Location) × (r ≡ Ok m) × (new ≡ Concrete m)
of_result (Ok m) new e = (m, refl, cc)
of_result (Err fault) new e = absurd (cc)

-- the path stays
pub path_kept : (target : Location) (context : List Junction) (id new : AssetId) (path : List Junction) → HasPath context target → IsPlaced context id
    → reanchored_id target context id ≡ Some new → leads_to_path (path_of context target) path new ≡ leads_to_path context path id
path_kept target context (Concrete l) new path there placed seen =
    let to = of_result (reanchored l target context) new seen in
    ap (leads_to_path (path_of context target) path) to.2
    ∙ ap (λ p. eq_by_cmp junctions_cmp p path) (keeps_path context l target to.0 (record { placed = placed; target_placed = there; seen = to.1 })).same
path_kept target context (Abstract name) new path there placed seen = absurd placed

pub unit_kept : (target : Location) (context : List Junction) (a : UniversalAsset) (choice : Choice) (u : Unit) → HasPath context target → IsPlaced context u.0 → CanBeNamed target context u.0
    → is_unit_at (path_of context target) a choice (renamed target context u) ≡ is_unit_at context a choice u
unit_kept target context a choice u there placed named =
    let new : new_id target context u.0 ≡ named.0 = ap (λ o. unwrap_or o u.0) named.1 in
    ap (λ b. (b && same_kind (listed_of u).1 a.1) && choice u.1)
    (ap (leads_to_path (path_of context target) a.0) new ∙ path_kept target context u.0 named.0 a.0 there placed named.1)

-- the amount of each asset, and of each instance, is the same at both chains
pub moved_amount : (target : Location) (context : List Junction) (a : UniversalAsset) (choice : Choice) (b : Bundle) → HasPath context target → HasReanchorableUnits target context b
    → total (is_unit_at (path_of context target) a choice) (Renamed target context b) ≡ total (is_unit_at context a choice) b
moved_amount target context a choice b there all =
    landed_conserves (is_unit_at (path_of context target) a choice) target context b
    ∙ total_alike_held unit_keys (λ u. is_unit_at (path_of context target) a choice (renamed target context u)) (is_unit_at context a choice) b
    (λ u held. unit_kept target context a choice u there (all.placed u held) (all.named u held))

-- ---- a list that is named in full
both_parts : (x : Option Asset) (r : Option (List Asset)) (all : List Asset) → both x r ≡ Some all → (b : Asset) × (rest : List Asset) × (x ≡ Some b) × (r ≡ Some rest)
both_parts None r all e = absurd (cc)
both_parts (Some b) None all e = absurd (cc)
both_parts (Some b) (Some rest) all e = (b, rest, refl, refl)

of_moved : (a : Asset) (id : Option AssetId) (b : Asset) → option_map (λ (new : AssetId). record { id = new; fun = a.fun }) id ≡ Some b → (new : AssetId) × (id ≡ Some new)
of_moved a None b e = absurd (cc)
of_moved a (Some new) b e = (new, refl)

pub all_named : (target : Location) (context : List Junction) (xs all : List Asset) → all_reanchored target context xs ≡ Some all
    → (u : Unit) → 0 < sum_where (eq_by_cmp unit_cmp u) (rows_of xs) → CanBeNamed target context u.0
all_named target context [] all seen u some = absurd (omega (arith, some))
all_named target context (a ∷ xs) all seen u some =
    let parts = both_parts (moved target context a) (all_reanchored target context xs) all seen in
    elim (eq_by_cmp unit_cmp u (unit_of a)) as (λ b. eq_by_cmp unit_cmp u (unit_of a) ≡ b → CanBeNamed target context u.0) [
      | true ↦ λ t. let same : u ≡ unit_of a = key_same unit_keys u (unit_of a) t in
          let id = of_moved a (reanchored_id target context a.id) parts.0 parts.2 in
          (id.0, ap (λ (v : Unit). reanchored_id target context v.0) same ∙ id.1)
      | false ↦ λ t. let rest : 0 < amount_if false (amount_of a) + sum_where (eq_by_cmp unit_cmp u) (rows_of xs) = subst (λ b. 0 < amount_if b (amount_of a) + sum_where (eq_by_cmp unit_cmp u) (rows_of xs)) t some in
          all_named target context xs parts.1 parts.3 u (omega (arith, rest))
    ] refl
