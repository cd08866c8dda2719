-- In a network that agrees, a listed unit that is trusted to go to a chain gets there the id of the one row with
-- its path and kind.
use Rattle.std.specs.Prelude.{◌≡◌, ◌<◌, List, Some, Ok, unwrap_or}
use Rattle.std.proofs.Common.{sym, ap, ◌∙◌, subst}
use Rattle.locations.specs.declared.relative.Location.{Location}
use Rattle.locations.specs.Chains.{path_of, IsNormal, IsNear}
use Rattle.locations.specs.Reanchoring.{reanchored}
use Rattle.locations.specs.PathLaw.{IsSeenAs}
use Rattle.locations.proofs.Lemmas.{keeps_path, keeps_normal, has_one_name, reanchors}
use Rattle.amounts.specs.Amounts.{amount}
use Rattle.asset_lists.specs.declared.units.AssetId.TheVariants.{Concrete}
use Rattle.asset_lists.specs.Units.{Unit}
use Rattle.asset_lists.specs.Moves.{id_of_result, reanchored_id}
use Rattle.asset_bundles.specs.Bundles.{Bundle}
use Rattle.asset_bundles.specs.Landing.{new_id, StayApart}
use Rattle.chain_ids.specs.declared.chain.ChainId.{ChainId}
use Rattle.trust_tables.specs.declared.chains.Site.{Site}
use Rattle.trust_tables.specs.declared.rows.AssetRow.{AssetRow}
use Rattle.trust_tables.specs.Chains.{path_of_site, location_of}
use Rattle.trust_tables.proofs.Lemmas.ChainLaws.{path_of-location_of, near_location, short_path, no_only_child}
use Rattle.law_coherence.specs.UniversalAssets.{IsPlaced}
use Rattle.law_coherence.specs.Renaming.{HasReanchorableUnits}
use Rattle.law_coherence.specs.Networks.{Table, context_of, IsIn, path_of_row, AreTwins, Agrees, HasTwin}

-- ---- the twin's id is what the target names
module _ (n : List Table) (agrees : Agrees n) (s t : Table) (s_in : IsIn n s) (t_in : IsIn n t) (l : Location) (leads : location_of s.site.chain t.site.chain ≡ Some l) where
  network_at : (a b : Site) (x : ChainId) → a.network ≡ b.network → path_of_site (record { network = a.network; chain = b.chain }) ≡ path_of_site b
  network_at a b x same = ap (λ network. path_of_site (record { network = network; chain = b.chain })) same

  pub leads_to : path_of (context_of s) l ≡ context_of t
  leads_to = path_of-location_of s.site.network s.site.chain t.site.chain l leads ∙ network_at s.site t.site t.site.chain (agrees.network.one_network s t s_in t_in)

  pub near : IsNear (context_of s) l
  near = near_location s.site.network s.site.chain t.site.chain l leads

  pub twin_named : (x y : AssetRow) → IsIn s.rows x → AreTwins s t x y → reanchored x.id l (context_of s) ≡ Ok y.id
  twin_named x y x_in twins =
      let x_normal : IsNormal (context_of s) x.id = agrees.normal s x s_in x_in in
      let found = reanchors (context_of s) x.id l x_normal.inside near (short_path s.site) (agrees.network.short s x s_in x_in) in
      let seen : IsSeenAs (context_of s) x.id l found.0 = record { placed = x_normal.inside; target_placed = near.placed; seen = found.1 } in
      let normal : IsNormal (context_of t) found.0 = subst (λ c. IsNormal c found.0) leads_to (keeps_normal (context_of s) x.id l found.0 seen (no_only_child s.site.network s.site.chain) x_normal) in
      let path : path_of (context_of t) found.0 ≡ path_of (context_of s) x.id = subst (λ c. path_of c found.0 ≡ path_of (context_of s) x.id) leads_to (keeps_path (context_of s) x.id l found.0 seen).same in
      let one : found.0 ≡ y.id = has_one_name (context_of t) found.0 y.id normal (agrees.normal t y t_in twins.there) (path ∙ sym twins.path) in
      found.1 ∙ ap Ok one

  pub unit_named : (u : Unit) (h : HasTwin s t u) → reanchored_id l (context_of s) u.0 ≡ Some (Concrete h.twin.id)
  unit_named u h = ap (reanchored_id l (context_of s)) h.unit.id ∙ ap id_of_result (twin_named h.row h.twin h.listed h.twins)

  pub unit_placed : (u : Unit) → HasTwin s t u → IsPlaced (context_of s) u.0
  unit_placed u h = subst (IsPlaced (context_of s)) (sym h.unit.id) (agrees.normal s h.row s_in h.listed).inside

  pub are_named : (b : Bundle) → ((u : Unit) → 0 < amount b u → HasTwin s t u) → HasReanchorableUnits l (context_of s) b
  are_named b all = record { placed = λ u held. unit_placed u (all u held); named = λ u held. (Concrete (all u held).twin.id, unit_named u (all u held)) }

  row_told : (u : Unit) (h : HasTwin s t u) → new_id l (context_of s) u.0 ≡ Concrete h.twin.id
  row_told u h = ap (λ o. unwrap_or o u.0) (unit_named u h)

  location_told : (a b : Location) → Concrete a ≡ Concrete b → a ≡ b
  location_told a b e = cc

  pub stay_apart : (b : Bundle) → ((u : Unit) → 0 < amount b u → HasTwin s t u) → StayApart l (context_of s) b
  stay_apart b all u v u_held v_held same =
      let h = all u u_held in
      let k = all v v_held in
      let ids : h.twin.id ≡ k.twin.id = location_told h.twin.id k.twin.id (sym (row_told u h) ∙ ap (λ (w : Unit). w.0) same ∙ row_told v k) in
      let paths : path_of_row s h.row ≡ path_of_row s k.row = sym h.twins.path ∙ ap (path_of (context_of t)) ids ∙ k.twins.path in
      let rows : h.row ≡ k.row = agrees.paths_apart s h.row k.row s_in h.listed k.listed paths in
      λ i. ((h.unit.id ∙ ap (λ (r : AssetRow). Concrete r.id) rows ∙ sym k.unit.id) i, ap (λ (w : Unit). w.1) same i)
