use Rattle.std.proofs.Common.{◌≡◌, ◌∙◌, ◌++◌, true, refl, ap}
use Rattle.std.specs.Prelude.{if◌then◌else◌, [], ◌∷◌}
use Rattle.std.specs.Ordering.{eq_by_cmp}
use Rattle.std.proofs.lemmas.Result.{on_ok_weaker}
use Rattle.trust_tables.specs.declared.chains.Site.{Site}
use Rattle.law_coherence.specs.UniversalAssets.{UniversalAsset}
use Rattle.chain_state.specs.PartOf.{part_of}
use Rattle.supply_audit.specs.Assets.{universal_asset_cmp, listed_at}
use Rattle.supply_audit.specs.RowPlaces.{places_in}
use Rattle.supply_audit.proofs.Listing.{put_more}
use Rattle.supply_audit.proofs.asset_places.add_row.Goals as goal

pub returns : goal.returns
returns c =
    let p = part_of c.args.chain.now in
    let row = c.args.row.now in
    let own = listed_at p.site row in
    let is_own : c.listed_at-asset.result ≡ own = c.listed_at-asset.ensures ∙ ap (λ (s : Site). listed_at s row) c.site.ensures in
    let old = places_in c.args.places.now.entries in
    on_ok_weaker c.add_place.result
    (λ wrote a. wrote a
    ∙ ap (λ (x : UniversalAsset). if eq_by_cmp universal_asset_cmp x a then old x ++ c.args.place ∷ [] else old a) is_own
    ∙ put_more (λ (x : UniversalAsset). true) p row c.args.place refl old a)
    c.add_place.ensures
