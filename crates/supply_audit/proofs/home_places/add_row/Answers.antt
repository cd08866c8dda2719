use Rattle.std.proofs.Common.{◌≡◌, ◌∙◌, ◌++◌, ap, sym, append-nil}
use Rattle.std.specs.BTreeSet.{contains}
use Rattle.std.specs.Prelude.{if◌then◌else◌, [], ◌∷◌}
use Rattle.std.specs.Ordering.{eq_by_cmp}
use Rattle.std.proofs.lemmas.Result.{on_ok_weaker}
use Rattle.trust_tables.specs.declared.chains.Site.{Site}
use Rattle.law_coherence.specs.UniversalAssets.{UniversalAsset}
use Rattle.law_coherence.specs.Networks.{is_home}
use Rattle.chain_state.specs.PartOf.{part_of}
use Rattle.supply_audit.specs.Assets.{universal_asset_cmp, listed_at}
use Rattle.supply_audit.specs.Places.{chain_table}
use Rattle.supply_audit.specs.RowPlaces.{places_in}
use Rattle.supply_audit.proofs.Listing.{put_away, put_more}
use Rattle.supply_audit.proofs.home_places.add_row.Goals as goal

pub returns-then-not-contains : goal.returns-then-not-contains
returns-then-not-contains c = λ a.
    let p = part_of c.args.chain.now in
    let row = c.args.row.now in
    let own = listed_at p.site row in
    let is_own : c.listed_at-asset.result ≡ own = c.listed_at-asset.ensures ∙ ap (λ (s : Site). listed_at s row) c.site.ensures in
    let told : c.contains.result ≡ is_home own (chain_table p) = c.contains.ensures ∙ ap (contains universal_asset_cmp c.args.homes.now) is_own ∙ c.requires.homes own in
    sym (append-nil (places_in c.args.places.now.entries a)) ∙ ap (λ xs. places_in c.args.places.now.entries a ++ xs) (sym (put_away (λ (x : UniversalAsset). is_home x (chain_table p)) p row c.args.place (sym told ∙ c.if-not-contains.true) a))

pub returns : goal.returns
returns c =
    let p = part_of c.args.chain.now in
    let row = c.args.row.now in
    let own = listed_at p.site row in
    let is_own : c.listed_at-asset.result ≡ own = c.listed_at-asset.ensures ∙ ap (λ (s : Site). listed_at s row) c.site.ensures in
    let told : c.contains.result ≡ is_home own (chain_table p) = c.contains.ensures ∙ ap (contains universal_asset_cmp c.args.homes.now) is_own ∙ c.requires.homes own in
    let old = places_in c.args.places.now.entries in
    on_ok_weaker c.add_place.result
    (λ wrote a. wrote a
    ∙ ap (λ (x : UniversalAsset). if eq_by_cmp universal_asset_cmp x a then old x ++ c.args.place ∷ [] else old a) is_own
    ∙ put_more (λ (x : UniversalAsset). is_home x (chain_table p)) p row c.args.place (sym told ∙ c.if-not-contains.false) old a)
    c.add_place.ensures
