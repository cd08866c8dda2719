use Rattle.std.proofs.Common.{◌≡◌, ◌∙◌, ap}
use Rattle.std.specs.Prelude.{Some}
use Rattle.std.specs.List.{filter}
use Rattle.trust_tables.specs.declared.chains.Site.{Site}
use Rattle.chain_state.specs.PartOf.{part_of}
use Rattle.supply_audit.specs.Assets.{listed_at}
use Rattle.supply_audit.specs.AssetPlaces.{is_at}
use Rattle.supply_audit.specs.RowPlaces.{places_in}
use Rattle.supply_audit.proofs.cover.covering.Goals as goal

pub returns : goal.returns
returns c =
    let row = c.args.row.now in
    let asset = listed_at (part_of c.args.here.now).site row in
    let is_asset : c.listed_at-asset.result ≡ asset = c.listed_at-asset.ensures ∙ ap (λ (s : Site). listed_at s row) c.site.ensures in
    let places = places_in c.args.index.now.places.entries in
    let all : c.of_asset-all.result.now ≡ places asset = c.of_asset-all.ensures ∙ ap places is_asset in
    let own = c.in_ok-own.ensures ∙ ap (filter (is_at c.args.number)) all ∙ c.requires.own asset in
    let kept = c.in_ok-kept.ensures ∙ ap (filter (is_at c.args.other)) all ∙ c.requires.kept asset in
    λ i. Some (record { here = c.name_of.ensures i; there = c.name_of-2.ensures i; own = own i; kept = kept i })
