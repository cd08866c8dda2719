use Rattle.std.proofs.Common.{◌≡◌, ◌∙◌, ap, sym, true}
use Rattle.std.specs.Prelude.{if◌then◌else◌}
use Rattle.std.specs.BTreeSet.{contains}
use Rattle.std.specs.Ordering.{eq_by_cmp}
use Rattle.std.proofs.lemmas.Result.{on_ok_weaker}
use Rattle.asset_lists.specs.declared.units.AssetId.TheVariants.{Concrete}
use Rattle.trust_tables.specs.declared.chains.Site.{Site}
use Rattle.law_coherence.specs.UniversalAssets.{UniversalAsset}
use Rattle.law_coherence.specs.Networks.{is_home}
use Rattle.chain_state.specs.PartOf.{part_of}
use Rattle.supply_audit.specs.Assets.{universal_asset_cmp, listed_at}
use Rattle.supply_audit.specs.Places.{chain_table, figure}
use Rattle.supply_audit.specs.Supplies.{row_part}
use Rattle.supply_audit.proofs.Tables.{row_away, raises_along, part_is}
use Rattle.supply_audit.proofs.table.add_row.Goals as goal

pub returns-then-not-contains : goal.returns-then-not-contains
returns-then-not-contains c =
    let p = part_of c.args.chain.now in
    let own = listed_at p.site c.args.row.now in
    let is_test_error : c.listed_at-asset.result ≡ own = c.listed_at-asset.ensures ∙ ap (λ (s : Site). listed_at s c.args.row.now) c.site.ensures in
    let told : c.contains.result ≡ is_home own (chain_table p) = c.contains.ensures ∙ ap (contains universal_asset_cmp c.args.homes.now) is_test_error ∙ c.requires.homes own in
    row_away c.args.sums.now.entries p c.args.row.now (sym told ∙ c.if-not-contains.true)

pub returns : goal.returns
returns c =
    let p = part_of c.args.chain.now in
    let row = c.args.row.now in
    let own = listed_at p.site row in
    let is_test_error : c.listed_at-asset.result ≡ own = c.listed_at-asset.ensures ∙ ap (λ (s : Site). listed_at s row) c.site.ensures in
    let told : c.contains.result ≡ is_home own (chain_table p) = c.contains.ensures ∙ ap (contains universal_asset_cmp c.args.homes.now) is_test_error ∙ c.requires.homes own in
    let at_home : is_home own (chain_table p) ≡ true = sym told ∙ c.if-not-contains.false in
    on_ok_weaker c.raise.result
    (λ rises. raises_along c.args.sums.now.entries c.raise.new.sums.entries
    (λ a w. if eq_by_cmp universal_asset_cmp c.listed_at-asset.result a then figure w p (Concrete row.id) row.kind else 0) (row_part p row)
    (λ a w. ap (λ (x : UniversalAsset). if eq_by_cmp universal_asset_cmp x a then figure w p (Concrete row.id) row.kind else 0) is_test_error ∙ part_is p row true at_home a w)
    (rises (λ w. figure w p (Concrete row.id) row.kind) c.row_supply.ensures))
    c.raise.ensures
