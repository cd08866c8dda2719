use Rattle.std.proofs.Common.{map, ◌∷◌, ◌++◌, sym, ap, ◌∙◌}
use Rattle.locations.specs.declared.relative.Location.{Location}
use Rattle.asset_lists.specs.declared.units.AssetId.TheVariants.{Concrete}
use Rattle.ledgers.specs.declared.listed_asset.ListedAsset.{ListedAsset}
use Rattle.ledgers.specs.AssetTable.{table_keys}
use Rattle.ledgers.specs.Ledgers.{listed_pair}
use Rattle.ledgers.proofs.Tables.{one_more_asset}
use Rattle.ledgers.proofs.asset_table.AssetTable.open.Goals as goal

pub loop-id-preserved : goal.loop-id-preserved
loop-id-preserved c =
    let asset : ListedAsset = record { id = c.in_ok-id.id; kind = c.in-Some.kind } in
    ap (λ xs. table_keys xs ++ map listed_pair c.next.new.self.rest.items) c.in_ok-insert.ensures.keys
    ∙ one_more_asset (map listed_pair c.args.list.items) c.requires.distinct c.loop-id.assets.keys asset (map listed_pair c.next.new.self.rest.items)
    (ap (λ (place : Location). table_keys c.loop-id.assets.keys ++ (Concrete place, c.in-Some.kind) ∷ map listed_pair c.next.new.self.rest.items) c.in_ok-id.ensures
    ∙ ap (λ xs. table_keys c.loop-id.assets.keys ++ map listed_pair xs) (sym c.in-Some.ensures.steps.0) ∙ c.loop-id.invariant)
