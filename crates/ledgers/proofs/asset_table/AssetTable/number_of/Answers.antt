use Rattle.std.proofs.Common.{sym, ap, ◌∙◌}
use Rattle.asset_lists.specs.declared.units.AssetId.{AssetId}
use Rattle.asset_lists.specs.declared.units.AssetId.TheVariants.{Concrete, Abstract}
use Rattle.ledgers.specs.AssetTable.{listed_asset_of}
use Rattle.ledgers.specs.Ledgers.{number_in}
use Rattle.ledgers.proofs.Tables.{table_number, no_abstract}
use Rattle.ledgers.proofs.asset_table.AssetTable.number_of.Goals as goal

pub returns-in-Some : goal.returns-in-Some
returns-in-Some c =
    c.in-Some.ensures.index ∙ table_number c.self.inside.assets.keys (listed_asset_of c.in-Concrete.place c.args.kind) ∙ ap (λ xs. number_in xs (Concrete c.in-Concrete.place, c.args.kind)) c.self.view_is
    ∙ ap (λ (id : AssetId). number_in c.args.self.now (id, c.args.kind)) (sym c.in-Concrete.is)

pub returns-in-None : goal.returns-in-None
returns-in-None c =
    c.in-None.ensures.index ∙ table_number c.self.inside.assets.keys (listed_asset_of c.in-Concrete.place c.args.kind) ∙ ap (λ xs. number_in xs (Concrete c.in-Concrete.place, c.args.kind)) c.self.view_is
    ∙ ap (λ (id : AssetId). number_in c.args.self.now (id, c.args.kind)) (sym c.in-Concrete.is)

pub returns-in-Abstract : goal.returns-in-Abstract
returns-in-Abstract c =
    no_abstract c.self.inside.assets.keys c.in-Abstract.field-0 c.args.kind ∙ ap (λ xs. number_in xs (Abstract c.in-Abstract.field-0, c.args.kind)) c.self.view_is
    ∙ ap (λ (id : AssetId). number_in c.args.self.now (id, c.args.kind)) (sym c.in-Abstract.is)
