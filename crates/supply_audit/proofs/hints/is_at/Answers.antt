use Rattle.std.proofs.Common.{◌≡◌, ◌∙◌, ap, sym}
use Rattle.std.specs.Prelude.{Some, slice_get}
use Rattle.std.proofs.lemmas.Bool.{ltb-true}
use Rattle.std.proofs.lemmas.Option.{slice_get-get_or}
use Rattle.trust_tables.specs.Trust.{listed_row}
use Rattle.asset_lists.specs.Units.{unit_of}
use Rattle.supply_audit.proofs.Found.{listed_at_row, listed_told}
use Rattle.supply_audit.proofs.hints.is_at.Goals as goal

pub returns-in-Some : goal.returns-in-Some
returns-in-Some c = λ is.
    let rows = c.args.rows.now in
    let row = c.in-Some.row.now in
    let inside = ltb-true _ _ (sym c.in-Some.ensures.lookup.0) in
    let there : slice_get rows c.args.index ≡ Some row = slice_get-get_or rows c.args.index row inside ∙ ap Some (sym c.in-Some.ensures.lookup.1) in
    listed_at_row rows c.args.index row there ∙ ap Some (sym (listed_told (listed_row row) (unit_of c.args.asset.now) (sym c.is_asset.ensures ∙ is)))
