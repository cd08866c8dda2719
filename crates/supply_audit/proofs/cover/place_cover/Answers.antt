use Rattle.std.proofs.Common.{sym}
use Rattle.std.proofs.lemmas.Bool.{ltb-true}
use Rattle.supply_audit.proofs.Tables.{row_has_path}
use Rattle.supply_audit.proofs.cover.place_cover.Goals as goal

pub row_cover-requires-clause-path : goal.row_cover-requires-clause-path
row_cover-requires-clause-path c =
    row_has_path c.args.here.now c.rows.result.now c.args.row c.in-Some.row.now c.rows.ensures (ltb-true _ _ (sym c.in-Some.ensures.lookup.0)) c.in-Some.ensures.lookup.1
