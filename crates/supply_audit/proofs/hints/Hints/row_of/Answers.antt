use Rattle.std.proofs.Common.{◌∙◌, List, ap, sym}
use Rattle.std.specs.Prelude.{slice_get}
use Rattle.asset_lists.specs.Listed.{Listed, listed_of}
use Rattle.asset_lists.specs.Units.{unit_of}
use Rattle.supply_audit.proofs.Found.{number_at_row}
use Rattle.supply_audit.proofs.hints.Hints.row_of.Goals as goal

pub returns-then-is_at : goal.returns-then-is_at
returns-then-is_at c =
    let k = listed_of (unit_of c.args.asset.now) in
    sym (number_at_row c.args.ledger.now.listed c.hint-hint.result k c.requires.once
    (ap (λ (l : List Listed). slice_get l c.hint-hint.result) c.requires.listed ∙ c.is_at.ensures c.if-is_at.true))
