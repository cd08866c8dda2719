use Rattle.std.proofs.Common.{◌≡◌, ◌∙◌, ◌+◌, min, length, sym, arith}
use Rattle.std.specs.Prelude.{Some}
use Rattle.asset_lists.specs.Listed.{listed_of}
use Rattle.asset_lists.specs.Units.{unit_of}
use Rattle.asset_bundles.specs.Books.{most_burned}
use Rattle.ledgers.specs.Ledgers.{number_in}
use Rattle.supply_audit.proofs.Found.{at_own_row, row_inside, unlisted}
use Rattle.supply_audit.proofs.row_sums.add_asset.Goals as goal

pub returns-in-Some-clause-rise : goal.returns-in-Some-clause-rise
returns-in-Some-clause-rise c =
    let listed = c.args.ledger.now.listed in
    let a = c.args.asset.now in
    let row = c.in-Some.row in
    let found : number_in listed (listed_of (unit_of a)) ≡ Some row = sym c.in-Some.ensures in
    let few = row_inside listed (listed_of (unit_of a)) row found in
    let many : length c.args.sums.now ≡ length listed = c.requires.sums.0 in
    at_own_row listed c.requires.sums.1 a c.args.sums.now row c.plus.result found (omega (arith, few, many))
    (c.plus.ensures ∙ (λ i. min (c.sum_in_row.ensures i + c.amount.ensures i) most_burned))

pub returns-in-None-clause-rise : goal.returns-in-None-clause-rise
returns-in-None-clause-rise c =
    unlisted c.args.ledger.now.listed c.requires.sums.1 c.args.asset.now c.args.sums.now (sym c.in-None.ensures)
