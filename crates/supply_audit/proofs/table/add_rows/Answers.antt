use Rattle.std.proofs.Common.{◌≡◌, ◌∙◌, ◌+◌, List, ap, take, arith}
use Rattle.std.proofs.lemmas.List.{take_all}
use Rattle.trust_tables.specs.declared.rows.AssetRow.{AssetRow}
use Rattle.chain_state.specs.PartOf.{part_of}
use Rattle.supply_audit.specs.Supplies.{row_part, rows_part}
use Rattle.supply_audit.proofs.Tables.{raises_along, raises_both, rows_more, row_has_path}
use Rattle.supply_audit.proofs.table.add_rows.Goals as goal

pub loop-row-preserved : goal.loop-row-preserved
loop-row-preserved c =
    let p = part_of c.args.chain.now in
    let rows = c.rows-rows.result.now in
    let k = c.loop-row.row-index in
    raises_both c.args.sums.now.entries c.loop-row.sums.entries c.add_row.new.sums.entries
    (rows_part p (take k rows)) (row_part p c.row-item.result) (rows_part p (take (k + 1) rows))
    (λ a w. rows_more p rows k c.row-item.result c.loop-row-test.true c.row-item.is a w)
    c.loop-row.invariant c.in_ok-add_row.ensures

pub returns : goal.returns
returns c =
    let p = part_of c.args.chain.now in
    let rows = c.rows-rows.result.now in
    let k = c.loop-row.row-index in
    let all : take k rows ≡ p.rows = take_all k rows (omega arith) ∙ c.rows-rows.ensures in
    raises_along c.args.sums.now.entries c.loop-row.sums.entries (rows_part p (take k rows)) (rows_part p p.rows)
    (λ a w. ap (λ (xs : List AssetRow). rows_part p xs a w) all) c.loop-row.invariant

pub add_row-requires-clause-path : goal.add_row-requires-clause-path
add_row-requires-clause-path c = row_has_path c.args.chain.now c.rows-rows.result.now c.loop-row.row-index c.row-item.result c.rows-rows.ensures c.loop-row-test.true c.row-item.is
