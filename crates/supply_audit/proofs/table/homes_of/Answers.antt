use Rattle.supply_audit.proofs.Tables.{row_has_path}
use Rattle.supply_audit.proofs.table.homes_of.Goals as goal

pub add_home-requires : goal.add_home-requires
add_home-requires c = row_has_path c.args.chain.now c.rows-rows.result.now c.loop-row.row-index c.row-item.result c.rows-rows.ensures c.loop-row-test.true c.row-item.is
