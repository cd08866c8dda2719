use Rattle.std.proofs.Common.{◌∙◌, ap, map, refl, arith}
use Rattle.ledgers.specs.Ledgers.{listed_pair}
use Rattle.network_config.proofs.RowTables.{one_more}
use Rattle.network_config.proofs.holdings.places.Goals as goal

pub loop-row-preserved : goal.loop-row-preserved
loop-row-preserved c =
    let row = c.row-item.result in
    record {
      same = ap (map listed_pair) c.push_listed.ensures.items
          ∙ one_more c.loop-row.list.items c.args.rows.now c.loop-row.row-index row row.id c.loop-row-test.true c.row-item.is refl c.loop-row.invariant.same;
      filled = omega (arith, c.push_listed.ensures.len, c.loop-row.invariant.filled);
      room = c.push_listed.ensures.capacity ∙ c.loop-row.invariant.room;
    }
