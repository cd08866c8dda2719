use Rattle.std.proofs.Common.{rules, []}
use Rattle.std.proofs.lemmas.List.{set_at}
use Rattle.ledgers.proofs.asset_table.AssetTable.push_listed.Goals as goal

pub returns-clause-items : goal.returns-clause-items
returns-clause-items c =
    rw (c.push_reserved.ensures.items, c.assign.ensures)
    (set_at c.args.list.now.items (c.here.result, c.args.kind) [] (c.args.id.now, c.args.kind) c.len-last.result (search rules))
