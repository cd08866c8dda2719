use Rattle.std.proofs.Common.{◌≡◌, ◌++◌, map}
use Rattle.ledgers.specs.AssetTable.{table_keys}
use Rattle.ledgers.specs.Ledgers.{listed_pair}
use Rattle.ledgers.proofs.asset_table.AssetTable.open.Given as goal

abbrev pub invariant-loop-id : goal.invariant-loop-id
invariant-loop-id l = table_keys l.assets.keys ++ map listed_pair l.id-iterator.rest.items ≡ map listed_pair l.fn.list.items
