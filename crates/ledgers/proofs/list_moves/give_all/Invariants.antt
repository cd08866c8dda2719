use Rattle.std.proofs.Common.{◌≡◌, drop, true}
use Rattle.std.specs.List.{list_all}
use Rattle.amounts.specs.Amounts.{plus_all}
use Rattle.asset_lists.specs.Units.{unit_of}
use Rattle.asset_lists.specs.Lists.{is_rising}
use Rattle.asset_lists.specs.Listed.{listed_of, lists}
use Rattle.ledgers.specs.RowState.{rows_held, AreSound, KeepsRows}
use Rattle.ledgers.specs.AccountRows.{account_rows, MayTakeAll}
use Rattle.ledgers.proofs.list_moves.give_all.Given as goal

abbrev pub invariant-loop-asset : goal.invariant-loop-asset
invariant-loop-asset l = record {
  sound : AreSound l.rows;
  stay : KeepsRows l.fn.rows l.rows;
  listed : list_all (λ a. lists l.fn.rows.assets (listed_of (unit_of a))) (drop l.asset-index l.list) ≡ true;
  may : MayTakeAll (rows_held l.rows) l.who (drop l.asset-index l.list);
  once : is_rising (drop l.asset-index l.list) ≡ true;
  held : plus_all (rows_held l.rows) (account_rows l.who (drop l.asset-index l.list)) ≡ plus_all (rows_held l.fn.rows) (account_rows l.who l.list);
}
