use Rattle.std.proofs.Common.{◌≡◌, drop, false}
use Rattle.amounts.specs.Amounts.{minus_all}
use Rattle.asset_lists.specs.Lists.{has_zero}
use Rattle.ledgers.specs.RowState.{rows_held, AreSound, KeepsRows}
use Rattle.ledgers.specs.AccountRows.{account_rows, HasAll}
use Rattle.ledgers.proofs.list_moves.take_all.Given as goal

abbrev pub invariant-loop-asset : goal.invariant-loop-asset
invariant-loop-asset l = record {
  sound : AreSound l.rows;
  stay : KeepsRows l.fn.rows l.rows;
  no_zero : has_zero (drop l.asset-index l.list) ≡ false;
  has : HasAll (rows_held l.rows) l.who (drop l.asset-index l.list);
  held : minus_all (rows_held l.rows) (account_rows l.who (drop l.asset-index l.list)) ≡ minus_all (rows_held l.fn.rows) (account_rows l.who l.list);
}
