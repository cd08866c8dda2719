use Rattle.std.proofs.Common.{◌≡◌, ℕ, ◌<◌}
use Rattle.std.specs.Prelude.{slice_get, Some}
use Rattle.asset_lists.specs.declared.units.Asset.{Asset}
use Rattle.ledgers.specs.RowState.{rows_held, AreSound, KeepsRows, HasDepositRows}
use Rattle.ledgers.proofs.list_moves.make_all_room.Given as goal

abbrev pub invariant-loop-asset : goal.invariant-loop-asset
invariant-loop-asset l = record {
  sound : AreSound l.rows;
  stay : KeepsRows l.fn.rows l.rows;
  held : rows_held l.rows ≡ rows_held l.fn.rows;
  room : (k : ℕ) (a : Asset) → k < l.asset-index → slice_get l.list k ≡ Some a → HasDepositRows l.rows l.who a;
}
