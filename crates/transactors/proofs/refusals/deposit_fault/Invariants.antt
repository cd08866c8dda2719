use Rattle.std.proofs.Common.{◌≡◌, drop}
use Rattle.transactors.specs.Checks.{check_in}
use Rattle.transactors.specs.Moves.{first_move_fault}
use Rattle.transactors.proofs.refusals.deposit_fault.Given as goal

abbrev pub invariant-loop-asset : goal.invariant-loop-asset
invariant-loop-asset g l =
    first_move_fault (check_in (g.T.Transactor.rows l.t) l.ledger.held l.to) l.asset-items
    ≡ first_move_fault (check_in (g.T.Transactor.rows l.t) l.ledger.held l.to) (drop l.asset-index l.asset-items)
