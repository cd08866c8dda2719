use Rattle.std.proofs.Common.{◌≡◌, drop}
use Rattle.transactors.specs.Checks.{check_out}
use Rattle.transactors.specs.Moves.{first_move_fault}
use Rattle.transactors.proofs.refusals.withdraw_fault.Given as goal

abbrev pub invariant-loop-asset : goal.invariant-loop-asset
invariant-loop-asset g l =
    first_move_fault (check_out (g.T.Transactor.rows l.t) (g.T.Transactor.floors l.t) l.ledger.held l.from) l.asset-items
    ≡ first_move_fault (check_out (g.T.Transactor.rows l.t) (g.T.Transactor.floors l.t) l.ledger.held l.from) (drop l.asset-index l.asset-items)
