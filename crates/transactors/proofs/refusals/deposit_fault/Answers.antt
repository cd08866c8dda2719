use Rattle.std.proofs.Common.{sym, ap, ◌∙◌}
use Rattle.transactors.specs.Checks.{check_in}
use Rattle.transactors.specs.Moves.{first_move_fault}
use Rattle.transactors.proofs.Moving.{fault_is, stops}
use Rattle.transactors.proofs.refusals.deposit_fault.Goals as goal

pub returns-in-Err : goal.returns-in-Err
returns-in-Err g c =
    let check = check_in (g.T.Transactor.rows c.args.t.now) c.args.ledger.now.held c.args.to in
    let here = fault_is (check c.asset-item.result) c.in-Err.fault (sym c.in-Err.is ∙ c.check_account_in.ensures.checked) in
    record {
      fault = sym (stops check c.items-asset-items.result.now c.loop-asset.asset-index c.asset-item.result c.in-Err.fault c.loop-asset-test.true c.asset-item.is here c.loop-asset.invariant)
          ∙ ap (first_move_fault check) c.items-asset-items.ensures.listed;
    }
