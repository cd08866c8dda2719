use Rattle.std.proofs.Common.{sym, ap, ◌∙◌}
use Rattle.transactors.specs.Checks.{check_out}
use Rattle.transactors.specs.Moves.{first_move_fault}
use Rattle.transactors.proofs.Moving.{fault_is, stops}
use Rattle.transactors.proofs.refusals.withdraw_fault.Goals as goal

pub returns-in-Err : goal.returns-in-Err
returns-in-Err g c =
    let check = check_out (g.T.Transactor.rows c.args.t.now) (g.T.Transactor.floors c.args.t.now) c.args.ledger.now.held c.args.from in
    let here = fault_is (check c.asset-item.result) c.in-Err.fault (sym c.in-Err.is ∙ c.check_account_out.ensures.checked) in
    record {
      fault = sym (stops check c.items-asset-items.result.now c.loop-asset.asset-index c.asset-item.result c.in-Err.fault c.loop-asset-test.true c.asset-item.is here c.loop-asset.invariant)
          ∙ ap (first_move_fault check) c.items-asset-items.ensures.value;
    }
