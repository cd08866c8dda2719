use Rattle.std.proofs.Common.{◌≡◌, sym, ap, ◌∙◌, rules}
use Rattle.std.specs.Prelude.{Err, is_some}
use Rattle.amounts.specs.Amounts.{amount}
use Rattle.asset_lists.specs.Units.{unit_of, amount_of}
use Rattle.trust_tables.specs.Trust.{row_of}
use Rattle.transactors.specs.Floors.{higher_floors, locked_floors}
use Rattle.transactors.specs.Checks.{accepted, is_short_of, check_out}
use Rattle.transactors.proofs.Moving.{fault_is}
use Rattle.transactors.proofs.Flooring.{higher_lacks, first_refuses}
use Rattle.transactors.proofs.floored.FlooredTransactor.check_account_out.Goals as goal

pub returns-in_err-check_account_out : goal.returns-in_err-check_account_out
returns-in_err-check_account_out g c =
    let rows = g.T.Transactor.rows c.args.self.now.inner in
    let first = g.T.Transactor.floors c.args.self.now.inner in
    let second = locked_floors c.args.self.now.locks.now in
    let held = c.args.ledger.now.held in
    let a = c.args.a.now in
    let account = c.args.account in
    let fault = c.in_err-check_account_out.field-0.0 in
    let inner = fault_is (check_out rows first held account a) fault (sym c.in_err-check_account_out.was ∙ c.check_account_out.ensures.checked) in
    let both = first_refuses (is_some (row_of rows a)) account (λ w. is_short_of first held w a) (λ w. is_short_of second held w a) (λ w. is_short_of (higher_floors first second) held w a) fault
    (λ w. higher_lacks (amount held (w, unit_of a)) (amount_of a) (first w (unit_of a)) (second w (unit_of a))) inner in
    let told : accepted (check_out rows (higher_floors first second) held account a) ≡ Err fault = ap accepted both in
    search rules
