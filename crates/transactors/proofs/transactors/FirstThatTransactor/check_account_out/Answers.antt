use Rattle.std.proofs.Common.{ℕ, List, sym, ap, ◌∙◌}
use Rattle.std.specs.Prelude.{is_some}
use Rattle.trust_tables.specs.Trust.{row_of}
use Rattle.transactors.specs.Checks.{accepted, is_unhandled, move_fault, is_short_of, check_out}
use Rattle.transactors.proofs.Rows.{row_of_both}
use Rattle.transactors.proofs.Moving.{later, sooner}
use Rattle.transactors.proofs.transactors.FirstThatTransactor.check_account_out.Goals as goal

pub returns-then-is_unhandled : goal.returns-then-is_unhandled
returns-then-is_unhandled g c =
    let a = c.args.a.now in
    let first = g.A.Transactor.rows c.args.self.now.first in
    let second = g.B.Transactor.rows c.args.self.now.second in
    let account = c.args.account in
    let refused = λ (who : List ℕ). is_short_of (g.A.Transactor.floors c.args.self.now.first) c.args.ledger.now.held who a in
    let unhandled = sym (c.is_unhandled.ensures ∙ ap is_unhandled c.check_account_out-answer.ensures.checked) ∙ c.if-is_unhandled.true in
    record {
      checked = c.check_account_out.ensures.checked
          ∙ (λ i. accepted (check_out second (sym c.requires.agrees.3 i) c.args.ledger.now.held account a))
          ∙ ap accepted (later (is_some (row_of first a)) (is_some (row_of second a)) account refused unhandled)
          ∙ ap (λ b. accepted (move_fault b account refused)) (sym (row_of_both first second a));
    }

pub returns : goal.returns
returns g c =
    let a = c.args.a.now in
    let first = g.A.Transactor.rows c.args.self.now.first in
    let second = g.B.Transactor.rows c.args.self.now.second in
    let account = c.args.account in
    let refused = λ (who : List ℕ). is_short_of (g.A.Transactor.floors c.args.self.now.first) c.args.ledger.now.held who a in
    let handled = sym (c.is_unhandled.ensures ∙ ap is_unhandled c.check_account_out-answer.ensures.checked) ∙ c.if-is_unhandled.false in
    record {
      checked = c.check_account_out-answer.ensures.checked
          ∙ ap accepted (sooner (is_some (row_of first a)) (is_some (row_of second a)) account refused handled)
          ∙ ap (λ b. accepted (move_fault b account refused)) (sym (row_of_both first second a));
    }
