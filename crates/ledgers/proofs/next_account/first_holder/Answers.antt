use Rattle.std.proofs.Common.{ℕ, None, sym, ◌∙◌, subst, arith}
use Rattle.ledgers.specs.LedgerRows.{AmountKey, IsNextRow}
use Rattle.ledgers.proofs.NextRows.{IsAhead, row_left, none_left, row_found, whole_ahead}
use Rattle.ledgers.proofs.next_account.first_holder.Goals as goal

pub loop-key-init : goal.loop-key-init
loop-key-init c =
    whole_ahead c.args.rows.now c.into_iter-key-iterator.result (c.into_iter-key-iterator.ensures.into_iter_gives ∙ c.iter-key-items.ensures.rest) c.iter-key-items.ensures.found c.iter-key-items.ensures.ordered

pub returns-then-amount-gt0 : goal.returns-then-amount-gt0
returns-then-amount-gt0 c =
    let row : AmountKey × ℕ = (c.in-Some.key.now, c.in-Some.amount.now) in
    subst (λ who. IsNextRow None c.args.rows.now.entries who) (sym c.account.ensures) (row_found None c.args.rows.now row c.next.new.self (subst (IsAhead None c.args.rows.now) c.in-Some.ensures.steps c.loop-key.invariant) tt c.if-amount-gt0.true)

pub loop-key-preserved : goal.loop-key-preserved
loop-key-preserved c =
    let row : AmountKey × ℕ = (c.in-Some.key.now, c.in-Some.amount.now) in
    row_left None c.args.rows.now row c.next.new.self (λ later positive. (let none = c.if-amount-gt0.false in absurd (omega (arith, none, positive)))) (subst (IsAhead None c.args.rows.now) c.in-Some.ensures.steps c.loop-key.invariant)

pub returns : goal.returns
returns c = none_left None c.args.rows.now c.loop-key.key-iterator c.in-None.ensures.steps.0 c.loop-key.invariant
