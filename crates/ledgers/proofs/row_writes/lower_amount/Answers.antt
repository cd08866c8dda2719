use Rattle.std.proofs.Common.{◌-◌, arith}
use Rattle.ledgers.specs.LedgerRows.{amount_key_cmp}
use Rattle.ledgers.proofs.RowWriting.{rows_stay, found_says, there_too, small_written, small_at}
use Rattle.ledgers.proofs.row_writes.lower_amount.Goals as goal

pub overflow_sub-have : goal.overflow_sub-have
overflow_sub-have c =
    let row = found_says c.args.rows.now.entries c.args.number c.in-Some.have.now c.args.who.now c.of.result c.in-Some.ensures.value c.of.ensures in
    omega (arith, row, c.requires.enough)

pub returns-clause-stay : goal.returns-clause-stay
returns-clause-stay c =
    let v = c.in-Some.have.now - c.args.amount in
    rows_stay amount_key_cmp (c.of.result, c.args.number) v _ _ ((c.get_mut.follows.holds v).3 (there_too c.args.rows.now.entries c.args.number c.args.who.now c.of.result c.of.ensures c.requires.there)).0

pub returns-clause-small : goal.returns-clause-small
returns-clause-small c = λ small.
    let v = c.in-Some.have.now - c.args.amount in
    let row = found_says c.args.rows.now.entries c.args.number c.in-Some.have.now c.args.who.now c.of.result c.in-Some.ensures.value c.of.ensures in
    small_written c.args.rows.now.entries _ _ v (c.get_mut.follows.holds v).0 (let most = small_at c.args.rows.now.entries (c.args.who.now, c.args.number) small in omega (arith, row, most)) small
