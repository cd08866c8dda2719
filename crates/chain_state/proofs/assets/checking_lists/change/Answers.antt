use Rattle.std.proofs.Common.{get_or, set, sym, ap, ◌∙◌}
use Rattle.std.specs.Prelude.{Some, None}
use Rattle.chain_state.specs.Checked.{change_by}
use Rattle.chain_state.proofs.CheckingRows.{no_row, past_row, set_row, set_same}
use Rattle.chain_state.proofs.assets.checking_lists.change.Goals as goal
use Rattle.plain_lists.proofs.Lemmas.Facts.{none_if}

pub returns-in_default : goal.returns-in_default
returns-in_default c = sym (no_row (change_by c.args.rises) c.args.asset.now c.args.rows.now c.args.checking.now (sym c.find_row.ensures ∙ c.in_default.is))

pub returns-then-place-checking : goal.returns-then-place-checking
returns-then-place-checking c = sym (past_row (change_by c.args.rises) c.args.asset.now c.args.rows.now c.args.checking.now c.in-Some.place (sym c.find_row.ensures ∙ c.in-Some.is) c.if-place-checking.true)

pub returns-in-Some-checking : goal.returns-in-Some-checking
returns-in-Some-checking c =
    let by = change_by c.args.rises in
    (λ i. set c.args.checking.now c.in-Some.place (Some ((c.change_by.ensures ∙ ap (by c.in-Some-checking.amount) c.amount.ensures) i)))
    ∙ set_row by c.args.asset.now c.args.rows.now c.args.checking.now c.in-Some.place (Some c.in-Some-checking.amount) (sym c.find_row.ensures ∙ c.in-Some.is) c.if-place-checking.false c.in-Some-checking.is

pub returns-in_default-checking : goal.returns-in_default-checking
returns-in_default-checking c =
    let none = none_if (get_or c.args.checking.now c.in-Some.place None) c.in_default-checking.not-Some in
    sym (set_same c.args.checking.now c.in-Some.place None c.if-place-checking.false (sym none))
    ∙ set_row (change_by c.args.rises) c.args.asset.now c.args.rows.now c.args.checking.now c.in-Some.place None (sym c.find_row.ensures ∙ c.in-Some.is) c.if-place-checking.false none
