use Rattle.std.proofs.Common.{sym, ap, ◌∙◌, subst}
use Rattle.amounts.specs.Amounts.{minus_all}
use Rattle.ledgers.specs.RowState.{rows_held}
use Rattle.ledgers.specs.AccountRows.{account_rows, HasAll}
use Rattle.ledgers.proofs.Passing.{still_all, all_given_then_taken}
use Rattle.ledgers.proofs.list_moves.move_amounts.Goals as goal

pub take_all-may_be_empty-requires-clause-has : goal.take_all-may_be_empty-requires-clause-has
take_all-may_be_empty-requires-clause-has c =
    subst (λ h. HasAll h c.args.from.now c.args.list.now) (sym c.in_ok-put_all.ensures.held)
    (still_all (rows_held c.args.rows.now) (account_rows c.args.to.now c.args.list.now) c.args.from.now c.args.list.now c.requires.has)

pub returns : goal.returns
returns c = record {
  sound = c.sweep_all.ensures.sound;
  assets = c.sweep_all.ensures.assets ∙ c.take_all-may_be_empty.ensures.stay.assets ∙ c.put_all.ensures.assets;
  held = c.sweep_all.ensures.held ∙ c.take_all-may_be_empty.ensures.held ∙ ap (λ h. minus_all h (account_rows c.args.from.now c.args.list.now)) c.in_ok-put_all.ensures.held
      ∙ all_given_then_taken (rows_held c.args.rows.now) c.args.from.now c.args.to.now c.args.list.now c.requires.others;
  kept = tt;
}
