use Rattle.std.proofs.Common.{◌≡◌, sym, ap, ◌∙◌, subst}
use Rattle.std.specs.Prelude.{None}
use Rattle.ledgers.specs.Ledgers.{Withdrawn}
use Rattle.transactors.specs.Checks.{check_in}
use Rattle.transactors.specs.Moves.{first_move_fault, ledger_at_account, after_withdrawal, after_transfer}
use Rattle.transactors.proofs.Moving.{both_none, nobody_gives, nobody_takes, enough_given, none_bars}
use Rattle.transactors.proofs.Nothing.{nothing_moved}
use Rattle.transactors.proofs.moves.transfer_checked.Goals as goal
use Rattle.plain_lists.proofs.Lemmas.Facts.{none_if}

pub transfer_checked-requires : goal.transfer_checked-requires
transfer_checked-requires g c =
    let rows = g.T.Transactor.rows c.args.t.now in
    let floors = g.T.Transactor.floors c.args.t.now in
    let ledger = c.args.ledger.now in
    let list = c.args.list.now in
    let free = both_none _ _ c.requires.free in
    let giver = c.in-Some.is in
    let taker = c.in-Some-to.is in
    let takes = subst (λ o. first_move_fault (check_in rows (ledger_at_account o (λ account. Withdrawn account list ledger) ledger).held c.args.to) list ≡ None) giver free.1 in
    record {
      able = record {
        enough = enough_given rows floors ledger.held c.args.from c.in-Some.giver list giver free.0;
        free = none_bars rows (Withdrawn c.in-Some.giver list ledger).held c.args.to c.in-Some-to.taker list taker takes;
      };
    }

pub returns-in_default : goal.returns-in_default
returns-in_default g c =
    let rows = g.T.Transactor.rows c.args.t.now in
    let floors = g.T.Transactor.floors c.args.t.now in
    let ledger = c.args.ledger.now in
    let free = both_none _ _ c.requires.free in
    let nobody = none_if c.args.from c.in_default.not-Some in
    let nothing = nobody_gives rows floors ledger.held c.args.from c.args.list.now nobody free.0 in
    record {
      transferred = nothing_moved ledger c.args.from c.args.to ∙ ap (λ xs. after_transfer xs c.args.from c.args.to ledger) (sym nothing);
      kept = tt;
    }

pub returns-in_default-to : goal.returns-in_default-to
returns-in_default-to g c =
    let rows = g.T.Transactor.rows c.args.t.now in
    let ledger = c.args.ledger.now in
    let free = both_none _ _ c.requires.free in
    let nobody = none_if c.args.to c.in_default-to.not-Some in
    let nothing = nobody_takes rows (after_withdrawal c.args.list.now c.args.from ledger).held c.args.to c.args.list.now nobody free.1 in
    record {
      transferred = nothing_moved ledger c.args.from c.args.to ∙ ap (λ xs. after_transfer xs c.args.from c.args.to ledger) (sym nothing);
      kept = tt;
    }
