use Rattle.std.proofs.Common.{sym, ap, ◌∙◌}
use Rattle.asset_bundles.specs.Bundles.{bundle_of}
use Rattle.asset_bundles.proofs.Lemmas.BundleLaws.{bundle_of-none}
use Rattle.ledgers.specs.Ledgers.{Withdrawn}
use Rattle.transactors.specs.Moves.{ledger_at_account}
use Rattle.transactors.proofs.Moving.{nobody_gives, enough_given}
use Rattle.transactors.proofs.moves.withdraw_checked.Goals as goal
use Rattle.plain_lists.proofs.Lemmas.Facts.{none_if}

pub withdraw_checked-requires : goal.withdraw_checked-requires
withdraw_checked-requires g c =
    let rows = g.T.Transactor.rows c.args.t.now in
    let floors = g.T.Transactor.floors c.args.t.now in
    record { enough = enough_given rows floors c.args.ledger.now.held c.args.from c.in-Some.account c.args.list.now c.in-Some.is c.requires.free }

pub returns-in_default : goal.returns-in_default
returns-in_default g c =
    let rows = g.T.Transactor.rows c.args.t.now in
    let floors = g.T.Transactor.floors c.args.t.now in
    let ledger = c.args.ledger.now in
    let nobody = none_if c.args.from c.in_default.not-Some in
    let nothing = nobody_gives rows floors ledger.held c.args.from c.args.list.now nobody c.requires.free in
    record {
      goods = c.empty.ensures ∙ sym bundle_of-none ∙ ap bundle_of (sym nothing);
      withdrawn = sym (ap (λ o. ledger_at_account o (λ account. Withdrawn account c.args.list.now ledger) ledger) nobody);
      kept = tt;
    }
