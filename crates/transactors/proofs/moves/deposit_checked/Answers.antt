use Rattle.std.proofs.Common.{sym, ap, ◌∙◌, subst}
use Rattle.asset_bundles.specs.Bundles.{held_assets, bundle_of}
use Rattle.asset_bundles.specs.Books.{AreListed}
use Rattle.asset_bundles.proofs.Lemmas.{listed_list}
use Rattle.transactors.proofs.Moving.{none_bars, rows_taken, all_listed}
use Rattle.transactors.proofs.moves.deposit_checked.Goals as goal

pub deposit_checked-requires : goal.deposit_checked-requires
deposit_checked-requires g c =
    let rows = g.T.Transactor.rows c.args.t.now in
    let ledger = c.args.ledger.now in
    let list = held_assets c.args.goods in
    let all = listed_list ledger.listed list (all_listed ledger.listed rows list c.requires.listed (rows_taken rows ledger.held c.args.to list c.requires.free)) in
    record {
      listed = subst (AreListed ledger.listed) (ap bundle_of (sym c.items-items.ensures.listed) ∙ c.items-items.ensures.bundle) all;
      free = none_bars rows ledger.held c.args.to c.in-Some.account list c.in-Some.is c.requires.free;
    }
