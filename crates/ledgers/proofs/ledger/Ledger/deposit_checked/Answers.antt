use Rattle.std.proofs.Common.{◌≡◌, true, false, ap, sym, ◌∙◌, subst}
use Rattle.std.specs.Prelude.{None}
use Rattle.std.specs.List.{list_all}
use Rattle.asset_lists.specs.Units.{unit_of}
use Rattle.asset_lists.specs.Lists.{is_rising, has_zero}
use Rattle.asset_bundles.specs.Bundles.{bundle_of, held_assets}
use Rattle.asset_lists.specs.Listed.{listed_of, lists}
use Rattle.ledgers.specs.Ledgers.{Accounts, barred, Deposited}
use Rattle.ledgers.specs.RowState.{rows_held, accounts_in}
use Rattle.ledgers.proofs.Holding.{held_rises, held_no_zero}
use Rattle.ledgers.proofs.AccountMoves.{plus_whole}
use Rattle.ledgers.proofs.Opening.{goods_listed, may_all}
use Rattle.ledgers.proofs.Transferring.{as_seen}
use Rattle.ledgers.proofs.ledger.Ledger.deposit_checked.Goals as goal

pub put_all-requires-clause-listed : goal.put_all-requires-clause-listed
put_all-requires-clause-listed c =
    let listed = ap (λ (l : Accounts). l.listed) c.self.view_is in
    let all = goods_listed c.args.self.now.listed c.args.goods c.requires.listed in
    subst (λ xs. list_all (λ a. lists c.self.inside.rows.assets (listed_of (unit_of a))) xs ≡ true) (sym c.items.ensures.listed)
    (subst (λ l. list_all (λ a. lists l (listed_of (unit_of a))) (held_assets c.args.goods) ≡ true) (sym listed) all)

pub put_all-requires-clause-may : goal.put_all-requires-clause-may
put_all-requires-clause-may c =
    let rows = c.self.inside.rows in
    let assets = c.items.result.now in
    may_all (rows_held rows) c.args.who.now assets
    (as_seen (λ l xs. barred l.held c.args.who.now xs ≡ None) c.args.self.now (accounts_in rows) (held_assets c.args.goods) assets (sym c.self.view_is) (sym c.items.ensures.listed) c.requires.free)

pub put_all-requires-clause-no_zero : goal.put_all-requires-clause-no_zero
put_all-requires-clause-no_zero c = subst (λ xs. has_zero xs ≡ false) (sym c.items.ensures.listed) (held_no_zero c.args.goods)

pub put_all-requires-clause-once : goal.put_all-requires-clause-once
put_all-requires-clause-once c = subst (λ xs. is_rising xs ≡ true) (sym c.items.ensures.listed) (held_rises c.args.goods)

pub returns : goal.returns
returns c =
    let rows = c.self.inside.rows in
    let who = c.args.who.now in
    let given = c.items.result.now in
    let held = c.in-Ok.ensures.held ∙ plus_whole (rows_held rows) who given in
    let moved : accounts_in c.put_all.new.rows ≡ Deposited who (bundle_of given) (accounts_in rows) = λ i. record { listed = c.put_all.ensures.assets i; held = held i } in
    record {
      deposited = moved ∙ ap (λ goods. Deposited who goods (accounts_in rows)) c.items.ensures.bundle ∙ ap (Deposited who c.args.goods) c.self.view_is;
      back = tt;
      kept = tt;
    }
