use Rattle.std.proofs.Common.{◌≡◌, true, ap, sym, ◌∙◌, subst}
use Rattle.std.specs.Prelude.{None, MatchOption}
use Rattle.std.specs.Ordering.{is_eq}
use Rattle.amounts.specs.Amounts.{difference}
use Rattle.asset_lists.specs.Lists.{is_rising}
use Rattle.asset_bundles.specs.Bundles.{bundle_of}
use Rattle.ledgers.specs.Ledgers.{held_by, shortage, barred, Withdrawn}
use Rattle.ledgers.specs.LedgerFaults.{IsFirstBarred}
use Rattle.ledgers.specs.declared.faults.DepositFault.{DepositFault}
use Rattle.ledgers.specs.RowState.{rows_held, accounts_in}
use Rattle.ledgers.proofs.AccountMoves.{has_all}
use Rattle.ledgers.proofs.Transferring.{self_free, receiver_bar, other_overflow, two_accounts, one_account, as_seen}
use Rattle.ledgers.proofs.ledger.Ledger.transfer_overflow.Goals as goal

pub returns-then-is_eq : goal.returns-then-is_eq
returns-then-is_eq c =
    let r = c.self.inside.rows in
    let from = c.args.from.now in
    let to = c.args.to.now in
    let assets = c.items-assets.result.now in
    let same = c.items-assets.ensures.value in
    let enough = as_seen (λ l xs. shortage l.held from xs ≡ None) c.args.self.now (accounts_in r) c.args.list.now assets (sym c.self.view_is) (sym same) c.requires.enough in
    let has = has_all (rows_held r) from assets (subst (λ xs. is_rising xs ≡ true) (sym same) c.items-assets.ensures.list.rising) enough in
    let one = one_account from to c.is_eq.result (c.is_eq.ensures ∙ ap is_eq c.cmp.ensures) c.if-is_eq.true in
    let free = subst (λ k. barred (difference (rows_held r) (held_by from (bundle_of assets))) k assets ≡ None) one (self_free r.assets r.amounts.entries r.owners.entries r.sums.items c.self.invariant from assets has) in
    record { overflow = as_seen (λ l xs. barred (Withdrawn from xs l).held to xs ≡ None) (accounts_in r) c.args.self.now assets c.args.list.now c.self.view_is same free }

pub returns : goal.returns
returns c =
    let r = c.self.inside.rows in
    let from = c.args.from.now in
    let to = c.args.to.now in
    let assets = c.items-assets.result.now in
    let same = c.items-assets.ensures.value in
    let told = c.overflow.result in
    let enough = as_seen (λ l xs. shortage l.held from xs ≡ None) c.args.self.now (accounts_in r) c.args.list.now assets (sym c.self.view_is) (sym same) c.requires.enough in
    let has = has_all (rows_held r) from assets (subst (λ xs. is_rising xs ≡ true) (sym same) c.items-assets.ensures.list.rising) enough in
    let apart = two_accounts from to c.is_eq.result (c.is_eq.ensures ∙ ap is_eq c.cmp.ensures) c.if-is_eq.false in
    let bar = receiver_bar r.assets r.amounts.entries r.owners.entries r.sums.items c.self.invariant from to assets has told (other_overflow (rows_held r) from to assets apart ∙ sym c.overflow.ensures) in
    record {
      overflow = as_seen (λ l xs. MatchOption told (barred (Withdrawn from xs l).held to xs ≡ None)
          (λ have. IsFirstBarred (Withdrawn from xs l).held to xs (DepositFault.Overflow have))) (accounts_in r) c.args.self.now assets c.args.list.now c.self.view_is same bar;
    }
