use Rattle.std.proofs.Common.{◌≡◌, true, false, ap, sym, ◌∙◌, subst}
use Rattle.std.specs.Prelude.{None}
use Rattle.std.specs.Ordering.{is_eq}
use Rattle.amounts.specs.Amounts.{difference, merge, minus_all}
use Rattle.asset_lists.specs.Lists.{is_rising, has_zero}
use Rattle.asset_bundles.specs.Bundles.{bundle_of}
use Rattle.ledgers.specs.Ledgers.{held_by, shortage, barred, Withdrawn, Transferred}
use Rattle.ledgers.specs.RowState.{rows_held, accounts_in}
use Rattle.ledgers.specs.AccountRows.{account_rows, MayTakeAll}
use Rattle.ledgers.proofs.AccountMoves.{has_all, minus_whole, plus_whole}
use Rattle.ledgers.proofs.Opening.{may_all}
use Rattle.ledgers.proofs.Transferring.{has_held_by, given_listed, one_account, two_accounts, given_back, as_seen}
use Rattle.ledgers.proofs.ledger.Ledger.transfer_checked.Goals as goal

pub move_all-requires-clause-others : goal.move_all-requires-clause-others
move_all-requires-clause-others c = two_accounts c.args.from.now c.args.to.now c.is_eq.result (c.is_eq.ensures ∙ ap is_eq c.cmp.ensures) c.if-is_eq.false

pub move_all-requires-clause-has : goal.move_all-requires-clause-has
move_all-requires-clause-has c =
    let r = c.self.inside.rows in
    let enough = as_seen (λ l xs. shortage l.held c.args.from.now xs ≡ None) c.args.self.now (accounts_in r) c.args.list.now c.items-assets.result.now (sym c.self.view_is) (sym c.items-assets.ensures.value) c.requires.able.enough in
    has_all (rows_held r) c.args.from.now c.items-assets.result.now (subst (λ xs. is_rising xs ≡ true) (sym c.items-assets.ensures.value) c.items-assets.ensures.list.rising) enough

pub move_all-requires-clause-listed : goal.move_all-requires-clause-listed
move_all-requires-clause-listed c =
    let r = c.self.inside.rows in
    let assets = c.items-assets.result.now in
    let enough = as_seen (λ l xs. shortage l.held c.args.from.now xs ≡ None) c.args.self.now (accounts_in r) c.args.list.now assets (sym c.self.view_is) (sym c.items-assets.ensures.value) c.requires.able.enough in
    let has = has_all (rows_held r) c.args.from.now assets (subst (λ xs. is_rising xs ≡ true) (sym c.items-assets.ensures.value) c.items-assets.ensures.list.rising) enough in
    given_listed r.assets r.amounts.entries r.owners.entries r.sums.items c.self.invariant c.args.from.now assets has (subst (λ xs. has_zero xs ≡ false) (sym c.items-assets.ensures.value) c.items-assets.ensures.list.no_zero)

pub move_all-requires-clause-may : goal.move_all-requires-clause-may
move_all-requires-clause-may c =
    let r = c.self.inside.rows in
    let from = c.args.from.now in
    let to = c.args.to.now in
    let assets = c.items-assets.result.now in
    let free = as_seen (λ l xs. barred (Withdrawn from xs l).held to xs ≡ None) c.args.self.now (accounts_in r) c.args.list.now assets (sym c.self.view_is) (sym c.items-assets.ensures.value) c.requires.able.free in
    subst (λ h. MayTakeAll h to assets) (sym (minus_whole (rows_held r) from assets)) (may_all (difference (rows_held r) (held_by from (bundle_of assets))) to assets free)

pub returns-then-is_eq : goal.returns-then-is_eq
returns-then-is_eq c =
    let from = c.args.from.now in
    let assets = c.items-assets.result.now in
    let same = c.items-assets.ensures.value in
    let one = one_account from c.args.to.now c.is_eq.result (c.is_eq.ensures ∙ ap is_eq c.cmp.ensures) c.if-is_eq.true in
    let has = has_all c.args.self.now.held from assets (subst (λ xs. is_rising xs ≡ true) (sym same) c.items-assets.ensures.list.rising) (subst (λ xs. shortage c.args.self.now.held from xs ≡ None) (sym same) c.requires.able.enough) in
    let back = given_back from assets c.args.self.now (has_held_by c.args.self.now.held from assets has) in
    record {
      transferred = sym (ap (λ k. Transferred from k c.args.list.now c.args.self.now) (sym one) ∙ ap (λ xs. Transferred from from xs c.args.self.now) (sym same) ∙ back);
      kept = tt;
    }

pub returns : goal.returns
returns c =
    let r = c.self.inside.rows in
    let from = c.args.from.now in
    let to = c.args.to.now in
    let assets = c.items-assets.result.now in
    let held = c.in_ok-move_all.ensures.held ∙ plus_whole (minus_all (rows_held r) (account_rows from assets)) to assets ∙ ap (λ h. merge h (held_by to (bundle_of assets))) (minus_whole (rows_held r) from assets) in
    let moved : accounts_in c.move_all.new.rows ≡ Transferred from to assets (accounts_in r) = λ i. record { listed = c.move_all.ensures.assets i; held = held i } in
    record {
      transferred = moved ∙ ap (λ xs. Transferred from to xs (accounts_in r)) c.items-assets.ensures.value ∙ ap (Transferred from to c.args.list.now) c.self.view_is;
      kept = tt;
    }
