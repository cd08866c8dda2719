use Rattle.std.proofs.Common.{◌≡◌, true, ap, sym, ◌∙◌, subst}
use Rattle.std.specs.Prelude.{None}
use Rattle.asset_lists.specs.Lists.{is_rising}
use Rattle.asset_lists.proofs.Lemmas.{once_each}
use Rattle.asset_bundles.specs.Bundles.{bundle_of}
use Rattle.ledgers.specs.Ledgers.{shortage, Withdrawn}
use Rattle.ledgers.specs.RowState.{rows_held, accounts_in}
use Rattle.ledgers.proofs.AccountMoves.{has_all, minus_whole}
use Rattle.ledgers.proofs.Transferring.{as_seen}
use Rattle.ledgers.proofs.ledger.Ledger.withdraw_checked.Goals as goal

pub mint-requires-clause-once : goal.mint-requires-clause-once
mint-requires-clause-once c = once_each c.items-assets.result.now (subst (λ xs. is_rising xs ≡ true) (sym c.items-assets.ensures.value) c.items-assets.ensures.list.rising)

pub take_all-needs_sweep-requires-clause-has : goal.take_all-needs_sweep-requires-clause-has
take_all-needs_sweep-requires-clause-has c =
    let rows = c.self.inside.rows in
    let assets = c.items-assets.result.now in
    let enough = as_seen (λ l xs. shortage l.held c.args.who.now xs ≡ None) c.args.self.now (accounts_in rows) c.args.list.now assets (sym c.self.view_is) (sym c.items-assets.ensures.value) c.requires.enough in
    has_all (rows_held rows) c.args.who.now assets (subst (λ xs. is_rising xs ≡ true) (sym c.items-assets.ensures.value) c.items-assets.ensures.list.rising) enough

pub returns : goal.returns
returns c =
    let rows = c.self.inside.rows in
    let who = c.args.who.now in
    let assets = c.items-assets.result.now in
    let same = c.items-assets.ensures.value in
    let listed = c.sweep_all.ensures.assets ∙ c.take_all-needs_sweep.ensures.stay.assets in
    let held = c.sweep_all.ensures.held ∙ c.take_all-needs_sweep.ensures.held ∙ minus_whole (rows_held rows) who assets in
    let moved : accounts_in c.sweep_all.new.rows ≡ Withdrawn who assets (accounts_in rows) = λ i. record { listed = listed i; held = held i } in
    record {
      goods = c.in_ok-goods.ensures ∙ ap bundle_of same;
      withdrawn = moved ∙ ap (λ xs. Withdrawn who xs (accounts_in rows)) same ∙ ap (Withdrawn who c.args.list.now) c.self.view_is;
      kept = tt;
    }
