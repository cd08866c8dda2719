use Rattle.std.proofs.Common.{◌≡◌, [], ◌∷◌, true, sym, ap, ◌∙◌, subst, take}
use Rattle.std.specs.Prelude.{None}
use Rattle.amounts.specs.Amounts.{empty}
use Rattle.asset_lists.specs.Units.{unit_of}
use Rattle.asset_lists.specs.Listed.{listed_of, lists}
use Rattle.asset_bundles.specs.Bundles.{bundle_of, held_assets}
use Rattle.trust_tables.specs.Trust.{listing}
use Rattle.ledgers.specs.Ledgers.{barred}
use Rattle.exec_base.specs.Part.{ChainPart}
use Rattle.network_steps.specs.Tests.{is_placeable}
use Rattle.network_steps.specs.Genesis.{with_balance}
use Rattle.chain_state.specs.PartOf.{part_of}
use Rattle.chain_state.proofs.Balances.{next_balances, placeable, small_amount, free_balance, others_before}
use Rattle.chain_state.proofs.state.ChainState.place_all.Goals as goal
use Rattle.plain_lists.proofs.Lemmas.Facts.{all_at}

pub place_balance-requires-clause-some : goal.place_balance-requires-clause-some
place_balance-requires-clause-some c =
    let rows = c.args.self.now.settings.rows in
    (placeable rows c.balance-item.result (all_at (is_placeable rows) c.args.balances.now c.loop-balance.balance-index c.balance-item.result c.requires.balances c.loop-balance-test.true c.balance-item.is)).some

pub place_balance-requires-clause-listed : goal.place_balance-requires-clause-listed
place_balance-requires-clause-listed c =
    let rows = c.args.self.now.settings.rows in
    let b = c.balance-item.result in
    let is = placeable rows b (all_at (is_placeable rows) c.args.balances.now c.loop-balance.balance-index b c.requires.balances c.loop-balance-test.true c.balance-item.is) in
    subst (λ table. lists (listing table) (listed_of (unit_of b.asset)) ≡ true) (sym (ap (λ (p : ChainPart). p.rows) c.loop-balance.invariant)) is.listed

pub place_balance-requires-clause-free : goal.place_balance-requires-clause-free
place_balance-requires-clause-free c =
    let rows = c.args.self.now.settings.rows in
    let b = c.balance-item.result in
    let list = c.args.balances.now in
    let i = c.loop-balance.balance-index in
    let is = placeable rows b (all_at (is_placeable rows) list i b c.requires.balances c.loop-balance-test.true c.balance-item.is) in
    subst (λ held. barred held b.who (held_assets (bundle_of (b.asset ∷ []))) ≡ None) (sym (ap (λ (p : ChainPart). p.held) c.loop-balance.invariant))
    (free_balance rows (take i list) b is (small_amount b.asset _ c.amount-amount.ensures c.amount-amount.type_inv) (others_before list i b c.requires.once c.loop-balance-test.true c.balance-item.is))

pub loop-balance-preserved : goal.loop-balance-preserved
loop-balance-preserved c =
    let b = c.balance-item.result in
    let list = c.args.balances.now in
    let i = c.loop-balance.balance-index in
    let same = c.loop-balance.invariant in
    let next = next_balances empty list i b c.loop-balance-test.true c.balance-item.is in
    c.in_ok-place_balance.ensures.placed ∙ (λ j. record (same j) { held = with_balance (same j).held b }) ∙ (λ j. record (part_of c.args.self.now) { held = sym next j })
