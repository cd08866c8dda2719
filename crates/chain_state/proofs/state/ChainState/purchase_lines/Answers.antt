use Rattle.std.proofs.Common.{sym, ap, ◌∙◌}
use Rattle.std.specs.Prelude.{None, IsTrue}
use Rattle.asset_lists.specs.declared.units.AssetId.TheVariants.{Concrete}
use Rattle.asset_lists.specs.Listed.{listed_of, lists}
use Rattle.trust_tables.specs.Trust.{listing}
use Rattle.weight_trader.specs.Purchases.{Line, coin_of, paying, is_covered}
use Rattle.chain_state.proofs.Trading.{found_passes, excess_paid}
use Rattle.chain_state.proofs.RateList.{each}
use Rattle.chain_state.proofs.state.ChainState.purchase_lines.Goals as goal

pub line-requires : goal.line-requires
line-requires c =
    let f = c.args.self.now in
    let paid = excess_paid c.args.w (paying c.args.w c.args.payment.now f.trader) c.in-Some.asset c.in-Some.amount (sym c.excess_of.ensures ∙ c.in-Some.is) in
    let listed = found_passes (λ (line : Line). IsTrue (lists (listing f.settings.rows) (listed_of (coin_of line.rate)))) (is_covered c.args.w c.args.payment.now) f.trader paid.0 (each (listing f.settings.rows) f.trader f.rates) paid.1 in
    ap (λ asset. lists (listing f.settings.rows) (listed_of (Concrete asset, None))) (sym paid.2) ∙ listed
