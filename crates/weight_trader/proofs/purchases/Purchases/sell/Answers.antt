use Rattle.std.proofs.Common.{ap, sym, ◌∙◌}
use Rattle.weight_trader.specs.Prices.{price}
use Rattle.weight_trader.specs.Purchases.{Line}
use Rattle.weight_trader.proofs.Bundles.{minus_none}
use Rattle.weight_trader.proofs.purchases.Purchases.sell.Goals as goal

pub returns-then-cost-eq0-clause-payment : goal.returns-then-cost-eq0-clause-payment
returns-then-cost-eq0-clause-payment c = minus_none _ _ _ (ap (λ (l : Line). price l.rate c.args.weight) (sym c.self.view_is) ∙ sym c.price-cost.ensures ∙ c.if-cost-eq0.true)
