use Rattle.std.proofs.Common.{◌≡◌, List, [], ◌∷◌, sym, ap, ◌∙◌}
use Rattle.asset_lists.specs.declared.units.Asset.{Asset}
use Rattle.asset_lists.specs.declared.units.Fun.TheVariants.{Fungible}
use Rattle.weight_trader.specs.Closing.{paid_assets}
use Rattle.weight_trader.proofs.Bundles.{paid_bundle}
use Rattle.weight_trader.proofs.trader.Trader.lone_payment.Goals as goal

pub returns-clause-goods : goal.returns-clause-goods
returns-clause-goods c =
    let paid : List Asset = record { id = c.id.result.now; fun = Fungible c.paid.result } ∷ [] in
    let all : paid_assets c.args.self.now ≡ paid =
    ap paid_assets (sym (c.as_slice.ensures.value ∙ c.self.view_is)) ∙ c.in-Some.ensures ∙ (λ i. record { id = sym c.id.ensures i; fun = Fungible (sym c.paid.ensures i) } ∷ []) in
    paid_bundle c.args.self.now paid (sym all)
