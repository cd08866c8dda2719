use Rattle.std.proofs.Common.{ap, ◌∙◌, [], ◌∷◌}
use Rattle.amounts.specs.Amounts.{single}
use Rattle.asset_lists.specs.declared.units.Asset.{Asset}
use Rattle.weight_trader.specs.Purchases.{coin_of}
use Rattle.weight_trader.specs.Closing.{coins}
use Rattle.weight_trader.proofs.Bundles.{one_bundle}
use Rattle.weight_trader.proofs.trader.minted_refund.Goals as goal

pub returns : goal.returns
returns c =
    c.in_ok-goods.ensures
    ∙ one_bundle _ (coins c.args.line.now.rate c.refund_amount.result) (ap (λ (a : Asset). a ∷ []) c.coins-coins.ensures)
    ∙ ap (λ n. single (coin_of c.args.line.now.rate) n) c.refund_amount.ensures
