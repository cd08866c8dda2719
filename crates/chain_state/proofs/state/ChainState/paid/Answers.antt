use Rattle.std.proofs.Common.{sym, ap, ◌∙◌}
use Rattle.asset_lists.specs.declared.units.AssetId.TheVariants.{Concrete}
use Rattle.weight_trader.specs.Purchases.{paid_goods}
use Rattle.chain_state.specs.Aside.{asset_in}
use Rattle.chain_state.proofs.AsideSums.{amount_alone, class_unpaid, bytes_unpaid}
use Rattle.chain_state.proofs.state.ChainState.paid.Goals as goal

pub returns-in-Concrete-Fungible : goal.returns-in-Concrete-Fungible
returns-in-Concrete-Fungible c =
    let lines = c.args.self.now.trader in
    c.paid.ensures ∙ amount_alone (Concrete c.in-Concrete-Fungible.asset) (paid_goods lines) ∙ (λ i. asset_in (sym c.in-Concrete-Fungible.is-0 i) (sym c.in-Concrete-Fungible.is-1 i) (paid_goods lines))

pub returns-in_default : goal.returns-in_default
returns-in_default c =
    let lines = c.args.self.now.trader in
    class_unpaid c.args.id.now lines ∙ ap (λ kind. asset_in c.args.id.now kind (paid_goods lines)) (sym c.in_default.is-1)

pub returns-in_default-2 : goal.returns-in_default-2
returns-in_default-2 c =
    let lines = c.args.self.now.trader in
    bytes_unpaid c.in_default.field-0-0 c.args.kind lines ∙ ap (λ id. asset_in id c.args.kind (paid_goods lines)) (sym c.in_default.is-0)
