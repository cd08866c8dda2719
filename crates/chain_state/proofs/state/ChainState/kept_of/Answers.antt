use Rattle.std.proofs.Common.{sym, ap, ◌∙◌}
use Rattle.trust_tables.specs.Trust.{listing}
use Rattle.chain_state.specs.Fees.{kept_goods}
use Rattle.chain_state.specs.Aside.{asset_in}
use Rattle.chain_state.proofs.AsideSums.{amount_alone, no_class}
use Rattle.chain_state.proofs.state.ChainState.kept_of.Goals as goal

pub returns-in-Fungible : goal.returns-in-Fungible
returns-in-Fungible c =
    let goods = kept_goods c.args.self.now.fees in
    c.total.ensures.total ∙ amount_alone c.args.id.now goods ∙ ap (λ kind. asset_in c.args.id.now kind goods) (sym c.in-Fungible.is)

pub returns-in-Class : goal.returns-in-Class
returns-in-Class c =
    let f = c.args.self.now in
    sym (no_class (listing f.settings.rows) f.fees c.args.id.now f.fee_rows) ∙ ap (λ kind. asset_in c.args.id.now kind (kept_goods f.fees)) (sym c.in-Class.is)
