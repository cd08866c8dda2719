use Rattle.std.proofs.Common.{◌≡◌, ◌≤◌, ◌-◌, ◌^◌, sym, ap, ◌∙◌, subst, [], ◌∷◌, arith}
use Rattle.amounts.specs.Amounts.{amount, minus, merge}
use Rattle.asset_lists.specs.declared.units.AssetId.{AssetId}
use Rattle.asset_bundles.specs.Bundles.{Bundle, bundle_of}
use Rattle.asset_bundles.specs.Joins.{IsWithinMost}
use Rattle.asset_pools.specs.Exchanges.{coin}
use Rattle.asset_pools.proofs.Goods.{wanted_asset, fits, has_given, exchanged_is, made_is}
use Rattle.asset_pools.proofs.making.exchanged.Goals as goal

pub put_back-requires : goal.put_back-requires
put_back-requires c =
    let e = c.args.exchange.now in
    let most : amount c.args.give (coin e.given) ≤ 2 ^ 128 - 1 = let is = c.amount-have.ensures in let small = c.amount-have.type_inv in omega (arith, is, small) in
    subst (λ (b : Bundle). IsWithinMost (merge c.args.give b)) (sym (made_is e c.copy-2.result c.in-Ok.got c.copy-2.ensures c.in-Ok.ensures)) (fits c.args.give e c.requires.offer most)

pub spend-requires : goal.spend-requires
spend-requires c =
    let e = c.args.exchange.now in
    let both : c.put_back.new.self ≡ merge c.args.give (bundle_of (wanted_asset e ∷ [])) = c.in_default-put_back.ensures.whole ∙ ap (merge c.args.give) (made_is e c.copy-2.result c.in-Ok.got c.copy-2.ensures c.in-Ok.ensures) in
    subst (λ (b : Bundle). e.deal.to_pool ≤ amount b (coin c.copy.result)) (sym both)
    (subst (λ (id : AssetId). e.deal.to_pool ≤ amount (merge c.args.give (bundle_of (wanted_asset e ∷ []))) (coin id)) (sym c.copy.ensures) (has_given c.args.give e c.requires.offer))

pub returns : goal.returns
returns c =
    let e = c.args.exchange.now in
    let both : c.put_back.new.self ≡ merge c.args.give (bundle_of (wanted_asset e ∷ [])) = c.in_default-put_back.ensures.whole ∙ ap (merge c.args.give) (made_is e c.copy-2.result c.in-Ok.got c.copy-2.ensures c.in-Ok.ensures) in
    c.spend.ensures ∙ ap (λ (b : Bundle). minus b (coin c.copy.result) e.deal.to_pool) both
    ∙ ap (λ (id : AssetId). minus (merge c.args.give (bundle_of (wanted_asset e ∷ []))) (coin id) e.deal.to_pool) c.copy.ensures
    ∙ exchanged_is c.args.give e c.requires.offer
