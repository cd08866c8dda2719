use Rattle.std.proofs.Common.{[], ◌∷◌, refl, sym, subst}
use Rattle.asset_lists.proofs.Lemmas.{once_each}
use Rattle.asset_bundles.specs.Books.{AreListed}
use Rattle.asset_bundles.proofs.Lemmas.{listed_list}
use Rattle.test_assets.specs.Coins.{fixture_coins}
use Rattle.test_assets.proofs.ledger_exchanges.put.Goals as goal

pub deposit-requires : goal.deposit-requires
deposit-requires c = record {
  listed = subst (λ assets. AreListed assets c.in_ok-goods.goods) (sym c.requires.listed)
      (subst (AreListed fixture_coins) (sym c.in_ok-goods.ensures) (listed_list fixture_coins (c.coins.result ∷ []) c.coins.ensures.listed));
}

pub mint-requires-clause-once : goal.mint-requires-clause-once
mint-requires-clause-once c = once_each (c.coins.result ∷ []) refl
