use Rattle.std.proofs.Common.{[], ◌∷◌, List, refl, sym, subst}
use Rattle.asset_lists.specs.declared.units.Kind.{Kind}
use Rattle.asset_lists.specs.declared.units.AssetId.TheVariants.{Concrete}
use Rattle.asset_lists.specs.Listed.{Listed}
use Rattle.asset_lists.proofs.Lemmas.{once_each}
use Rattle.asset_bundles.specs.Books.{AreListed}
use Rattle.asset_bundles.proofs.Lemmas.{listed_list}
use Rattle.test_assets.proofs.ledger_rows.put.Goals as goal

listed : List Listed
listed = (Concrete (record { parents = 0; interior = [] }), Kind.Fungible) ∷ (Concrete (record { parents = 0; interior = [] }), Kind.Class) ∷ []

pub deposit-requires : goal.deposit-requires
unfolding listed
deposit-requires c = record {
  listed = subst (λ assets. AreListed assets c.in_ok-goods.goods) (sym c.requires)
      (subst (AreListed listed) (sym c.in_ok-goods.ensures) (listed_list listed (c.asset.result ∷ []) c.asset.ensures.listed));
}

pub mint-requires-clause-once : goal.mint-requires-clause-once
mint-requires-clause-once c = once_each (c.asset.result ∷ []) refl
