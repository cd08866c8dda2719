use Rattle.std.proofs.Common.{[], ◌∷◌, List, refl, sym, subst}
use Rattle.asset_lists.specs.declared.units.Kind.{Kind}
use Rattle.asset_lists.specs.declared.units.AssetId.TheVariants.{Concrete}
use Rattle.asset_lists.specs.declared.units.Fun.TheVariants.{Fungible}
use Rattle.locations.specs.declared.relative.Location.{Location}
use Rattle.asset_bundles.specs.Bundles.{bundle_of}
use Rattle.asset_lists.specs.Listed.{Listed}
use Rattle.asset_bundles.specs.Books.{AreListed}
use Rattle.asset_bundles.proofs.Lemmas.{listed_list}
use Rattle.bench_net.proofs.deposits.deposit.Goals as goal

here : Location
here = record { parents = 0; interior = [] }

listed : List Listed
listed = (Concrete here, Kind.Fungible) ∷ []

pub deposit-requires : goal.deposit-requires
unfolding here listed
deposit-requires c = record {
  listed = subst (λ assets. AreListed assets c.in_ok-goods.goods) (sym c.requires)
      (subst (AreListed listed) (sym c.in_ok-goods.ensures)
      (subst (λ place. AreListed listed (bundle_of ((record { id = Concrete place; fun = Fungible 1 }) ∷ []))) (sym c.here.ensures)
      (listed_list listed ((record { id = Concrete here; fun = Fungible 1 }) ∷ []) refl)));
}
