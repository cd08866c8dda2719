use Rattle.std.proofs.Common.{[], ◌∷◌, ◌-◌, ◌^◌, List, refl, ap, ◌∙◌, sym, subst}
use Rattle.locations.specs.declared.relative.Location.{Location}
use Rattle.asset_lists.specs.declared.units.Kind.{Kind}
use Rattle.asset_lists.specs.declared.units.AssetId.{AssetId}
use Rattle.asset_lists.specs.declared.units.AssetId.TheVariants.{Concrete}
use Rattle.asset_lists.specs.declared.units.Fun.TheVariants.{Fungible}
use Rattle.asset_lists.specs.Listed.{Listed}
use Rattle.asset_bundles.specs.Bundles.{bundle_of}
use Rattle.asset_bundles.specs.Books.{Book, AreListed}
use Rattle.asset_bundles.specs.Joins.{Excess}
use Rattle.asset_bundles.proofs.Lemmas.{listed_list, listed_excess}
use Rattle.test_assets.proofs.bundle_rows.saturated.Goals as goal

here : AssetId
here = Concrete (record { parents = 0; interior = [] })

listed : List Listed
listed = (here, Kind.Fungible) ∷ []

pub join-requires : goal.join-requires
unfolding here listed
join-requires c =
    subst (λ assets. AreListed assets (Excess c.in_ok-holding.holding c.take_up-other.result))
    (sym (ap (λ (b : Book). b.listed) c.in_ok-book.ensures ∙ ap (λ (id : AssetId). (id, Kind.Fungible) ∷ []) c.coin.ensures))
    (listed_excess listed c.in_ok-holding.holding c.take_up-other.result
    (subst (AreListed listed) (sym (c.in_ok-holding.ensures ∙ ap (λ (id : AssetId). bundle_of (record { id = id; fun = Fungible (2 ^ 128 - 1) } ∷ [])) c.coin-2.ensures))
    (listed_list listed (record { id = here; fun = Fungible (2 ^ 128 - 1) } ∷ []) refl))
    (subst (AreListed listed) (sym (c.take_up-other.ensures ∙ c.set_down-resting.ensures ∙ c.in_ok-goods.ensures ∙ ap (λ (id : AssetId). bundle_of (record { id = id; fun = Fungible 1 } ∷ [])) c.coin-3.ensures))
    (listed_list listed (record { id = here; fun = Fungible 1 } ∷ []) refl)))
