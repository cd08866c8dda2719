use Rattle.std.proofs.Common.{[], ◌∷◌, map, refl, sym, subst}
use Rattle.std.specs.Ordering.{eq_by_cmp}
use Rattle.std.specs.List.{IsDistinct}
use Rattle.locations.specs.declared.relative.Location.{Location}
use Rattle.asset_lists.specs.declared.units.Kind.{Kind}
use Rattle.asset_lists.specs.Listed.{listed_cmp}
use Rattle.ledgers.specs.Ledgers.{listed_pair}
use Rattle.test_assets.specs.Coins.{ancestor_location, fixture_coins}
use Rattle.test_assets.proofs.ledger_exchanges.opened.Goals as goal

apart : IsDistinct (eq_by_cmp listed_cmp) fixture_coins
unfolding IsDistinct
apart = ((refl, tt), (tt, tt))

pub open-requires-clause-distinct : goal.open-requires-clause-distinct
open-requires-clause-distinct c =
    subst (λ xs. IsDistinct (eq_by_cmp listed_cmp) (map listed_pair xs)) (sym c.in_ok-list.ensures.items)
    (subst (λ (l : Location). IsDistinct (eq_by_cmp listed_cmp) (listed_pair (l, Kind.Fungible) ∷ listed_pair (c.above-2.result, Kind.Fungible) ∷ [])) (sym c.above.ensures)
    (subst (λ (l : Location). IsDistinct (eq_by_cmp listed_cmp) (listed_pair (ancestor_location 0, Kind.Fungible) ∷ listed_pair (l, Kind.Fungible) ∷ [])) (sym c.above-2.ensures) apart))
