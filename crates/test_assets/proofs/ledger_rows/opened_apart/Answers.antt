use Rattle.std.proofs.Common.{[], ◌∷◌, map, refl, sym, subst}
use Rattle.std.specs.Ordering.{eq_by_cmp}
use Rattle.std.specs.List.{IsDistinct}
use Rattle.locations.specs.declared.grammar.Junction.TheVariants.{GeneralIndex}
use Rattle.locations.specs.declared.relative.Location.{Location}
use Rattle.asset_lists.specs.declared.units.Kind.{Kind}
use Rattle.asset_lists.specs.Listed.{listed_cmp}
use Rattle.ledgers.specs.Ledgers.{listed_pair}
use Rattle.test_assets.proofs.ledger_rows.opened_apart.Goals as goal

apart : IsDistinct (eq_by_cmp listed_cmp) (listed_pair (record { parents = 0; interior = [] }, Kind.Fungible) ∷ listed_pair (record { parents = 0; interior = GeneralIndex 1 ∷ [] }, Kind.Class) ∷ [])
unfolding IsDistinct
apart = ((refl, tt), (tt, tt))

pub open-requires-clause-distinct : goal.open-requires-clause-distinct
open-requires-clause-distinct c =
    subst (λ xs. IsDistinct (eq_by_cmp listed_cmp) (map listed_pair xs)) (sym c.in_ok-list.ensures.items)
    (subst (λ (l : Location). IsDistinct (eq_by_cmp listed_cmp) (listed_pair (l, Kind.Fungible) ∷ listed_pair (c.first_index.result, Kind.Class) ∷ [])) (sym c.here.ensures)
    (subst (λ (l : Location). IsDistinct (eq_by_cmp listed_cmp) (listed_pair (record { parents = 0; interior = [] }, Kind.Fungible) ∷ listed_pair (l, Kind.Class) ∷ [])) (sym c.first_index.ensures) apart))
