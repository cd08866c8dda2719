-- The two assets of the tests' ledgers are two.
use Rattle.std.proofs.Common.{[], ◌∷◌, refl}
use Rattle.std.specs.Ordering.{eq_by_cmp}
use Rattle.std.specs.List.{IsDistinct}
use Rattle.asset_lists.specs.declared.units.AssetId.TheVariants.{Concrete}
use Rattle.asset_lists.specs.declared.units.Kind.{Kind}
use Rattle.asset_lists.specs.Listed.{listed_cmp}

pub apart : IsDistinct (eq_by_cmp listed_cmp) ((Concrete (record { parents = 0; interior = [] }), Kind.Fungible) ∷ (Concrete (record { parents = 0; interior = [] }), Kind.Class) ∷ [])
unfolding IsDistinct
apart = ((refl, tt), (tt, tt))
