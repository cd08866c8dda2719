use Rattle.std.proofs.Common.{◌≡◌, [], ◌∷◌}
use Rattle.asset_lists.specs.declared.units.Kind.{Kind}
use Rattle.asset_lists.specs.declared.units.AssetId.TheVariants.{Concrete}
use Rattle.test_assets.proofs.ledger_rows.moves_and_sums.Given as goal

abbrev pub invariant-loop-row : goal.invariant-loop-row
invariant-loop-row g l = l.ledger.listed ≡ (Concrete (record { parents = 0; interior = [] }), Kind.Fungible) ∷ (Concrete (record { parents = 0; interior = [] }), Kind.Class) ∷ []
