-- Lemmas on the definitions of `specs/Bundles.antt`: what proofs cite.
use Rattle.amounts.proofs.Lemmas.Rows.{IsKeyOrder}
use Rattle.asset_lists.specs.Units.{unit_cmp}
use Rattle.asset_lists.specs.UnitLaws.{unit_total}
use Rattle.asset_lists.proofs.Lemmas.UnitLaws.{unit_exact}

pub unit_keys : IsKeyOrder unit_cmp
unit_keys = record { total = unit_total; exact = unit_exact }
