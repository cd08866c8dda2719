use Rattle.std.proofs.Common.{take}
use Rattle.std.specs.Prelude.{sum_by}
use Rattle.supply_audit.specs.Places.{list_share}
use Rattle.supply_audit.specs.Found.{AreSumsOf, Rise}
use Rattle.supply_audit.proofs.row_sums.add_assets.Given as goal

abbrev pub invariant-loop-asset : goal.invariant-loop-asset
invariant-loop-asset l = record {
  sums : AreSumsOf l.ledger.listed l.sums;
  rise : Rise l.ledger.listed l.initial.sums l.sums (λ k. sum_by (list_share k.0 k.1) (take l.asset-index l.assets));
}
