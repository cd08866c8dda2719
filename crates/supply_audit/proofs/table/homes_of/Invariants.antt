use Rattle.std.proofs.Common.{◌≡◌, take}
use Rattle.std.specs.BTreeSet.{contains}
use Rattle.std.specs.List.{list_any}
use Rattle.law_coherence.specs.UniversalAssets.{UniversalAsset}
use Rattle.law_coherence.specs.Networks.{is_native_row}
use Rattle.chain_state.specs.PartOf.{part_of}
use Rattle.supply_audit.specs.Assets.{universal_asset_cmp}
use Rattle.supply_audit.specs.Places.{chain_table}
use Rattle.supply_audit.proofs.table.homes_of.Given as goal

abbrev pub invariant-loop-row : goal.invariant-loop-row
invariant-loop-row l = (a : UniversalAsset) → contains universal_asset_cmp l.homes a ≡ list_any (is_native_row (chain_table (part_of l.chain)) a) (take l.row-index l.rows)
