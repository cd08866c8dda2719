use Rattle.std.proofs.Common.{◌≡◌, min, take}
use Rattle.asset_bundles.specs.Books.{most_burned}
use Rattle.asset_bundles.specs.Totals.{total_value}
use Rattle.std.specs.Prelude.{map}
use Rattle.locations.specs.Chains.{path_of}
use Rattle.chain_state.specs.PartOf.{part_of}
use Rattle.supply_audit.specs.Supply.{at_homes}
use Rattle.supply_audit.proofs.audit.at_homes.Given as goal

abbrev pub invariant-loop-chain : goal.invariant-loop-chain
invariant-loop-chain l = total_value l.total ≡ min (at_homes l.which (path_of l.home l.id, l.kind) (map part_of (take l.chain-index l.chains))) most_burned
