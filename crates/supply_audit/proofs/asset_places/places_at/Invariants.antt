use Rattle.std.proofs.Common.{◌≡◌, take}
use Rattle.std.specs.List.{filter}
use Rattle.supply_audit.specs.AssetPlaces.{is_at}
use Rattle.supply_audit.proofs.asset_places.places_at.Given as goal

abbrev pub invariant-loop-place : goal.invariant-loop-place
invariant-loop-place l = l.list.items ≡ filter (is_at l.chain) (take l.place-index l.places)
