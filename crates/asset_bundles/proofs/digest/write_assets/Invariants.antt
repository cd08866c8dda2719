use Rattle.std.proofs.Common.{◌≡◌, fold, take}
use Rattle.std.specs.List.{flat_map}
use Rattle.asset_bundles.specs.Digest.{asset_writes}
use Rattle.asset_bundles.proofs.digest.write_assets.Given as goal

abbrev pub invariant-loop-asset : goal.invariant-loop-asset
invariant-loop-asset g l = l.state ≡ fold g.H.Hasher.write l.fn.state (flat_map asset_writes (take l.asset-index l.list))
