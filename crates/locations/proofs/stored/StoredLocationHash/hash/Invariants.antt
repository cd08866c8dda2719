use Rattle.std.proofs.Common.{◌≡◌, ◌++◌, fold, take}
use Rattle.std.specs.Hash as fed
use Rattle.locations.specs.Hashing.{junctions_input}
use Rattle.locations.proofs.stored.StoredLocationHash.hash.Given as goal

abbrev pub invariant-loop-junction : goal.invariant-loop-junction
invariant-loop-junction g l = l.state ≡ fold g.H.Hasher.write l.initial.state (junctions_input (take l.junction-index l.junction-items))
