use Rattle.std.proofs.Common.{◌≡◌, ◌+◌, drop}
use Rattle.std.specs.List.{common_prefix_len}
use Rattle.locations.specs.Chains.{same_junction}
use Rattle.locations.proofs.interior.common_length.Given as goal

abbrev pub invariant-loop-k : goal.invariant-loop-k
invariant-loop-k l =
    common_prefix_len same_junction l.ours l.theirs
    ≡ l.k + common_prefix_len same_junction (drop l.k l.ours) (drop l.k l.theirs)
