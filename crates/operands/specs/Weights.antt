-- The comparison of weights: in both dimensions. Source: the XCM format's `Weight`; that both dimensions count is xcm-executor's rule.
use Rattle.std.specs.Prelude.{◌≤◌, nat_le, Bool, ◌&&◌}
use Rattle.operands.specs.declared.weight.Weight.{Weight}

abbrev pub is_within : Weight → Weight → Bool
is_within weight most = nat_le weight.ref_time most.ref_time && nat_le weight.proof_size most.proof_size

-- the same in words
pub record IsWithin (weight most : Weight) : Type 0 where
  pub ref_time : weight.ref_time ≤ most.ref_time
  pub proof_size : weight.proof_size ≤ most.proof_size
