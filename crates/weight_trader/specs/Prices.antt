-- What weight costs. Source: xcm-executor's documentation (a trader with a fixed rate: units per second and per megabyte). Rounding down
-- in each dimension is this project's own rule.
use Rattle.std.specs.Prelude.{ℕ, ◌+◌, ◌*◌, ◌/◌, ◌^◌}
use Rattle.operands.specs.declared.weight.Weight.{Weight}
use Rattle.weight_trader.specs.declared.rate.Rate.{Rate}

-- in the rate's asset, in its smallest unit: a second is 10^12 picoseconds, a mebibyte 1,048,576 bytes
abbrev pub price : Rate → Weight → ℕ
price rate w = (rate.per_second * w.ref_time) / 10 ^ 12 + (rate.per_mb * w.proof_size) / 1048576
