-- What a total of the book and a wide sum are as numbers, and the order of totals. This is the project's own.
use Rattle.std.specs.Prelude.{ℕ, ◌+◌, ◌*◌, ◌^◌}
use Rattle.std.specs.Ordering.{nat_cmp, on}
use Rattle.std.specs.declared.cmp.Ordering.{Ordering}
use Rattle.asset_bundles.specs.declared.totals.Total.{Total}
use Rattle.asset_bundles.specs.declared.wide_sum.WideSum.{WideSum}

abbrev pub total_value : Total → ℕ
total_value t = t.high * 2 ^ 128 + t.low

abbrev pub wide_value : WideSum → ℕ
wide_value s = s.high * 2 ^ 128 + s.low

-- totals as the numbers that they are
abbrev pub total_cmp : Total → Total → Ordering
total_cmp = on total_value nat_cmp
