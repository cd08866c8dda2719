-- How a sum is printed. This project's own rule.
use Rattle.std.specs.Prelude.{ℕ, ◌^◌, List, nat_lt, codes, decimal, if◌then◌else◌}

-- in decimal, or `over` where it passes 2^128-1
unfoldable pub sum_text : ℕ → List ℕ
sum_text n = if nat_lt n (2 ^ 128) then decimal n else codes "over"
