-- Numbers that are drawn, each from the one before: Knuth's linear congruential generator for MMIX. Its use here is this project's own rule.
use Rattle.std.specs.Prelude.{ℕ, ◌+◌, ◌*◌, ◌/◌, ◌%◌, ◌^◌}

-- the number that follows another
abbrev pub next_draw : ℕ → ℕ
next_draw x = (x * 6364136223846793005 + 1442695040888963407) % 2 ^ 64

-- a number below the limit, from the high bits of the one that was drawn
abbrev pub below : ℕ → ℕ → ℕ
below limit x = x / 2 ^ 33 % limit
