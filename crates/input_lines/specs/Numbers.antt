-- Numbers in decimal, without leading zeros. Source: this project's own rule.
use Rattle.std.specs.Prelude.{ℕ, ◌^◌, ◌==◌, ◌&&◌, ◌||◌, nat_lt, not, List, length, slice_index, Bool, Option, Some, None, if◌then◌else◌}
use Rattle.std.specs.Str.{all_ascii_digits}
use Rattle.std.specs.Str.Parse.{digits_value}

-- digits, with no 0 before another
abbrev pub is_plain_decimal : List ℕ → Bool
is_plain_decimal text = all_ascii_digits text && nat_lt 0 (length text) && (length text == 1 || not (slice_index text 0 == 48))

-- the number below 2 ^ 32 that the text is
unfoldable pub read_number : List ℕ → Option ℕ
read_number text = if is_plain_decimal text && nat_lt (digits_value 10 text) (2 ^ 32) then Some (digits_value 10 text) else None
