-- A text that is short enough is a pallet's name, since a text is UTF-8.
use Rattle.std.specs.Prelude.{ℕ, ◌≤◌, List, length, true, ◌&&◌, nat_le}
use Rattle.std.specs.Str.{is_utf8, IsUtf8}
use Rattle.std.proofs.Common.{◌≡◌}
use Rattle.std.proofs.lemmas.Bool.{and_from, le-leb}
use Rattle.std.proofs.lemmas.Str.{is_utf8-from_IsUtf8}

pub short_text : (s : List ℕ) → IsUtf8 s → length s ≤ 48 → (nat_le (length s) 48 && is_utf8 s) ≡ true
short_text s u l = and_from (nat_le (length s) 48) (is_utf8 s) (le-leb (length s) 48 l) (is_utf8-from_IsUtf8 s u)
