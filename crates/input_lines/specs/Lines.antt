-- The lines of an input, and its two parts. Source: this project's own rule.
use Rattle.std.specs.Prelude.{◌≡◌, ◌<◌, ℕ, ◌+◌, ◌-◌, ◌==◌, ◌&&◌, ◌||◌, nat_lt, List, [], ◌∷◌, ◌++◌, length, take, slice_index, Bool, false, codes, bytes_eq, if◌then◌else◌}

-- this byte is put before the first line
abbrev pub onto : ℕ → List (List ℕ) → List (List ℕ)
onto b [] = (b ∷ []) ∷ []
onto b (line ∷ lines) = (b ∷ line) ∷ lines

-- the lines, each with its line feed; the last may lack it
unfoldable pub lines_of : List ℕ → List (List ℕ)
lines_of [] = []
lines_of (b ∷ rest) = if b == 10 then (b ∷ []) ∷ lines_of rest else onto b (lines_of rest)

-- the last byte is c
abbrev pub ends_with : ℕ → List ℕ → Bool
ends_with c bytes = nat_lt 0 (length bytes) && slice_index bytes (length bytes - 1) == c

abbrev pub without_last_byte : List ℕ → List ℕ
without_last_byte bytes = take (length bytes - 1) bytes

-- the line without its line feed
abbrev pub without_feed : List ℕ → List ℕ
without_feed line = if ends_with 10 line then without_last_byte line else line

-- what a line says: its line feed is dropped, and one carriage return before it
unfoldable pub text_of : List ℕ → List ℕ
text_of line = if ends_with 10 line then (if ends_with 13 (without_last_byte line) then without_last_byte (without_last_byte line) else without_last_byte line) else line

-- the line ends the network part
abbrev pub ends_network : List ℕ → Bool
ends_network line = bytes_eq (text_of line) (codes "---")

-- some line ends the network part
abbrev pub has_mark : List (List ℕ) → Bool
has_mark [] = false
has_mark (line ∷ lines) = ends_network line || has_mark lines

-- the bytes before the first such line
abbrev pub network_part : List (List ℕ) → List ℕ
network_part [] = []
network_part (line ∷ lines) = if ends_network line then [] else line ++ network_part lines

-- the lines after it
abbrev pub later_lines : List (List ℕ) → List (List ℕ)
later_lines [] = []
later_lines (line ∷ lines) = if ends_network line then lines else later_lines lines

-- how many lines come before the later ones
abbrev pub lines_through : List (List ℕ) → ℕ
lines_through [] = 0
lines_through (line ∷ lines) = if ends_network line then 1 else lines_through lines + 1

-- how many bytes they have
abbrev pub bytes_through : List (List ℕ) → ℕ
bytes_through [] = 0
bytes_through (line ∷ lines) = if ends_network line then length line else bytes_through lines + length line

-- no byte is a line feed
abbrev pub HasNoFeed : List ℕ → Type 0
HasNoFeed bytes = (k : ℕ) → k < length bytes → slice_index bytes k ≡ 10 → ⊥
