-- The location that a text is of, as a function that computes: what each part between the slashes may be of, and of these the one
-- whose text it is. Source: this project's own rule for texts of locations.
use Rattle.std.specs.Prelude.{ℕ, ◌-◌, List, [], ◌∷◌, length, take, drop, Bool, false, ◌&&◌, ◌==◌, nat_lt, nat_le, bytes_eq, Option, Some, None, if◌then◌else◌}
use Rattle.std.specs.Result.{result_ok}
use Rattle.std.specs.List.{list_all, slice_split, find}
use Rattle.std.specs.Str.Parse.{digits_value}
use Rattle.hex.specs.Hex.{decode_of}
use Rattle.locations.specs.declared.grammar.NetworkId.TheVariants.{Polkadot, Kusama, Westend, Rococo, Wococo}
use Rattle.locations.specs.declared.grammar.Junction.{Junction}
use Rattle.locations.specs.declared.grammar.Junction.TheVariants.{Parachain, AccountId32, PalletInstance, GeneralIndex, GlobalConsensus}
use Rattle.locations.specs.declared.relative.Location.{Location}
use Rattle.locations.specs.Chains.{same_junction}
use Rattle.location_wire.specs.Spelling.{junction}
use Rattle.location_wire.specs.Reading.{junction_at}
use Rattle.location_wire.specs.Texts.{junction_text, location_text}

-- what is between so many bytes at the front and the last byte
abbrev pub inside : ℕ → List ℕ → List ℕ
inside front text = drop front (take (length text - 1) text)

abbrev pub number_inside : ℕ → List ℕ → ℕ
number_inside front text = digits_value 10 (inside front text)

-- the bytes of hex digits, or none
abbrev pub bytes_or_none : Option (List ℕ) → List ℕ
bytes_or_none None = []
bytes_or_none (Some bytes) = bytes

abbrev pub hex_bytes : List ℕ → List ℕ
hex_bytes digits = bytes_or_none (result_ok (decode_of digits))

abbrev pub spelled_one : Option (Junction × List ℕ) → List Junction
spelled_one None = []
spelled_one (Some read) = read.0 ∷ []

-- what a part may be the text of
abbrev pub candidates : List ℕ → List Junction
candidates part = Parachain (number_inside 10 part)
    ∷ PalletInstance (number_inside 15 part)
    ∷ GeneralIndex (number_inside 13 part)
    ∷ AccountId32 None (hex_bytes (inside 14 part))
    ∷ GlobalConsensus Polkadot
    ∷ GlobalConsensus Kusama
    ∷ GlobalConsensus Westend
    ∷ GlobalConsensus Rococo
    ∷ GlobalConsensus Wococo
    ∷ spelled_one (junction_at (hex_bytes (drop 2 part)))

abbrev pub is_again : Junction → Option (Junction × List ℕ) → Bool
is_again j None = false
is_again j (Some read) = same_junction j read.0

-- whether the junction's numbers are in their ranges, and its bytes bytes
abbrev pub is_junction : Junction → Bool
is_junction j = is_again j (junction_at (junction j)) && list_all (λ b. nat_lt b 256) (junction j)

-- the junction whose text a part is
unfoldable pub junction_of : List ℕ → Option Junction
junction_of part = find (λ j. is_junction j && bytes_eq (junction_text j) part) (candidates part)

abbrev pub with_first : Junction → Option (List Junction) → Option (List Junction)
with_first j None = None
with_first j (Some js) = Some (j ∷ js)

abbrev pub before : Option Junction → Option (List Junction) → Option (List Junction)
before None js = None
before (Some j) js = with_first j js

-- those whose texts the parts are
unfoldable pub junctions_of : List (List ℕ) → Option (List Junction)
junctions_of [] = Some []
junctions_of (part ∷ parts) = before (junction_of part) (junctions_of parts)

abbrev pub location_with_parents : ℕ → Option (List Junction) → Option Location
location_with_parents parents None = None
location_with_parents parents (Some js) = Some (record { parents = parents; interior = js })

abbrev pub location_of_parts : List (List ℕ) → Option Location
location_of_parts [] = None
location_of_parts (first ∷ parts) = location_with_parents (digits_value 10 first) (junctions_of parts)

-- whether the text is that of the location
abbrev pub is_text_of : List ℕ → Location → Bool
is_text_of text l = nat_lt l.parents 256 && (nat_le (length l.interior) 8 && bytes_eq (location_text l) text)

abbrev pub where_text : List ℕ → Option Location → Option Location
where_text text None = None
where_text text (Some l) = if is_text_of text l then Some l else None

-- the location whose text it is
unfoldable pub parsed_location : List ℕ → Option Location
parsed_location text = where_text text (location_of_parts (slice_split (λ b. b == 47) text))
