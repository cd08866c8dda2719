-- The texts of junctions, paths and locations, as lists of their bytes. This project's own rule; numbers are in decimal, hex is
-- lower case.
use Rattle.std.specs.Prelude.{◌≡◌, ℕ, ◌<◌, ◌≤◌, ◌^◌, List, [], ◌∷◌, ◌++◌, length, map, Option, Some, None, codes, Bool, ◌==◌, not}
use Rattle.std.specs.Option.{option_map}
use Rattle.std.specs.List.{AllByRecursion, list_all}
use Rattle.std.specs.Fmt.{decimal}
use Rattle.hex.specs.Hex.{encode_lower}
use Rattle.scale_codec.specs.Spelling.{joined}
use Rattle.locations.specs.declared.grammar.NetworkId.{NetworkId}
use Rattle.locations.specs.declared.grammar.NetworkId.TheVariants.{Polkadot, Kusama, Westend, Rococo, Wococo}
use Rattle.locations.specs.declared.grammar.Junction.{Junction}
use Rattle.locations.specs.declared.grammar.Junction.TheVariants.{Parachain, AccountId32, PalletInstance, GeneralIndex, GlobalConsensus}
use Rattle.locations.specs.declared.relative.Location.{Location}
use Rattle.location_wire.specs.Spelling.{junction, FitsJunction}

abbrev pub hex_text : List ℕ → List ℕ
hex_text bytes = codes "0x" ++ encode_lower bytes

-- the name of a network that has one
abbrev pub network_name : NetworkId → Option (List ℕ)
network_name Polkadot = Some (codes "Polkadot")
network_name Kusama = Some (codes "Kusama")
network_name Westend = Some (codes "Westend")
network_name Rococo = Some (codes "Rococo")
network_name Wococo = Some (codes "Wococo")
network_name _ = None

-- of a junction that is written by its name: the name, and what the parentheses hold
abbrev pub named : Junction → Option (List ℕ × List ℕ)
named (Parachain id) = Some (codes "Parachain", decimal id)
named (PalletInstance index) = Some (codes "PalletInstance", decimal index)
named (GeneralIndex index) = Some (codes "GeneralIndex", decimal index)
named (AccountId32 None id) = Some (codes "AccountId32", hex_text id)
named (GlobalConsensus net) = option_map (λ name. (codes "GlobalConsensus", name)) (network_name net)
named _ = None

abbrev pub shown : Junction → Option (List ℕ × List ℕ) → List ℕ
shown j (Some x) = x.0 ++ codes "(" ++ x.1 ++ codes ")"
shown j None = hex_text (junction j)

-- by its name, or else the hex of its spelling
unfoldable pub junction_text : Junction → List ℕ
junction_text j = shown j (named j)

-- a slash before each
abbrev pub path_step_text : Junction → List ℕ
path_step_text j = codes "/" ++ junction_text j

abbrev pub path_text : List Junction → List ℕ
path_text [] = codes "/"
path_text (j ∷ js) = joined (map path_step_text (j ∷ js))

-- the parents, then each junction
abbrev pub location_text : Location → List ℕ
location_text l = decimal l.parents ++ joined (map path_step_text l.interior)

-- ---- what a value of the types is: its numbers in their ranges, at most 8 junctions, and its bytes below 256

abbrev pub IsJunction : Junction → Type 0
IsJunction j = FitsJunction j × AllByRecursion (λ b. b < 2 ^ 8) (junction j)

abbrev pub IsLocation : Location → Type 0
IsLocation l = (l.parents < 2 ^ 8) × (length l.interior ≤ 8) × AllByRecursion IsJunction l.interior

-- the text is that of the location
abbrev pub IsTextOf : Location → List ℕ → Type 0
IsTextOf l text = IsLocation l × (text ≡ location_text l)

-- no byte of the text is c
abbrev pub lacks : ℕ → List ℕ → Bool
lacks c bytes = list_all (λ b. not (b == c)) bytes
