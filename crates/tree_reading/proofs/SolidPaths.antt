-- Locations, hex and ids are texts without spaces.
use Rattle.std.proofs.Common.{◌≡◌, ℕ, zero, suc, ◌/◌, ◌%◌, ◌<◌, Bool, true, List, [], ◌∷◌, ◌++◌, length, get_or, map, Some, None, refl, arith}
use Rattle.std.specs.Prelude.{codes, decimal}
use Rattle.std.specs.List.{AllByRecursion, list_all}
use Rattle.std.proofs.lemmas.Bool.{and_parts, and_from}
use Rattle.hex.specs.Hex.{encode_lower, encode_with, lower_digits}
use Rattle.scale_codec.specs.Spelling.{joined}
use Rattle.locations.specs.declared.grammar.NetworkId.TheVariants.{ByGenesis, ByFork, Polkadot, Kusama, Westend, Rococo, Wococo, Ethereum, BitcoinCore, BitcoinCash}
use Rattle.locations.specs.declared.grammar.Junction.{Junction}
use Rattle.locations.specs.declared.grammar.Junction.TheVariants.{Parachain, AccountId32, AccountIndex64, AccountKey20, PalletInstance, GeneralIndex, GeneralKey, OnlyChild, Plurality, GlobalConsensus}
use Rattle.locations.specs.declared.relative.Location.{Location}
use Rattle.location_wire.specs.Spelling.{junction, location, FitsLocation}
use Rattle.location_wire.specs.Texts.{IsJunction, IsLocation, hex_text, shown, junction_text, path_step_text, path_text, location_text}
use Rattle.tree_reading.specs.Rows.{is_solid, IsSolid}
use Rattle.tree_reading.specs.Puts.{AreBytes}
use Rattle.tree_reading.proofs.Solid.{all-append, solid_decimal}
use Rattle.tree_reading.proofs.Paths.{is_location}

all_get : (p : ℕ → Bool) (xs : List ℕ) (i : ℕ) → list_all p xs ≡ true → i < length xs → p (get_or xs i 0) ≡ true
all_get p [] i all lt = absurd (omega (arith, lt))
all_get p (x ∷ xs) zero all lt = (and_parts (p x) (list_all p xs) all).0
all_get p (x ∷ xs) (suc i) all lt = all_get p xs i (and_parts (p x) (list_all p xs) all).1 (omega (arith, lt))

solid_digit : (d : ℕ) → d < 16 → is_solid (get_or lower_digits d 0) ≡ true
solid_digit d lt = all_get is_solid lower_digits d refl lt

solid_cons : (x : ℕ) (xs : List ℕ) → is_solid x ≡ true → IsSolid xs → IsSolid (x ∷ xs)
solid_cons x xs h k = and_from (is_solid x) (list_all is_solid xs) h k

solid_encode : (xs : List ℕ) → AreBytes xs → IsSolid (encode_lower xs)
unfolding encode_with
solid_encode [] h = refl
solid_encode (b ∷ xs) h =
    solid_cons (get_or lower_digits (b / 16) 0) (get_or lower_digits (b % 16) 0 ∷ encode_lower xs) (solid_digit (b / 16) (omega (arith, h.0)))
    (solid_cons (get_or lower_digits (b % 16) 0) (encode_lower xs) (solid_digit (b % 16) (omega arith)) (solid_encode xs h.1))

pub solid_hex : (xs : List ℕ) → AreBytes xs → IsSolid (hex_text xs)
solid_hex xs h = all-append is_solid (codes "0x") (encode_lower xs) refl (solid_encode xs h)

solid_spelled : (j : Junction) → IsJunction j → IsSolid (shown j None)
solid_spelled j h = solid_hex (junction j) h.1

solid_named : (name inside : List ℕ) → IsSolid name → IsSolid inside → IsSolid (name ++ codes "(" ++ inside ++ codes ")")
solid_named name inside h k = all-append is_solid (name ++ codes "(" ++ inside) (codes ")") (all-append is_solid (name ++ codes "(") inside (all-append is_solid name (codes "(") h refl) k) refl

pub solid_junction : (j : Junction) → IsJunction j → IsSolid (junction_text j)
unfolding junction_text junction
solid_junction (Parachain id) h = solid_named (codes "Parachain") (decimal id) refl (solid_decimal id (omega (arith, h.0)))
solid_junction (PalletInstance index) h = solid_named (codes "PalletInstance") (decimal index) refl (solid_decimal index (omega (arith, h.0)))
solid_junction (GeneralIndex index) h = solid_named (codes "GeneralIndex") (decimal index) refl (solid_decimal index (omega (arith, h.0)))
solid_junction (AccountId32 None id) h = solid_named (codes "AccountId32") (hex_text id) refl (solid_hex id h.1.1.1)
solid_junction (AccountId32 (Some net) id) h = solid_spelled (AccountId32 (Some net) id) h
solid_junction (AccountIndex64 net index) h = solid_spelled (AccountIndex64 net index) h
solid_junction (AccountKey20 net key) h = solid_spelled (AccountKey20 net key) h
solid_junction (GeneralKey len key) h = solid_spelled (GeneralKey len key) h
solid_junction OnlyChild h = solid_spelled OnlyChild h
solid_junction (Plurality id share) h = solid_spelled (Plurality id share) h
solid_junction (GlobalConsensus Polkadot) h = refl
solid_junction (GlobalConsensus Kusama) h = refl
solid_junction (GlobalConsensus Westend) h = refl
solid_junction (GlobalConsensus Rococo) h = refl
solid_junction (GlobalConsensus Wococo) h = refl
solid_junction (GlobalConsensus (ByGenesis hash)) h = solid_spelled (GlobalConsensus (ByGenesis hash)) h
solid_junction (GlobalConsensus (ByFork number hash)) h = solid_spelled (GlobalConsensus (ByFork number hash)) h
solid_junction (GlobalConsensus (Ethereum chain)) h = solid_spelled (GlobalConsensus (Ethereum chain)) h
solid_junction (GlobalConsensus BitcoinCore) h = solid_spelled (GlobalConsensus BitcoinCore) h
solid_junction (GlobalConsensus BitcoinCash) h = solid_spelled (GlobalConsensus BitcoinCash) h

solid_steps : (js : List Junction) → AllByRecursion IsJunction js → IsSolid (joined (map path_step_text js))
solid_steps [] h = refl
solid_steps (j ∷ js) h = all-append is_solid (path_step_text j) (joined (map path_step_text js)) (all-append is_solid (codes "/") (junction_text j) refl (solid_junction j h.0)) (solid_steps js h.1)

pub solid_path : (js : List Junction) → AllByRecursion IsJunction js → IsSolid (path_text js)
solid_path [] h = refl
solid_path (j ∷ js) h = solid_steps (j ∷ js) h

pub solid_location : (l : Location) → IsLocation l → IsSolid (location_text l)
solid_location l h = all-append is_solid (decimal l.parents) (joined (map path_step_text l.interior)) (solid_decimal l.parents (omega (arith, h.0))) (solid_steps l.interior h.2)

pub solid_place : (l : Location) → FitsLocation l → AreBytes (location l) → IsSolid (location_text l)
solid_place l fits bytes = solid_location l (is_location l fits bytes)
