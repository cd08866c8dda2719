-- Reading the parts of a location from left to right: a list of forms for each enum, in the order of the index.
use Rattle.std.specs.Prelude.{ℕ, ◌^◌, List, [], ◌∷◌, nat_le}
use Rattle.scale_codec.specs.Reading.{Reader, u8_at, fixed_at, below_at, take_at, pure_reader, made1, made2, guarded_at, indexed_at, optional_at, counted_at}
use Rattle.locations.specs.declared.grammar.NetworkId.{NetworkId}
use Rattle.locations.specs.declared.grammar.NetworkId.TheVariants.{ByGenesis, ByFork, Polkadot, Kusama, Westend, Rococo, Wococo, Ethereum, BitcoinCore, BitcoinCash}
use Rattle.locations.specs.declared.grammar.BodyId.{BodyId}
use Rattle.locations.specs.declared.grammar.BodyId.TheVariants.{Unit, Moniker, Index, Executive, Technical, Legislative, Judicial, Defense, Administration, Treasury}
use Rattle.locations.specs.declared.grammar.BodyPart.{BodyPart}
use Rattle.locations.specs.declared.grammar.BodyPart.TheVariants.{Voice, Members, Fraction, AtLeastProportion, MoreThanProportion}
use Rattle.locations.specs.declared.grammar.Junction.{Junction}
use Rattle.locations.specs.declared.grammar.Junction.TheVariants.{Parachain, AccountId32, AccountIndex64, AccountKey20, PalletInstance, GeneralIndex, GeneralKey, OnlyChild, Plurality, GlobalConsensus}
use Rattle.locations.specs.declared.relative.Location.{Location}

abbrev pub network_forms : List (Reader NetworkId)
network_forms = made1 (take_at 32) ByGenesis
    ∷ made2 (fixed_at 8) (take_at 32) ByFork
    ∷ pure_reader Polkadot
    ∷ pure_reader Kusama
    ∷ pure_reader Westend
    ∷ pure_reader Rococo
    ∷ pure_reader Wococo
    ∷ made1 (below_at (2 ^ 64)) Ethereum
    ∷ pure_reader BitcoinCore
    ∷ pure_reader BitcoinCash
    ∷ []

unfoldable pub network_at : Reader NetworkId
network_at = indexed_at network_forms

abbrev pub body_forms : List (Reader BodyId)
body_forms = pure_reader Unit
    ∷ made1 (take_at 4) Moniker
    ∷ made1 (below_at (2 ^ 32)) Index
    ∷ pure_reader Executive
    ∷ pure_reader Technical
    ∷ pure_reader Legislative
    ∷ pure_reader Judicial
    ∷ pure_reader Defense
    ∷ pure_reader Administration
    ∷ pure_reader Treasury
    ∷ []

unfoldable pub body_at : Reader BodyId
body_at = indexed_at body_forms

abbrev pub part_forms : List (Reader BodyPart)
part_forms = pure_reader Voice
    ∷ made1 (below_at (2 ^ 32)) Members
    ∷ made2 (below_at (2 ^ 32)) (below_at (2 ^ 32)) Fraction
    ∷ made2 (below_at (2 ^ 32)) (below_at (2 ^ 32)) AtLeastProportion
    ∷ made2 (below_at (2 ^ 32)) (below_at (2 ^ 32)) MoreThanProportion
    ∷ []

unfoldable pub body_part_at : Reader BodyPart
body_part_at = indexed_at part_forms

abbrev pub junction_forms : List (Reader Junction)
junction_forms = made1 (below_at (2 ^ 32)) Parachain
    ∷ made2 (optional_at network_at) (take_at 32) AccountId32
    ∷ made2 (optional_at network_at) (below_at (2 ^ 64)) AccountIndex64
    ∷ made2 (optional_at network_at) (take_at 20) AccountKey20
    ∷ made1 u8_at PalletInstance
    ∷ made1 (below_at (2 ^ 128)) GeneralIndex
    ∷ made2 u8_at (take_at 32) GeneralKey
    ∷ pure_reader OnlyChild
    ∷ made2 body_at body_part_at Plurality
    ∷ made1 network_at GlobalConsensus
    ∷ []

unfoldable pub junction_at : Reader Junction
junction_at = indexed_at junction_forms

-- at most 8
abbrev pub junction_count_at : Reader ℕ
junction_count_at = guarded_at (λ n. nat_le n 8) u8_at

unfoldable pub junctions_at : Reader (List Junction)
junctions_at = counted_at junction_count_at junction_at

unfoldable pub location_at : Reader Location
location_at = made2 u8_at junctions_at (λ parents interior. record { parents = parents; interior = interior })
