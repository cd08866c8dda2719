-- The one spelling of each part of a location, and which values have one. Source: the XCM format, versions 3 and 4, which spell
-- locations alike, in the SCALE codec: an enum is its index and then its fields in order. This project's own profile of the two
-- versions are the index numbers of NetworkId, BodyId and BodyPart, that any length byte of a GeneralKey has a spelling, and that no
-- NetworkId has an index above 9.
use Rattle.std.specs.Prelude.{◌≡◌, ℕ, ◌<◌, ◌≤◌, ◌^◌, List, [], ◌∷◌, ◌++◌, length, IfSome, ⊤}
use Rattle.std.specs.List.{AllByRecursion}
use Rattle.scale_codec.specs.Spelling.{byte, fixed, compact, optional, counted}
use Rattle.locations.specs.declared.grammar.NetworkId.{NetworkId}
use Rattle.locations.specs.declared.grammar.NetworkId.TheVariants.{ByGenesis, ByFork, Polkadot, Kusama, Westend, Rococo, Wococo, Ethereum, BitcoinCore, BitcoinCash}
use Rattle.locations.specs.declared.grammar.BodyId.{BodyId}
use Rattle.locations.specs.declared.grammar.BodyId.TheVariants.{Unit, Moniker, Index, Executive, Technical, Legislative, Judicial, Defense, Administration, Treasury}
use Rattle.locations.specs.declared.grammar.BodyPart.{BodyPart}
use Rattle.locations.specs.declared.grammar.BodyPart.TheVariants.{Voice, Members, Fraction, AtLeastProportion, MoreThanProportion}
use Rattle.locations.specs.declared.grammar.Junction.{Junction}
use Rattle.locations.specs.declared.grammar.Junction.TheVariants.{Parachain, AccountId32, AccountIndex64, AccountKey20, PalletInstance, GeneralIndex, GeneralKey, OnlyChild, Plurality, GlobalConsensus}
use Rattle.locations.specs.declared.relative.Location.{Location}

-- ---- networks

abbrev pub network : NetworkId → List ℕ
network (ByGenesis hash) = 0 ∷ hash
network (ByFork number hash) = 1 ∷ fixed 8 number ++ hash
network Polkadot = 2 ∷ []
network Kusama = 3 ∷ []
network Westend = 4 ∷ []
network Rococo = 5 ∷ []
network Wococo = 6 ∷ []
network (Ethereum chain) = 7 ∷ compact chain
network BitcoinCore = 8 ∷ []
network BitcoinCash = 9 ∷ []

abbrev pub FitsNetwork : NetworkId → Type 0
FitsNetwork (ByGenesis hash) = length hash ≡ 32
FitsNetwork (ByFork number hash) = (number < 2 ^ 64) × (length hash ≡ 32)
FitsNetwork (Ethereum chain) = chain < 2 ^ 64
FitsNetwork _ = ⊤

-- ---- bodies

abbrev pub body : BodyId → List ℕ
body Unit = 0 ∷ []
body (Moniker name) = 1 ∷ name
body (Index index) = 2 ∷ compact index
body Executive = 3 ∷ []
body Technical = 4 ∷ []
body Legislative = 5 ∷ []
body Judicial = 6 ∷ []
body Defense = 7 ∷ []
body Administration = 8 ∷ []
body Treasury = 9 ∷ []

abbrev pub FitsBody : BodyId → Type 0
FitsBody (Moniker name) = length name ≡ 4
FitsBody (Index index) = index < 2 ^ 32
FitsBody _ = ⊤

abbrev pub part : BodyPart → List ℕ
part Voice = 0 ∷ []
part (Members count) = 1 ∷ compact count
part (Fraction nom denom) = 2 ∷ compact nom ++ compact denom
part (AtLeastProportion nom denom) = 3 ∷ compact nom ++ compact denom
part (MoreThanProportion nom denom) = 4 ∷ compact nom ++ compact denom

abbrev pub FitsPart : BodyPart → Type 0
FitsPart Voice = ⊤
FitsPart (Members count) = count < 2 ^ 32
FitsPart (Fraction nom denom) = (nom < 2 ^ 32) × (denom < 2 ^ 32)
FitsPart (AtLeastProportion nom denom) = (nom < 2 ^ 32) × (denom < 2 ^ 32)
FitsPart (MoreThanProportion nom denom) = (nom < 2 ^ 32) × (denom < 2 ^ 32)

-- ---- junctions

unfoldable pub junction : Junction → List ℕ
junction (Parachain id) = 0 ∷ compact id
junction (AccountId32 net id) = 1 ∷ optional network net ++ id
junction (AccountIndex64 net index) = 2 ∷ optional network net ++ compact index
junction (AccountKey20 net key) = 3 ∷ optional network net ++ key
junction (PalletInstance index) = 4 ∷ byte index
junction (GeneralIndex index) = 5 ∷ compact index
junction (GeneralKey len key) = 6 ∷ byte len ++ key
junction OnlyChild = 7 ∷ []
junction (Plurality id share) = 8 ∷ body id ++ part share
junction (GlobalConsensus net) = 9 ∷ network net

abbrev pub FitsJunction : Junction → Type 0
FitsJunction (Parachain id) = id < 2 ^ 32
FitsJunction (AccountId32 net id) = IfSome net FitsNetwork × (length id ≡ 32)
FitsJunction (AccountIndex64 net index) = IfSome net FitsNetwork × (index < 2 ^ 64)
FitsJunction (AccountKey20 net key) = IfSome net FitsNetwork × (length key ≡ 20)
FitsJunction (PalletInstance index) = index < 2 ^ 8
FitsJunction (GeneralIndex index) = index < 2 ^ 128
FitsJunction (GeneralKey len key) = (len < 2 ^ 8) × (length key ≡ 32)
FitsJunction OnlyChild = ⊤
FitsJunction (Plurality id share) = FitsBody id × FitsPart share
FitsJunction (GlobalConsensus net) = FitsNetwork net

-- ---- lists of junctions, and locations

-- how many, at most 8, and these
abbrev pub junctions : List Junction → List ℕ
junctions = counted byte junction

abbrev pub FitsJunctions : List Junction → Type 0
FitsJunctions js = (length js ≤ 8) × AllByRecursion FitsJunction js

abbrev pub location : Location → List ℕ
location l = byte l.parents ++ junctions l.interior

abbrev pub FitsLocation : Location → Type 0
FitsLocation l = (l.parents < 2 ^ 8) × FitsJunctions l.interior
