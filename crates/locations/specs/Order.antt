-- The order of networks, bodies, junctions and locations: by variant in the order of the XCM format,
-- then by the fields from the first on; a location by parents, number of junctions, junctions.
-- It is this project's own rule.
use Rattle.std.specs.Prelude.{◌≡◌, ◌↔◌, ℕ, List, [], ◌∷◌, length, Option, Some, None}
use Rattle.std.specs.declared.cmp.Ordering.{Ordering}
use Rattle.std.specs.declared.cmp.Ordering.TheVariants.{Less, Equal}
use Rattle.std.specs.Ordering.{nat_cmp, on, then_cmp, ordering_reverse}
use Rattle.std.specs.Cmp.Lexicographic.{slice_cmp}
use Rattle.locations.specs.declared.grammar.NetworkId.{NetworkId}
use Rattle.locations.specs.declared.grammar.NetworkId.TheVariants.{ByGenesis, ByFork, Polkadot, Kusama, Westend, Rococo, Wococo, Ethereum, BitcoinCore, BitcoinCash}
use Rattle.locations.specs.declared.grammar.BodyId.{BodyId}
use Rattle.locations.specs.declared.grammar.BodyId.TheVariants.{Unit, Moniker, Index, Executive, Technical, Legislative, Judicial, Defense, Administration, Treasury}
use Rattle.locations.specs.declared.grammar.BodyPart.{BodyPart}
use Rattle.locations.specs.declared.grammar.BodyPart.TheVariants.{Voice, Members, Fraction, AtLeastProportion, MoreThanProportion}
use Rattle.locations.specs.declared.grammar.Junction.{Junction}
use Rattle.locations.specs.declared.grammar.Junction.TheVariants.{Parachain, AccountId32, AccountIndex64, AccountKey20, PalletInstance, GeneralIndex, GeneralKey, OnlyChild, Plurality, GlobalConsensus}
use Rattle.locations.specs.declared.relative.Location.{Location}

-- a number as a list of one, and fields that are one number or one run of bytes
abbrev pub one : ℕ → List ℕ
one n = n ∷ []

abbrev pub number : ℕ → List (List ℕ)
number n = one n ∷ []

abbrev pub bytes_fields : List ℕ → List (List ℕ)
bytes_fields b = b ∷ []

-- the index of a network, then its fields
abbrev pub network_fields : NetworkId → List (List ℕ)
network_fields (ByGenesis hash) = one 0 ∷ hash ∷ []
network_fields (ByFork height hash) = one 1 ∷ one height ∷ hash ∷ []
network_fields Polkadot = one 2 ∷ []
network_fields Kusama = one 3 ∷ []
network_fields Westend = one 4 ∷ []
network_fields Rococo = one 5 ∷ []
network_fields Wococo = one 6 ∷ []
network_fields (Ethereum chain) = one 7 ∷ one chain ∷ []
network_fields BitcoinCore = one 8 ∷ []
network_fields BitcoinCash = one 9 ∷ []

-- no network comes before each network
abbrev pub any_network_fields : Option NetworkId → List (List ℕ)
any_network_fields None = one 0 ∷ []
any_network_fields (Some network) = one 1 ∷ network_fields network

-- the index of a body, then its field
abbrev pub body_fields : BodyId → List (List ℕ)
body_fields Unit = one 0 ∷ []
body_fields (Moniker name) = one 1 ∷ name ∷ []
body_fields (Index index) = one 2 ∷ one index ∷ []
body_fields Executive = one 3 ∷ []
body_fields Technical = one 4 ∷ []
body_fields Legislative = one 5 ∷ []
body_fields Judicial = one 6 ∷ []
body_fields Defense = one 7 ∷ []
body_fields Administration = one 8 ∷ []
body_fields Treasury = one 9 ∷ []

-- the index of a part, then its fields
abbrev pub part_fields : BodyPart → List (List ℕ)
part_fields Voice = one 0 ∷ []
part_fields (Members count) = one 1 ∷ one count ∷ []
part_fields (Fraction nom denom) = one 2 ∷ one nom ∷ one denom ∷ []
part_fields (AtLeastProportion nom denom) = one 3 ∷ one nom ∷ one denom ∷ []
part_fields (MoreThanProportion nom denom) = one 4 ∷ one nom ∷ one denom ∷ []

-- the index of a junction, then its fields
abbrev pub junction_fields : Junction → List (List (List ℕ))
junction_fields (Parachain para) = number 0 ∷ number para ∷ []
junction_fields (AccountId32 network id) = number 1 ∷ any_network_fields network ∷ bytes_fields id ∷ []
junction_fields (AccountIndex64 network index) = number 2 ∷ any_network_fields network ∷ number index ∷ []
junction_fields (AccountKey20 network key) = number 3 ∷ any_network_fields network ∷ bytes_fields key ∷ []
junction_fields (PalletInstance index) = number 4 ∷ number index ∷ []
junction_fields (GeneralIndex index) = number 5 ∷ number index ∷ []
junction_fields (GeneralKey len key) = number 6 ∷ number len ∷ bytes_fields key ∷ []
junction_fields OnlyChild = number 7 ∷ []
junction_fields (Plurality id part) = number 8 ∷ body_fields id ∷ part_fields part ∷ []
junction_fields (GlobalConsensus network) = number 9 ∷ network_fields network ∷ []

-- the first field that differs decides
abbrev pub fields_cmp : List (List ℕ) → List (List ℕ) → Ordering
fields_cmp = slice_cmp (slice_cmp nat_cmp)

abbrev pub network_cmp : NetworkId → NetworkId → Ordering
network_cmp = on network_fields fields_cmp

abbrev pub body_cmp : BodyId → BodyId → Ordering
body_cmp = on body_fields fields_cmp

abbrev pub part_cmp : BodyPart → BodyPart → Ordering
part_cmp = on part_fields fields_cmp

abbrev pub junction_cmp : Junction → Junction → Ordering
junction_cmp = on junction_fields (slice_cmp fields_cmp)

-- by number of junctions, then junction by junction
abbrev pub junctions_cmp : List Junction → List Junction → Ordering
junctions_cmp = then_cmp (on length nat_cmp) (slice_cmp junction_cmp)

-- by parents, then number of junctions, then junction by junction
abbrev pub location_cmp : Location → Location → Ordering
location_cmp = then_cmp (on (λ (l : Location). l.parents) nat_cmp) (on (λ (l : Location). l.interior) junctions_cmp)

-- a total order that ties only equal values
pub record IsExactOrder {K : Type 0} (R : K → K → Ordering) : Type 0 where
  pub antisymmetric : (x y : K) → R x y ≡ ordering_reverse (R y x)
  pub transitive : (x y z : K) → R x y ≡ Less → R y z ≡ Less → R x z ≡ Less
  pub exact : (x y : K) → (R x y ≡ Equal) ↔ (x ≡ y)
