-- What of a location is hashed: how high it lies, and what its junctions say, a number or bytes each. Networks, bodies and
-- lengths are left out. It is this project's own rule: locations that are hashed alike are told apart by comparing them.
use Rattle.std.specs.Prelude.{List, [], ◌∷◌, ◌++◌}
use Rattle.std.specs.List.{flat_map}
use Rattle.std.specs.Hash as fed
use Rattle.std.specs.Hash.{HashWrites}
use Rattle.locations.specs.declared.grammar.Junction.{Junction}
use Rattle.locations.specs.declared.grammar.Junction.TheVariants.{Parachain, AccountId32, AccountIndex64, AccountKey20, PalletInstance, GeneralIndex, GeneralKey, OnlyChild, Plurality, GlobalConsensus}
use Rattle.locations.specs.declared.relative.Location.{Location}

abbrev pub junction_input : Junction → HashWrites
junction_input (Parachain para) = fed.u32 para
junction_input (AccountId32 network id) = id ∷ []
junction_input (AccountIndex64 network index) = fed.u64 index
junction_input (AccountKey20 network key) = key ∷ []
junction_input (PalletInstance index) = fed.u8 index
junction_input (GeneralIndex index) = fed.u128 index
junction_input (GeneralKey len key) = key ∷ []
junction_input OnlyChild = []
junction_input (Plurality id part) = []
junction_input (GlobalConsensus network) = []

abbrev pub junctions_input : List Junction → HashWrites
junctions_input = flat_map junction_input

abbrev pub location_input : Location → HashWrites
location_input l = fed.u8 l.parents ++ junctions_input l.interior
