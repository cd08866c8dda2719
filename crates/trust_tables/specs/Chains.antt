-- The locations of the chains of a network: from the root of all networks, and as seen from one another.
-- Source: the XCM format's rule that a chain's universal location names its network and then, on a parachain, its number.
use Rattle.std.specs.Prelude.{if◌then◌else◌, ◌==◌, List, [], ◌∷◌, Option, Some, None}
use Rattle.locations.specs.declared.grammar.Junction.{Junction}
use Rattle.locations.specs.declared.grammar.Junction.TheVariants.{Parachain, GlobalConsensus}
use Rattle.locations.specs.declared.relative.Location.{Location}
use Rattle.chain_ids.specs.declared.chain.ChainId.{ChainId}
use Rattle.chain_ids.specs.declared.chain.ChainId.TheVariants.{Relay, Para}
use Rattle.trust_tables.specs.declared.chains.Site.{Site}

-- the junctions from the relay chain to a chain
abbrev pub below_relay : ChainId → List Junction
below_relay Relay = []
below_relay (Para number) = Parachain number ∷ []

-- the junctions from the root of all networks to a chain
abbrev pub path_of_site : Site → List Junction
path_of_site s = GlobalConsensus s.network ∷ below_relay s.chain

-- how the first chain names the second. A chain has no such name for itself
abbrev pub location_of : ChainId → ChainId → Option Location
location_of Relay Relay = None
location_of Relay (Para number) = Some (record { parents = 0; interior = Parachain number ∷ [] })
location_of (Para own) Relay = Some (record { parents = 1; interior = [] })
location_of (Para own) (Para number) = if own == number then None else Some (record { parents = 1; interior = Parachain number ∷ [] })
