-- The world of some chains and their rules. This project's own.
use Rattle.std.specs.Prelude.{List, [], ◌∷◌, map}
use Rattle.chain_ids.specs.declared.chain.ChainId.{ChainId}
use Rattle.exec_rules.specs.declared.rules.ChainRules.{ChainRules}
use Rattle.chain_state.specs.declared.state.ChainState.{ChainState}
use Rattle.chain_state.specs.PartOf.{part_of}
use Rattle.network_steps.specs.Worlds.{Member, World}

-- a chain with its rules
abbrev pub member_in : ChainRules → ChainState → Member
member_in rules state = record { rules = rules; part = part_of state }

-- the chains in order, each with its rules
abbrev pub world_in : List ChainRules → List ChainState → World
world_in [] states = []
world_in (r ∷ rs) [] = []
world_in (r ∷ rs) (s ∷ ss) = member_in r s ∷ world_in rs ss

-- which chain it is
abbrev pub name_of : ChainState → ChainId
name_of state = (part_of state).site.chain

abbrev pub names_of : List ChainState → List ChainId
names_of states = map name_of states
