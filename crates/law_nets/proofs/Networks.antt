-- Lemmas: the chains of a network that can be opened have room for a message's list. A reader may skip this file.
use Rattle.std.proofs.Common.{List, [], ◌∷◌, map}
use Rattle.std.specs.List.{AllByRecursion}
use Rattle.std.proofs.lemmas.List.Elements.{recursion_from_All}
use Rattle.network_spec.specs.declared.chain.ChainSpec.{ChainSpec}
use Rattle.network_spec.specs.declared.network.NetworkSpec.{NetworkSpec}
use Rattle.network_steps.specs.Genesis.{member_of, first_world}
use Rattle.network_steps.specs.Openable.{IsOpenableChain, IsOpenable}
use Rattle.amounts.proofs.Lemmas.AmountLaws.{amount-empty}
use Rattle.asset_locks.proofs.Lemmas.{lock_keys}
use Rattle.law_authority.specs.Floors.{NoneSovereign}
use Rattle.law_nets.specs.Paid.{HaveRoom}

chains_have_room : (spec : NetworkSpec) (cs : List ChainSpec) → AllByRecursion (IsOpenableChain spec.network) cs → HaveRoom (map (member_of spec) cs)
chains_have_room spec [] all = tt
chains_have_room spec (c ∷ cs) all = (all.0.room, chains_have_room spec cs all.1)

chains_free : (spec : NetworkSpec) (cs : List ChainSpec) → NoneSovereign (map (member_of spec) cs)
chains_free spec [] = tt
chains_free spec (c ∷ cs) = (λ key sovereign. amount-empty lock_keys key, chains_free spec cs)

pub none_sovereign : (spec : NetworkSpec) → NoneSovereign (first_world spec)
none_sovereign spec = chains_free spec spec.chains

pub have_room : (spec : NetworkSpec) → IsOpenable spec → HaveRoom (first_world spec)
have_room spec openable = chains_have_room spec spec.chains (recursion_from_All (IsOpenableChain spec.network) spec.chains openable.chains)
