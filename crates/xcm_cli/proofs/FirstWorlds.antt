-- Lemma: as a network opens nothing is locked. A reader may skip this file.
use Rattle.std.proofs.Common.{List, [], ◌∷◌, refl, map}
use Rattle.network_spec.specs.declared.chain.ChainSpec.{ChainSpec}
use Rattle.network_spec.specs.declared.network.NetworkSpec.{NetworkSpec}
use Rattle.network_steps.specs.Genesis.{member_of}
use Rattle.law_authority.specs.Floors.{NothingLocked}

pub nothing_locked : (spec : NetworkSpec) (cs : List ChainSpec) → NothingLocked (map (member_of spec) cs)
nothing_locked spec [] = tt
nothing_locked spec (c ∷ cs) = (refl, nothing_locked spec cs)
