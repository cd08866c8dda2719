-- Lemmas on the definitions of `specs/Worlds.antt`: what proofs cite.
use Rattle.network_steps.specs.Worlds as networks
use Rattle.law_steps.specs.Shapes.{AllShaped}
use Rattle.law_coherence.specs.Parts.{WorldView}
use Rattle.law_coherence.specs.Histories.{History}
use Rattle.law_steps.specs.Views.{views}
use Rattle.law_steps.specs.Worlds.{AreSoundParts}

-- a world that safe changes lead to
pub record IsReached (first : WorldView) (w : networks.World) : Type 0 where
  pub history : History first (views w)
  pub shaped : AllShaped w
  pub parts : AreSoundParts w
