-- The simulated network as the laws of conservation see it, between steps. This project's own vocabulary.
use Rattle.std.specs.Prelude.{map}
use Rattle.amounts.specs.Amounts.{empty}
use Rattle.network_steps.specs.Worlds as networks
use Rattle.law_coherence.specs.Parts.{WorldView}
use Rattle.law_runs.specs.Views.{seen}

-- between runs nothing is held
abbrev pub views : networks.World → WorldView
views w = map (λ (m : networks.Member). seen empty m.part) w
