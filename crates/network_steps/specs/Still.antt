-- Which steps change something. This project's own rule.
use Rattle.std.specs.Prelude.{◌≡◌, [], ⊤}
use Rattle.network_steps.specs.declared.step_result.StepResult.{StepResult}
use Rattle.network_steps.specs.Worlds.{World, Stepped}

-- a program ran, or a claim was sent: it may have changed something; else nothing changed and nothing was told
abbrev pub IsStillBy : StepResult → Stepped → World → Type 0
IsStillBy (StepResult.Ran outcome) s w = ⊤
IsStillBy (StepResult.Sent number) s w = ⊤
IsStillBy answer s w = (s.world ≡ w) × (s.trace ≡ [])

abbrev pub IsStill : Stepped → World → Type 0
IsStill s w = IsStillBy s.answer s w
