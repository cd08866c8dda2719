-- What a line after the network asks for: nothing, a step, or nothing that there is. This project's own rule.
use Rattle.input_lines.specs.declared.line.Line.{Line}
use Rattle.input_lines.specs.declared.line.Line.TheVariants as lines
use Rattle.input_lines.specs.declared.step.Step.{Step as LineStep}
use Rattle.input_lines.specs.declared.step.Step.TheVariants as told
use Rattle.network_steps.specs.Steps.{Step}
use Rattle.network_steps.specs.Steps as steps

pub data Asked : Type 0 where
  Nothing : Asked
  Asks : Step → Asked
  Unknown : Asked

-- the step of a network that a line's step is
abbrev pub world_step : LineStep → Step
world_step (told.Exec chain account message) = steps.Exec chain account message
world_step (told.Deliver from to) = steps.Deliver from to
world_step (told.Claim from to message) = steps.Claim from to message
world_step told.Drain = steps.Drain
world_step told.Balances = steps.Balances
world_step told.Traps = steps.Traps
world_step told.Queues = steps.Queues
world_step told.Supply = steps.Supply

-- the step of a line that a network's step is
abbrev pub line_step : Step → LineStep
line_step (steps.Exec chain account message) = told.Exec chain account message
line_step (steps.Deliver from to) = told.Deliver from to
line_step (steps.Claim from to message) = told.Claim from to message
line_step steps.Drain = told.Drain
line_step steps.Balances = told.Balances
line_step steps.Traps = told.Traps
line_step steps.Queues = told.Queues
line_step steps.Supply = told.Supply

unfoldable pub asked_of : Line → Asked
asked_of lines.NoStep = Nothing
asked_of (lines.Step step) = Asks (world_step step)
asked_of lines.Refused = Unknown
