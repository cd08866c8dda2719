-- How steps end, as the generator counts them. This project's own rule.
use Rattle.std.specs.Prelude.{Bool, true, false}
use Rattle.network_steps.specs.declared.step_result.StepResult.{StepResult}
use Rattle.network_steps.specs.declared.step_result.StepResult.TheVariants.{Ran, Empty, NoSuchChain, NoSuchChannel, SovereignCaller, Message, NotAClaim, Sent, Unsent}
use Rattle.xcm_program.specs.declared.outcome.Outcome.TheVariants.{Complete, Incomplete, Error}

-- a program was executed to its end
abbrev pub is_complete : StepResult → Bool
is_complete (Ran (Complete used)) = true
is_complete _ = false

-- a program ended with an error
abbrev pub is_incomplete : StepResult → Bool
is_incomplete (Ran (Incomplete used error)) = true
is_incomplete _ = false

-- a program wasn't let in
abbrev pub is_error : StepResult → Bool
is_error (Ran (Error error)) = true
is_error _ = false

-- no program was handed to a chain: no message waits, or, which doesn't come in the generator's network, the step was refused
abbrev pub is_empty : StepResult → Bool
is_empty (Ran outcome) = false
is_empty Empty = true
is_empty NoSuchChain = true
is_empty NoSuchChannel = true
is_empty SovereignCaller = true
is_empty (Message fault) = true
is_empty NotAClaim = true
is_empty (Sent number) = true
is_empty (Unsent error) = true
