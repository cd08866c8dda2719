-- The text of a step in a report, each line with its line feed: the heading, then a line for each event of the step's trace, in order, then
-- the line of its answer. This project's own rule.
use Rattle.std.specs.Prelude.{ℕ, List, ◌++◌, codes, decimal, flat_map}
use Rattle.location_wire.specs.Texts.{path_text}
use Rattle.chain_ids.specs.Texts.{chain_text}
use Rattle.operands.specs.declared.weight.Weight.{Weight}
use Rattle.operands.specs.Texts.{weight_text, error_text}
use Rattle.xcm_program.specs.Texts.{outcome_error_text}
use Rattle.xcm_program.specs.declared.outcome.Outcome.{Outcome}
use Rattle.xcm_program.specs.declared.outcome.Outcome.TheVariants as outcomes
use Rattle.versioned_xcm.specs.Message.{message_fault_text}
use Rattle.exec_base.specs.declared.event.Event.{Event}
use Rattle.exec_base.specs.declared.event.Event.TheVariants as events
use Rattle.network_steps.specs.declared.step_result.StepResult.{StepResult}
use Rattle.network_steps.specs.declared.step_result.StepResult.TheVariants as answers
use Rattle.input_lines.specs.declared.step.Step.{Step}
use Rattle.input_lines.specs.Words.{step_words}
use Rattle.xcm_program.specs.Names.{instruction_name_at}
use Rattle.step_text.specs.Texts.{kind_name, cause_name, part_letter, call_name, call_result, result_text, total_text, origin_text, topic_text}

-- ---- the heading

-- the first line of a step: its number from 1, and its words
abbrev pub heading : ℕ → Step → List ℕ
heading number step = codes "#" ++ decimal number ++ codes " " ++ step_words step ++ codes "\n"

-- ---- events

-- the weights at the end of a run, and the end of their line
abbrev pub weights_text : Weight → Weight → List ℕ
weights_text surplus refunded =
    codes " surplus " ++ (weight_text surplus ++ (codes " refunded " ++ (weight_text refunded ++ codes "\n")))

-- what happened in a step
unfoldable pub event_line : Event → List ℕ
event_line (events.Message from to number) =
    codes "  message " ++ chain_text from ++ codes " " ++ chain_text to ++ codes " " ++ decimal number ++ codes "\n"
event_line (events.Ran part place instruction error) =
    codes "  " ++ part_letter part ++ decimal place ++ codes " " ++ instruction_name_at instruction ++ codes " " ++ result_text error ++ codes "\n"
event_line (events.Sent from to number) =
    codes "  sent " ++ chain_text from ++ codes " " ++ chain_text to ++ codes " " ++ decimal number ++ codes "\n"
event_line (events.Burned kind path amount cause) =
    codes "  burned " ++ kind_name kind ++ codes " " ++ path_text path ++ codes " " ++ total_text amount ++ codes " " ++ cause_name cause ++ codes "\n"
event_line (events.Answered query) = codes "  answered " ++ decimal query ++ codes "\n"
event_line (events.Called index ok) = codes "  call " ++ call_name index ++ codes " " ++ call_result ok ++ codes "\n"
event_line (events.Ignored query) = codes "  ignored " ++ decimal query ++ codes "\n"
event_line (events.End origin topic surplus refunded) =
    codes "  end origin " ++ (origin_text origin ++ (codes " topic " ++ (topic_text topic ++ weights_text surplus refunded)))
event_line (events.Trapped number) = codes "  trapped " ++ decimal number ++ codes "\n"

-- ---- answers

-- how an execution ended
abbrev pub outcome_line : Outcome → List ℕ
outcome_line (outcomes.Complete used) = codes "  = complete " ++ weight_text used ++ codes "\n"
outcome_line (outcomes.Incomplete used error) = codes "  = incomplete " ++ weight_text used ++ codes " " ++ outcome_error_text error ++ codes "\n"
outcome_line (outcomes.Error error) = codes "  = error " ++ outcome_error_text error ++ codes "\n"

-- what a step answers
unfoldable pub answer_line : StepResult → List ℕ
answer_line (answers.Ran outcome) = outcome_line outcome
answer_line answers.Empty = codes "  = empty\n"
answer_line answers.NoSuchChain = codes "  = no such chain\n"
answer_line answers.NoSuchChannel = codes "  = no such channel\n"
answer_line answers.SovereignCaller = codes "  = sovereign caller\n"
answer_line (answers.Message fault) = codes "  = message refused: " ++ message_fault_text fault ++ codes "\n"
answer_line answers.NotAClaim = codes "  = not a claim\n"
answer_line (answers.Sent number) = codes "  = sent " ++ decimal number ++ codes "\n"
answer_line (answers.Unsent error) = codes "  = not sent: " ++ error_text error ++ codes "\n"

-- ---- a step, below its heading

unfoldable pub step_text : List Event → StepResult → List ℕ
step_text trace answer = flat_map event_line trace ++ answer_line answer

-- the last line of a drain of so many deliveries
abbrev pub drained_line : ℕ → List ℕ
drained_line count = codes "  drained " ++ decimal count ++ codes "\n"
