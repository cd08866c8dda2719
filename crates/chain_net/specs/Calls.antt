-- Calls of a network, one after another. This project's own rule.
use Rattle.std.specs.Prelude.{◌≡◌}
use Rattle.network_steps.specs.declared.step_result.StepResult.{StepResult}
use Rattle.law_independence.specs.Acts.{Act, stepped_by}
use Rattle.chain_net.specs.declared.net.Net.{Net}
use Rattle.chain_net.specs.Nets.{world_of, trace_of}

-- what `exec`, `deliver` and `claim` ensure where they answer: the answer, the next world and the trace of the step
pub record IsCalled (act : Act) (answer : StepResult) (old new : Net) : Type 0 where
  pub answer_is : answer ≡ (stepped_by (world_of old) act).answer
  pub world_is : world_of new ≡ (stepped_by (world_of old) act).world
  pub trace_is : trace_of new ≡ (stepped_by (world_of old) act).trace

-- two calls, one after the other
pub record AreCalled (s t : Act) (first : Net) : Type 0 where
  pub first_answer : StepResult
  pub second_answer : StepResult
  pub between : Net
  pub last : Net
  pub one : IsCalled s first_answer first between
  pub two : IsCalled t second_answer between last

-- the two calls in both orders: each has the same answer and trace in both, and both lead to the same world
pub record AreSwapped {s t : Act} {first second : Net} (a : AreCalled s t first) (b : AreCalled t s second) : Type 0 where
  pub world : world_of a.last ≡ world_of b.last
  pub answer : a.first_answer ≡ b.second_answer
  pub other_answer : a.second_answer ≡ b.first_answer
  pub trace : trace_of a.between ≡ trace_of b.last
  pub other_trace : trace_of a.last ≡ trace_of b.between
