-- Two calls in both orders. A reader may skip this file.
use Rattle.std.proofs.Common.{◌≡◌, ◌∙◌, sym, ap}
use Rattle.network_steps.specs.Worlds.{World}
use Rattle.law_independence.specs.Acts.{Act, stepped_by}
use Rattle.law_independence.specs.Freedom.{AreFree}
use Rattle.chain_net.specs.declared.net.Net.{Net}
use Rattle.chain_net.specs.Nets.{world_of}
use Rattle.chain_net.specs.Calls.{AreCalled, AreSwapped}

pub swapped : (s t : Act) (first second : Net) (a : AreCalled s t first) (b : AreCalled t s second) → world_of second ≡ world_of first → AreFree (world_of first) s t → AreSwapped a b
swapped s t first second a b same free =
    let w = world_of first in
    let after_t : world_of b.between ≡ (stepped_by w t).world = b.one.world_is ∙ ap (λ (v : World). (stepped_by v t).world) same in
    record {
      world = a.two.world_is ∙ ap (λ (v : World). (stepped_by v t).world) a.one.world_is ∙ free.world
          ∙ sym (b.two.world_is ∙ ap (λ (v : World). (stepped_by v s).world) after_t);
      answer = a.one.answer_is ∙ sym free.first_answer ∙ sym (b.two.answer_is ∙ ap (λ (v : World). (stepped_by v s).answer) after_t);
      other_answer = a.two.answer_is ∙ ap (λ (v : World). (stepped_by v t).answer) a.one.world_is ∙ free.second_answer
          ∙ sym (b.one.answer_is ∙ ap (λ (v : World). (stepped_by v t).answer) same);
      trace = a.one.trace_is ∙ sym free.first_trace ∙ sym (b.two.trace_is ∙ ap (λ (v : World). (stepped_by v s).trace) after_t);
      other_trace = a.two.trace_is ∙ ap (λ (v : World). (stepped_by v t).trace) a.one.world_is ∙ free.second_trace
          ∙ sym (b.one.trace_is ∙ ap (λ (v : World). (stepped_by v t).trace) same);
    }
