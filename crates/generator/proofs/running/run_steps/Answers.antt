use Rattle.std.proofs.Common.{◌≡◌, ◌∙◌, ◌+◌, ◌-◌, ◌<◌, ap, arith}
use Rattle.network_steps.specs.Genesis.{order_of}
use Rattle.network_steps.specs.Steps.{next_world}
use Rattle.chain_net.specs.Nets.{world_of, spec_of}
use Rattle.generator.specs.Turns.{step_of_turn}
use Rattle.generator.proofs.Going.{Taken, Counted, goes_taken, goes_end, counted_total}
use Rattle.generator.proofs.running.run_steps.Goals as goal

pub steps-preserved : goal.steps-preserved
steps-preserved c =
    let counted : Counted c.in_ok-answer.answer c.steps.counts c.add.new.self = record {
      complete = c.add.ensures.complete;
      incomplete = c.add.ensures.incomplete;
      error = c.add.ensures.error;
      empty = c.add.ensures.empty;
    } in
    let taken : Taken (order_of (spec_of c.args.net.now)) (world_of c.steps.net) (world_of c.perform.new.net) c.steps.draws.state c.draw-turn.new.draws.state c.draw-turn.result c.in_ok-answer.answer = record {
      drew = c.draw-turn.ensures.drawn;
      state = c.draw-turn.ensures.state;
      told = c.in_ok-answer.ensures.answer;
      world = c.in_ok-answer.ensures.world ∙ ap (λ spec. next_world (order_of spec) (world_of c.steps.net) (step_of_turn c.draw-turn.result)) c.steps.invariant.spec;
    } in
    let more : c.steps.done < c.args.steps = omega (arith, c.steps-test.true) in
    record {
      goes = goes_taken _ _ _ _ _ _ _ _ _ _ _ _ _ more c.steps.invariant.goes taken counted;
      counted = counted_total _ _ _ counted ∙ ap (λ n. n + 1) c.steps.invariant.counted;
      within = omega (arith, more);
      running = c.in_ok-answer.ensures.running;
      spec = c.perform.ensures.spec ∙ c.steps.invariant.spec;
    }

pub returns-clause-counts : goal.returns-clause-counts
returns-clause-counts c =
    let none : c.args.steps - c.steps.done ≡ 0 = omega (arith, c.steps-test.false) in
    (goes_end _ _ _ _ _ _ _ none c.steps.invariant.goes).0

pub returns-clause-world : goal.returns-clause-world
returns-clause-world c =
    let none : c.args.steps - c.steps.done ≡ 0 = omega (arith, c.steps-test.false) in
    (goes_end _ _ _ _ _ _ _ none c.steps.invariant.goes).1
