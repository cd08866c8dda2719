use Rattle.std.proofs.Common.{◌≡◌, ◌∙◌, ◌+◌, ap, arith, Ok, None, drop}
use Rattle.std.proofs.lemmas.List.{take_rest}
use Rattle.line_serving.proofs.Flowing.{takes_over, cut_at, feed_at, take_there, line_size}
use Rattle.line_serving.proofs.Gathering.{gathers_start, gathers_line, gathers_done, gathers_short, gathers_over}
use Rattle.line_serving.proofs.lines.take_lines.Goals as goal

pub loop-len-init : goal.loop-len-init
loop-len-init g c = record { gathers = gathers_start _ _ _ _ _ _ c.new-page.ensures; later = omega arith; ready = c.requires.ready; taken = omega arith; room = omega arith }

pub loop-len-preserved : goal.loop-len-preserved
loop-len-preserved g c =
    let is_none : c.hand_line.result ≡ Ok None = c.in-Ok-None.is ∙ ap Ok c.in-Ok-None.field-0-is in
    record {
      gathers = gathers_line _ _ _ _ _ _ _ _ _ c.loop-len.invariant.gathers c.hand_line.new.machine (drop (c.loop-len.at + c.in-Some.len) c.args.bytes.now) _ _ _ c.hand_line.result
          (g.met.M.LineMachine.nothing_yet c.loop-len.machine c.loop-len.invariant.ready) c.hand_line.ensures.run
          (cut_at c.args.bytes.now c.loop-len.at c.in-Some.len _ _ (take_rest c.args.bytes.now c.loop-len.at) (take_there c.args.bytes.now c.loop-len.at c.in-Some.len) c.in-Some.ensures.line)
          (feed_at c.args.bytes.now c.loop-len.at c.in-Some.len _ _ (take_rest c.args.bytes.now c.loop-len.at) (take_there c.args.bytes.now c.loop-len.at c.in-Some.len) c.in-Some.ensures.feed)
          is_none (c.hand_line.ensures.room is_none);
      later = omega (arith, c.loop-len.invariant.later, c.hand_line.ensures.cause.later);
      ready = c.hand_line.ensures.ready is_none;
      taken = omega (arith, c.hand_line.ensures.taken is_none, (line_size c.args.bytes.now c.loop-len.at c.in-Some.len c.loop-len.invariant.room c.in-Some.ensures.bound).0, c.loop-len.invariant.taken);
      room = (line_size c.args.bytes.now c.loop-len.at c.in-Some.len c.loop-len.invariant.room c.in-Some.ensures.bound).1;
    }

pub returns-in-Ok-Some-clause-run : goal.returns-in-Ok-Some-clause-run
returns-in-Ok-Some-clause-run g c =
    takes_over _ _ _ _ _ _ _ _ _ (λ e. cc) (gathers_over _ _ _ _ _ _ _ _ _ c.loop-len.invariant.gathers c.hand_line.new.machine (drop (c.loop-len.at + c.in-Some.len) c.args.bytes.now) _ _ _ c.hand_line.result
    (g.met.M.LineMachine.nothing_yet c.loop-len.machine c.loop-len.invariant.ready) c.hand_line.ensures.run
    (cut_at c.args.bytes.now c.loop-len.at c.in-Some.len _ _ (take_rest c.args.bytes.now c.loop-len.at) (take_there c.args.bytes.now c.loop-len.at c.in-Some.len) c.in-Some.ensures.line)
    (feed_at c.args.bytes.now c.loop-len.at c.in-Some.len _ _ (take_rest c.args.bytes.now c.loop-len.at) (take_there c.args.bytes.now c.loop-len.at c.in-Some.len) c.in-Some.ensures.feed)
    _ (λ status e. c.in-Ok-Some.is ∙ ap Ok c.in-Ok-Some.field-0-is ∙ e))

pub returns-in-Err-clause-run : goal.returns-in-Err-clause-run
returns-in-Err-clause-run g c =
    takes_over _ _ _ _ _ _ _ _ _ (λ e. cc) (gathers_over _ _ _ _ _ _ _ _ _ c.loop-len.invariant.gathers c.hand_line.new.machine (drop (c.loop-len.at + c.in-Some.len) c.args.bytes.now) _ _ _ c.hand_line.result
    (g.met.M.LineMachine.nothing_yet c.loop-len.machine c.loop-len.invariant.ready) c.hand_line.ensures.run
    (cut_at c.args.bytes.now c.loop-len.at c.in-Some.len _ _ (take_rest c.args.bytes.now c.loop-len.at) (take_there c.args.bytes.now c.loop-len.at c.in-Some.len) c.in-Some.ensures.line)
    (feed_at c.args.bytes.now c.loop-len.at c.in-Some.len _ _ (take_rest c.args.bytes.now c.loop-len.at) (take_there c.args.bytes.now c.loop-len.at c.in-Some.len) c.in-Some.ensures.feed)
    _ (λ status e. cc))

pub returns-in-Ok-clause-run : goal.returns-in-Ok-clause-run
returns-in-Ok-clause-run g c = record {
  going = λ e. gathers_done _ _ _ _ _ _ _ _ _ c.loop-len.invariant.gathers _ c.in-Ok.ensures.bytes;
  over = λ n. absurd (n cc);
}

pub returns-clause-run : goal.returns-clause-run
returns-clause-run g c =
    takes_over _ _ _ _ _ _ _ _ _ (λ e. cc) (gathers_short _ _ _ _ _ _ _ _ _ c.loop-len.invariant.gathers _ c.in-Err-hand_on.ensures.bytes.0 c.in-Err-hand_on.ensures.bytes.1 c.in-Err-hand_on.ensures.bytes.2)
