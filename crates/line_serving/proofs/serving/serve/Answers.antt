use Rattle.std.proofs.Common.{◌∙◌, ◌<◌, ◌≤◌, length, take, ap, arith, rules, Ok}
use Rattle.std.specs.Io.KnownBytes.{Consumes}
use Rattle.line_serving.proofs.Streams.{streams_start, streams_kept, streams_fault, streams_more, streams_over, streams_err, streams_end, streams_long}
use Rattle.line_serving.proofs.serving.serve.Goals as goal

pub returns-in-Err-clause-run : goal.returns-in-Err-clause-run
returns-in-Err-clause-run g c =
    streams_fault _ _ _ _ _ _ _ _ _ (streams_kept _ _ _ _ _ _ _ _ _ c.pieces.invariant.streams _ c.in-Err.ensures.bytes) (g.met.M.LineMachine.nothing_yet _ c.pieces.invariant.ready) c.pieces.invariant.unended

pub returns-then-count-eq0-clause-run : goal.returns-then-count-eq0-clause-run
returns-then-count-eq0-clause-run g c =
    let room : 0 < length c.read.new.buf = search rules in
    let none : Consumes (g.I.Source.left c.pieces.input) (g.I.Source.left c.read.new.self) (take 0 c.read.new.buf) = rw c.if-count-eq0.true at c.in-Ok.ensures.bytes.0 in
    streams_end _ _ _ _ _ _ _ _ _ c.pieces.invariant.streams _ _ _ none (c.in-Ok.ensures.bytes.1 c.if-count-eq0.true room) c.pieces.invariant.unended c.finish.ensures.run

pub pieces-preserved : goal.pieces-preserved
pieces-preserved g c =
    let is_none = c.in-Ok-None.is ∙ ap Ok c.in-Ok-None.field-0-is in
    let few : length (take c.in-Ok.count c.read.new.buf) ≤ 65536 = search rules in
    record {
      streams = streams_more _ _ _ _ _ _ _ _ _ c.pieces.invariant.streams _ _ _ _ _ c.in-Ok.ensures.bytes.0 (c.take_piece.ensures.run.going is_none)
          (g.met.M.LineMachine.nothing_yet _ c.pieces.invariant.ready) c.pieces.invariant.unended (c.is_over.ensures.room c.pieces-test.true) few;
      reads = omega (arith, c.pieces.invariant.reads, c.in-Ok.ensures.cause.later);
      writes = omega (arith, c.pieces.invariant.writes, c.take_piece.ensures.cause.later);
      ready = c.take_piece.ensures.ready is_none;
      unended = c.take_piece.ensures.open is_none;
      few = omega (arith, c.is_over.ensures.short c.pieces-test.true, c.take_piece.ensures.size is_none, few);
    }

pub returns-in-Ok-Some-clause-run : goal.returns-in-Ok-Some-clause-run
returns-in-Ok-Some-clause-run g c =
    let is_over = c.in-Ok-Some.is ∙ ap Ok c.in-Ok-Some.field-0-is in
    let few : length (take c.in-Ok.count c.read.new.buf) ≤ 65536 = search rules in
    streams_over _ _ _ _ _ _ _ _ _ c.pieces.invariant.streams _ _ _ c.take_piece.result _ c.in-Ok.ensures.bytes.0 few c.pieces.invariant.unended
    (g.met.M.LineMachine.nothing_yet _ c.pieces.invariant.ready) (c.is_over.ensures.room c.pieces-test.true) (c.take_piece.ensures.run.over (λ e. cc)) is_over c.take_piece.ensures.cause.no_read

pub returns-in-Err-take_piece-clause-run : goal.returns-in-Err-take_piece-clause-run
returns-in-Err-take_piece-clause-run g c =
    let few : length (take c.in-Ok.count c.read.new.buf) ≤ 65536 = search rules in
    streams_err _ _ _ _ _ _ _ _ _ c.pieces.invariant.streams _ _ _ c.take_piece.result _ c.in-Ok.ensures.bytes.0 few c.pieces.invariant.unended (g.met.M.LineMachine.nothing_yet _ c.pieces.invariant.ready)
    (c.is_over.ensures.room c.pieces-test.true) (c.take_piece.ensures.run.over (λ e. cc))

pub returns-clause-run : goal.returns-clause-run
returns-clause-run g c = streams_long _ _ _ _ _ _ _ _ _ c.pieces.invariant.streams (g.met.M.LineMachine.nothing_yet _ c.pieces.invariant.ready) (c.is_over.ensures.over c.pieces-test.false)

pub pieces-init : goal.pieces-init
pieces-init g c = record {
  streams = streams_start _ _ _ _ _ _ _ c.new-feeder.ensures.machine c.new-feeder.ensures.none (g.met.M.LineMachine.nothing_yet _ c.requires) (g.met.M.LineMachine.room_to_begin _ c.requires);
  reads = omega arith;
  writes = omega arith;
  ready = c.new-feeder.ensures.fed.ready;
  unended = c.new-feeder.ensures.fed.unended;
  few = omega (arith, c.new-feeder.ensures.fed.short);
}
