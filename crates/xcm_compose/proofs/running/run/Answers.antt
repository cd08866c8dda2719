use Rattle.std.proofs.Common.{◌∙◌, ◌<◌, ◌≤◌, length, take, ap, arith, rules, Ok}
use Rattle.std.specs.Io.KnownBytes.{Consumes}
use Rattle.xcm_compose.proofs.Streaming.{streams_start, streams_kept, streams_fault, streams_more, streams_over, streams_gave_up, streams_end, streams_long}
use Rattle.xcm_compose.proofs.running.run.Goals as goal

pub pieces-init : goal.pieces-init
pieces-init g c = record {
  streams = streams_start _ _ _ _ c.new-composer.ensures.taken c.new-composer.ensures.tree c.no_bytes-pending.ensures;
  reads = omega arith;
  writes = omega arith;
  ready = record { lines = omega (arith, c.new-composer.ensures.lines, c.new-composer.ensures.taken); bytes = omega (arith, c.new-composer.ensures.taken) };
  unended = rw c.no_bytes-pending.ensures (λ k l e. omega arith);
  few = rw c.no_bytes-pending.ensures (omega arith);
}

pub returns-in-Err-clause-run : goal.returns-in-Err-clause-run
returns-in-Err-clause-run g c = streams_fault _ _ _ _ _ _ (streams_kept _ _ _ _ _ _ c.pieces.invariant.streams _ c.in-Err.ensures.bytes)

pub returns-then-count-eq0-clause-run : goal.returns-then-count-eq0-clause-run
returns-then-count-eq0-clause-run g c =
    let room : 0 < length c.read.new.buf = search rules in
    let none : Consumes (g.I.Source.left c.pieces.input) (g.I.Source.left c.read.new.self) (take 0 c.read.new.buf) = rw c.if-count-eq0.true at c.in-Ok.ensures.bytes.0 in
    streams_end _ _ _ _ _ _ c.pieces.invariant.streams _ _ _ none (c.in-Ok.ensures.bytes.1 c.if-count-eq0.true room) c.finish.ensures.run

pub pieces-preserved : goal.pieces-preserved
pieces-preserved g c =
    let is_none = c.in-Ok-None.is ∙ ap Ok c.in-Ok-None.field-0-is in
    let few : length (take c.in-Ok.count c.read.new.buf) ≤ 65536 = search rules in
    record {
      streams = streams_more _ _ _ _ _ _ c.pieces.invariant.streams _ _ _ c.take_piece.new.composer c.take_piece.new.pending.items c.take_piece.result c.in-Ok.ensures.bytes.0 c.take_piece.ensures.run is_none;
      reads = omega (arith, c.pieces.invariant.reads, c.in-Ok.ensures.cause.later);
      writes = omega (arith, c.pieces.invariant.writes, c.take_piece.ensures.cause.later);
      ready = c.take_piece.ensures.ready is_none;
      unended = c.take_piece.ensures.rest is_none;
      few = omega (arith, c.is_over.ensures.total c.pieces-test.true, c.take_piece.ensures.size is_none, few);
    }

pub returns-in-Ok-Some-clause-run : goal.returns-in-Ok-Some-clause-run
returns-in-Ok-Some-clause-run g c =
    streams_over _ _ _ _ _ _ c.pieces.invariant.streams _ _ _ c.take_piece.new.composer c.take_piece.new.pending.items c.take_piece.result c.in-Ok-Some.status c.in-Ok.ensures.bytes.0 c.take_piece.ensures.run (c.in-Ok-Some.is ∙ ap Ok c.in-Ok-Some.field-0-is)

pub returns-in-Err-take_piece-clause-run : goal.returns-in-Err-take_piece-clause-run
returns-in-Err-take_piece-clause-run g c =
    streams_gave_up _ _ _ _ _ _ c.pieces.invariant.streams _ _ _ c.take_piece.new.composer c.take_piece.new.pending.items c.take_piece.result _ c.in-Ok.ensures.bytes.0 c.take_piece.ensures.run

pub returns-clause-run : goal.returns-clause-run
returns-clause-run g c = streams_long _ _ _ _ _ _ c.pieces.invariant.streams (c.is_over.ensures.over c.pieces-test.false)
