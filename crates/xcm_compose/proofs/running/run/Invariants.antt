use Rattle.std.proofs.Common.{◌≤◌, ◌+◌, ◌-◌, length}
use Rattle.input_lines.specs.Lines.{HasNoFeed}
use Rattle.line_serving.specs.Replies.{max_input}
use Rattle.xcm_compose.specs.Replies.{IsInBounds}
use Rattle.xcm_compose.proofs.Streaming.{Streams}
use Rattle.xcm_compose.proofs.running.run.Given as goal

abbrev pub invariant-pieces : goal.invariant-pieces
invariant-pieces g l = record {
  streams : Streams (g.I.Source.left l.initial.input) (g.I.Source.left l.input) (g.O.Sink.written l.initial.out) (g.O.Sink.written l.out) l.composer l.pending.items;
  reads : g.I.Source.faults l.initial.input ≤ g.I.Source.faults l.input;
  writes : g.O.Sink.faults l.initial.out ≤ g.O.Sink.faults l.out;
  ready : IsInBounds l.composer;
  unended : HasNoFeed l.pending.items;
  few : length l.pending.items ≤ max_input + 65536;
}

abbrev pub decreases-pieces : goal.decreases-pieces
decreases-pieces g l = 67108865 - (l.composer.taken + length l.pending.items)
