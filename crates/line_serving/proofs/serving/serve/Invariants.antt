use Rattle.std.proofs.Common.{◌≤◌, ◌+◌, ◌-◌, length}
use Rattle.input_lines.specs.Lines.{HasNoFeed}
use Rattle.line_serving.specs.Replies.{max_input}
use Rattle.line_serving.proofs.Streams.{Streams}
use Rattle.line_serving.proofs.serving.serve.Given as goal

abbrev pub invariant-pieces : goal.invariant-pieces
invariant-pieces g l = record {
  streams : Streams g.M.LineMachine.replies g.M.LineMachine.rooms l.fn.machine (g.I.Source.left l.initial.input) (g.I.Source.left l.input) (g.O.Sink.written l.initial.out) (g.O.Sink.written l.out) l.feeder.machine
      l.feeder.pending.items;
  reads : g.I.Source.faults l.initial.input ≤ g.I.Source.faults l.input;
  writes : g.O.Sink.faults l.initial.out ≤ g.O.Sink.faults l.out;
  ready : g.M.LineMachine.is_ready l.feeder.machine;
  unended : HasNoFeed l.feeder.pending.items;
  few : length l.feeder.pending.items ≤ max_input + 65536;
}

abbrev pub decreases-pieces : goal.decreases-pieces
decreases-pieces g l = 67108865 - (g.M.LineMachine.taken l.feeder.machine + length l.feeder.pending.items)
