use Rattle.std.proofs.Common.{◌≡◌, ◌≤◌, ◌+◌, ◌-◌, length, drop}
use Rattle.line_serving.proofs.Gathering.{Gathers}
use Rattle.line_serving.proofs.lines.take_lines.Given as goal

abbrev pub invariant-loop-len : goal.invariant-loop-len
invariant-loop-len g l = record {
  gathers : Gathers g.M.LineMachine.replies g.M.LineMachine.rooms l.initial.machine l.machine l.bytes (drop l.at l.bytes) (g.O.Sink.written l.initial.out) (g.O.Sink.written l.out) l.page.bytes.items;
  later : g.O.Sink.faults l.initial.out ≤ g.O.Sink.faults l.out;
  ready : g.M.LineMachine.is_ready l.machine;
  taken : g.M.LineMachine.taken l.machine ≡ g.M.LineMachine.taken l.initial.machine + l.at;
  room : l.at ≤ length l.bytes;
}

abbrev pub decreases-loop-len : goal.decreases-loop-len
decreases-loop-len g l = length l.bytes - l.at
