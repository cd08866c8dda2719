use Rattle.std.proofs.Common.{◌≡◌, ◌≤◌, ◌+◌, ◌-◌, ℕ, List, ◌++◌, length, drop}
use Rattle.input_lines.specs.Lines.{lines_of}
use Rattle.xcm_compose.specs.Replies.{IsReplyOf, IsInBounds}
use Rattle.xcm_compose.proofs.Flowing.{Proceeded}
use Rattle.xcm_compose.proofs.lines.take_lines.Given as goal

abbrev pub invariant-loop-len : goal.invariant-loop-len
invariant-loop-len g l = record {
  flows : Proceeded (λ (more : List ℕ). IsReplyOf l.initial.composer (lines_of (l.bytes ++ more))) (λ (more : List ℕ). IsReplyOf l.composer (lines_of (drop l.at l.bytes ++ more))) (g.O.Sink.written l.initial.out) (g.O.Sink.written l.out);
  later : g.O.Sink.faults l.initial.out ≤ g.O.Sink.faults l.out;
  ready : IsInBounds l.composer;
  taken : l.composer.taken ≡ l.initial.composer.taken + l.at;
  room : l.at ≤ length l.bytes;
}

abbrev pub decreases-loop-len : goal.decreases-loop-len
decreases-loop-len g l = length l.bytes - l.at
