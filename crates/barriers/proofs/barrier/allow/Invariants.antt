use Rattle.std.proofs.Common.{◌≡◌, drop}
use Rattle.std.specs.List.{find}
use Rattle.barriers.specs.Barriers.{allows}
use Rattle.barriers.proofs.barrier.allow.Given as goal

abbrev pub invariant-loop-barrier : goal.invariant-loop-barrier
invariant-loop-barrier l = record {
  stays : l.program ≡ l.fn.program;
  same : find (allows l.origin l.weight l.credit l.queries l.fn.program) (drop l.barrier-index l.list) ≡ find (allows l.origin l.weight l.credit l.queries l.fn.program) l.list;
}
