use Rattle.std.proofs.Common.{◌≡◌, ◌+◌, ◌-◌, ◌≤◌, ◌++◌}
use Rattle.std.specs.Prelude.{vec_len, vec_capacity}
use Rattle.chain_state.specs.Lines.{trap_events_from}
use Rattle.chain_state.proofs.report.lines.push_traps.Given as goal

abbrev pub invariant-loop : goal.invariant-loop
invariant-loop l = record {
  within : l.counter ≤ l.count;
  room : vec_len l.events + (l.count - l.counter) ≤ vec_capacity l.events;
  told : l.events.items ++ trap_events_from (l.count - l.counter) l.number ≡ l.fn.events.items ++ trap_events_from l.count l.first;
}
