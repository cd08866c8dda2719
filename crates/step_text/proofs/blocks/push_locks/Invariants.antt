use Rattle.std.proofs.Common.{◌≡◌, ◌++◌, take, flat_map, string_bytes}
use Rattle.step_text.specs.Lines.{locked_line}
use Rattle.step_text.proofs.blocks.push_locks.Given as goal

abbrev pub invariant-loop-lock : goal.invariant-loop-lock
invariant-loop-lock l = string_bytes l.text ≡ string_bytes l.initial.text ++ flat_map (locked_line l.chain) (take l.lock-index l.locks)
