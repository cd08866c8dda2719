use Rattle.std.proofs.Common.{◌≡◌, ◌<◌, true, length, drop}
use Rattle.exec_rules.specs.Machine.{machine}
use Rattle.exec_rules.specs.Run.{begin, begins_well}
use Rattle.exec_rules.specs.Instructions.{xcm}
use Rattle.xcm_executor.proofs.Standing.{Stands}
use Rattle.xcm_executor.proofs.taking.take_program.Given as goal

abbrev pub invariant-loop-place : goal.invariant-loop-place
invariant-loop-place g l = record {
  stands : Stands (begin l.fn.part l.fn.program (machine l.fn.r (g.H.Host.part l.fn.h))) l.part l.place (drop l.place l.instructions.items) (machine l.r (g.H.Host.part l.h));
  began : 0 < l.place → begins_well xcm l.fn.program (machine l.fn.r (g.H.Host.part l.fn.h)) ≡ true;
  whole : length l.instructions.items ≡ length l.fn.program;
}
