use Rattle.std.proofs.Common.{◌+◌}
use Rattle.xcm_program.specs.Measure.{deep_count}
use Rattle.exec_base.specs.declared.event.Part.TheVariants as parts
use Rattle.exec_rules.specs.Machine.{machine}
use Rattle.exec_rules.specs.Run.{begin, Reaches}
use Rattle.exec_rules.specs.Instructions.{xcm}
use Rattle.xcm_executor.proofs.running.run_all.Given as goal

abbrev pub invariant-programs : goal.invariant-programs
invariant-programs g l = Reaches xcm (begin parts.Program l.fn.program (machine l.fn.r (g.H.Host.part l.fn.h))) (begin l.part l.program (machine l.r (g.H.Host.part l.h)))

abbrev pub decreases-programs : goal.decreases-programs
decreases-programs g l = deep_count l.program + deep_count l.r.handler + deep_count l.r.appendix
