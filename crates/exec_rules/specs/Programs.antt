-- Instructions that change registers alone, and those that set the programs of a run. Source: the XCM format's instruction set, xcm-executor's documentation of surplus.
use Rattle.std.specs.Prelude.{List}
use Rattle.weight_trader.specs.Sums.{weight_sum}
use Rattle.xcm_program.specs.declared.instruction.Instruction.{Instruction}
use Rattle.exec_base.specs.declared.registers.Registers.{Registers}
use Rattle.exec_rules.specs.Machine.{Machine, machine, weight_added}

abbrev pub with_registers : Machine → Registers → Machine
with_registers m r = machine r m.part

-- another handler; the weight of the one before is surplus
abbrev pub with_handler : List Instruction → Registers → Registers
with_handler xcm r = record r { handler = xcm; handler_weight = weight_sum r.rule xcm; surplus = weight_added r.surplus r.handler_weight }

-- another appendix; likewise
abbrev pub with_appendix : List Instruction → Registers → Registers
with_appendix xcm r = record r { appendix = xcm; appendix_weight = weight_sum r.rule xcm; surplus = weight_added r.surplus r.appendix_weight }
