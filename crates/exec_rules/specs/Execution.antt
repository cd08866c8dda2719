-- The execution of a program on a chain: admission, the run, and its end. Source: xcm-executor's documentation.
use Rattle.std.specs.Prelude.{◌≡◌, ◌⊎◌, Bool, false, List, [], Some, None, Result, Ok, Err}
use Rattle.amounts.specs.Amounts.{empty}
use Rattle.locations.specs.declared.relative.Location.{Location}
use Rattle.operands.specs.declared.status.MaybeError.TheVariants.{Success}
use Rattle.operands.specs.declared.weight.Weight.{Weight}
use Rattle.weight_trader.specs.Purchases.{no_weight}
use Rattle.xcm_program.specs.declared.instruction.Instruction.{Instruction}
use Rattle.xcm_program.specs.declared.outcome.Outcome.{Outcome}
use Rattle.exec_base.specs.declared.event.Part.TheVariants as parts
use Rattle.exec_base.specs.declared.registers.Registers.{Registers}
use Rattle.exec_base.specs.Part.{ChainPart}
use Rattle.exec_rules.specs.Machine.{Machine, machine}
use Rattle.exec_rules.specs.Run.{Stage, begin, run, machine_of, begins_well, StoppedIn}
use Rattle.exec_rules.specs.Outcome.{outcome_of, abandoned, refunded_last, finished, HaltedAtEnd}
use Rattle.exec_rules.specs.Instructions.{xcm}
use Rattle.exec_rules.specs.Stopping.{leaves_on_oom}
use Rattle.exec_rules.specs.declared.rules.ChainRules.{ChainRules}
use Rattle.exec_rules.specs.declared.admission.Admitted.{Admitted}
use Rattle.exec_rules.specs.Admission.{admitted}

-- the registers as a run begins
abbrev pub started : ChainRules → Location → Registers
started rules origin = record {
  holding = empty;
  origin = Some origin;
  original = origin;
  error = None;
  handler = [];
  handler_weight = no_weight;
  appendix = [];
  appendix_weight = no_weight;
  topic = None;
  status = Success;
  surplus = no_weight;
  refunded = no_weight;
  fees_mode = false;
  rule = rules.weight;
  max_holding = rules.max_holding;
}

module _ (rules : ChainRules) (origin : Location) where
  abbrev pub first_machine : ChainPart → Machine
  first_machine p = machine (started rules origin) p

  -- where the run of an admitted program begins
  abbrev pub first_stage : Admitted → ChainPart → Stage
  first_stage a p = begin parts.Program a.program (first_machine p)

  -- the machine at its end
  abbrev pub last_machine : Admitted → ChainPart → Machine
  last_machine a p = machine_of (run xcm (first_stage a p))

  -- the outcome; whether the first instruction ran and succeeded; and what is left. Where the program isn't admitted nothing changes
  abbrev pub executed_by : Result Admitted Outcome → ChainPart → (Outcome × Bool) × ChainPart
  executed_by (Err outcome) p = ((outcome, false), p)
  executed_by (Ok a) p =
      ((outcome_of a.weight (refunded_last xcm (last_machine a p)).regs, begins_well xcm a.program (first_machine p)), finished xcm (last_machine a p))

  -- out of memory in the run, or at its end
  abbrev pub AbandonedIn : Admitted → ChainPart → ChainPart → Type 0
  AbandonedIn a p now =
      ((stopped : Machine) × StoppedIn xcm leaves_on_oom (first_stage a p) stopped × (now ≡ abandoned stopped.regs stopped.part))
      ⊎ HaltedAtEnd xcm leaves_on_oom (last_machine a p) now

module _ (rules : ChainRules) (origin : Location) (credit : Weight) (program : List Instruction) where
  -- a response is let in by the queries that are open before it
  abbrev pub executed : ChainPart → (Outcome × Bool) × ChainPart
  executed p = executed_by rules origin (admitted rules origin credit p.queries program) p

  abbrev pub IsAbandoned : ChainPart → ChainPart → Type 0
  IsAbandoned p now = (a : Admitted) × (admitted rules origin credit p.queries program ≡ Ok a) × AbandonedIn rules origin a p now
