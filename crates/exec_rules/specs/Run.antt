-- The run of a program. Source: xcm-executor's documentation of handlers, appendices and surplus.
--
--   stage      where a run is: before an instruction, with those of its program after it; or at its end
--   next       one instruction taken
--   run        as many taken as there may be
--   reaches    a run comes from one stage to another
use Rattle.std.specs.Prelude.{◌≡◌, ◌⊎◌, ⊤, ℕ, zero, suc, ◌+◌, Bool, true, false, List, [], ◌∷◌, Option, Some, None, Result}
use Rattle.operands.specs.declared.error.XcmError.{XcmError}
use Rattle.operands.specs.declared.weight.Weight.{Weight}
use Rattle.weight_trader.specs.Purchases.{no_weight}
use Rattle.weight_trader.specs.Sums.{weight_sum}
use Rattle.xcm_program.specs.declared.instruction.Instruction.{Instruction, out-Instruction}
use Rattle.xcm_program.specs.Measure.{deep_count}
use Rattle.xcm_program.specs.Indices.{index}
use Rattle.exec_base.specs.declared.event.Part.{Part}
use Rattle.exec_base.specs.declared.event.Part.TheVariants.{Handler, Appendix}
use Rattle.exec_base.specs.declared.event.Event.{Event}
use Rattle.exec_base.specs.declared.registers.Registers.{Registers}
use Rattle.exec_base.specs.Host.{told}
use Rattle.exec_rules.specs.Machine.{Machine, Rules, Performed, weight_added}

-- ---- what a run itself does to the registers

-- an instruction failed, and so much weight won't be used
abbrev pub failed_with : ℕ → XcmError → Weight → Registers → Registers
failed_with place e unused r = record r { error = Some (place, e); surplus = weight_added r.surplus unused }

-- the instructions after it don't run
abbrev pub failed : ℕ → XcmError → List Instruction → Registers → Registers
failed place e behind r = failed_with place e (weight_sum r.rule behind) r

abbrev pub without_handler : Registers → Registers
without_handler r = record r { handler = []; handler_weight = no_weight }

-- the handler wasn't needed: its weight is surplus
abbrev pub handler_dropped : Registers → Registers
handler_dropped r = record r { handler = []; handler_weight = no_weight; surplus = weight_added r.surplus r.handler_weight }

abbrev pub without_appendix : Registers → Registers
without_appendix r = record r { appendix = []; appendix_weight = no_weight }

-- ---- where a run is

pub data Stage : Type 0 where
  At : Part → ℕ → Instruction → List Instruction → Machine → Stage
  Ended : Machine → Stage

-- a program begins; an empty one ends the run
abbrev pub begin : Part → List Instruction → Machine → Stage
begin part [] m = Ended m
begin part (x ∷ behind) m = At part 0 x behind m

-- the appendix, taken out
abbrev pub appendix_of : Registers → Part × List Instruction × Registers
appendix_of r = (Appendix, r.appendix, without_appendix r)

-- what is next after an error: the handler, taken out, or where there is none the appendix
abbrev pub next_program : List Instruction → Registers → Part × List Instruction × Registers
next_program [] r = appendix_of r
next_program (x ∷ behind) r = (Handler, x ∷ behind, without_handler r)

abbrev pub to_appendix : Machine → Stage
to_appendix m = begin Appendix m.regs.appendix (record m { regs = without_appendix m.regs })

abbrev pub to_handler : List Instruction → Machine → Stage
to_handler handler m = let c = next_program handler m.regs in begin c.0 c.1 (record m { regs = c.2 })

-- these instructions of a program are left; where there are none the handler is dropped and the appendix is next
abbrev pub go_on : Part → ℕ → List Instruction → Machine → Stage
go_on part place [] m = to_appendix (record m { regs = handler_dropped m.regs })
go_on part place (x ∷ behind) m = At part place x behind m

-- the line that tells of an instruction
abbrev pub traced : Part → ℕ → Instruction → Option XcmError → Machine → Machine
traced part place x error m = record m { part = told m.part (Event.Ran part place (index (out-Instruction x)) error) }

module _ (rules : Rules) where
  -- what an instruction leaves, by its answer
  abbrev pub left_after : Instruction → Machine → Option XcmError → Machine
  left_after x m None = rules.done x m
  left_after x m (Some e) = m

  -- an instruction was taken, and the trace tells of it
  abbrev pub IsTaken : Part → ℕ → Instruction → Machine → Option XcmError → Machine → Type 0
  IsTaken part place x before error now = (rules.refusal_of x before ≡ error) × (now ≡ traced part place x error (left_after x before error))

  -- where the run goes on by its answer
  abbrev pub by_answer : Part → ℕ → Instruction → List Instruction → Machine → Option XcmError → Stage
  by_answer part place x behind m None = go_on part (place + 1) behind (traced part place x None (rules.done x m))
  by_answer part place x behind m (Some e) = to_handler m.regs.handler (record (traced part place x (Some e) m) { regs = failed place e behind m.regs })

  -- one instruction
  abbrev pub next : Stage → Stage
  next (At part place x behind m) = by_answer part place x behind m (rules.refusal_of x m)
  next (Ended m) = Ended m

  -- so many instructions
  unfoldable pub steps : ℕ → Stage → Stage
  steps zero g = g
  steps (suc n) g = steps n (next g)

-- the instructions that may still run, through all programs that are kept
abbrev pub still_to_run : Stage → ℕ
still_to_run (At part place x behind m) = deep_count (x ∷ behind) + deep_count m.regs.handler + deep_count m.regs.appendix
still_to_run (Ended m) = deep_count m.regs.handler + deep_count m.regs.appendix

-- a run is before an instruction; it is over
abbrev pub IsUnderWay : Stage → Type 0
IsUnderWay (At part place x behind m) = ⊤
IsUnderWay (Ended m) = ⊥

abbrev pub IsEnd : Stage → Type 0
IsEnd (At part place x behind m) = ⊥
IsEnd (Ended m) = ⊤

abbrev pub machine_of : Stage → Machine
machine_of (At part place x behind m) = m
machine_of (Ended m) = m

abbrev pub is_accepted : Option XcmError → Bool
is_accepted None = true
is_accepted (Some e) = false

module _ (rules : Rules) where
  -- a run: each instruction is taken at most once, so it ends
  abbrev pub run : Stage → Stage
  run g = steps rules (still_to_run g) g

  -- a run comes from one stage to another
  abbrev pub Reaches : Stage → Stage → Type 0
  Reaches g h = (n : ℕ) × (steps rules n g ≡ h)

  -- by at least one instruction
  abbrev pub GoesOnTo : Stage → Stage → Type 0
  GoesOnTo g h = (n : ℕ) × (steps rules (suc n) g ≡ h)

  -- a program's first instruction is there and isn't refused
  abbrev pub begins_well : List Instruction → Machine → Bool
  begins_well [] m = false
  begins_well (x ∷ behind) m = is_accepted (rules.refusal_of x m)

  -- out of memory as an instruction was taken: `leaves_on_oom` says what an instruction may then leave; or it ran and couldn't be told of
  abbrev pub Halted : (Instruction → Machine → Machine → Type 0) → Instruction → Machine → Machine → Type 0
  Halted leaves_on_oom x before now = leaves_on_oom x before now ⊎ ((answer : Result (Unit {0}) XcmError) × Performed rules x before answer now)

  -- out of memory in a run: it had come to an instruction, which wasn't taken to its end
  pub record StoppedIn (leaves_on_oom : Instruction → Machine → Machine → Type 0) (start : Stage) (now : Machine) : Type 0 where
    pub part : Part
    pub place : ℕ
    pub which : Instruction
    pub behind : List Instruction
    pub before : Machine
    pub reached : Reaches start (At part place which behind before)
    pub halted : Halted leaves_on_oom which before now
