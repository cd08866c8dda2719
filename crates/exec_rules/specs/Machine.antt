-- What a run works on, and what its instructions mean there. The registers are the XCM format's; a machine is this project's own word
-- for them with the chain beside them.
use Rattle.std.specs.Prelude.{◌≡◌, ◌+◌, ◌⊎◌, List, Option, Some, None, Result, Ok, Err}
use Rattle.operands.specs.declared.error.XcmError.{XcmError}
use Rattle.operands.specs.declared.weight.Weight.{Weight}
use Rattle.operands.specs.Weights.{IsWithin}
use Rattle.weight_trader.specs.Sums.{weight_sum}
use Rattle.xcm_program.specs.declared.rule.WeightRule.{WeightRule}
use Rattle.xcm_program.specs.declared.instruction.Instruction.{Instruction, out-Instruction}
use Rattle.xcm_program.specs.declared.instruction.Instruction.TheOpen.{Instruction-F}
use Rattle.exec_base.specs.declared.registers.Registers.{Registers}
use Rattle.exec_base.specs.Part.{ChainPart}

-- the registers, and the chain's part of the world
pub record Machine : Type 0 where
  pub regs : Registers
  pub part : ChainPart

abbrev pub machine : Registers → ChainPart → Machine
machine r p = record { regs = r; part = p }

-- what the instructions do
pub record Rules : Type 0 where
  -- why an instruction is refused, or none
  pub refusal_of : Instruction → Machine → Option XcmError
  -- what it leaves where it isn't
  pub done : Instruction → Machine → Machine

-- an instruction ran: a refused one left all as it was
abbrev pub Performed : Rules → Instruction → Machine → Result (Unit {0}) XcmError → Machine → Type 0
Performed rules x before (Ok _) now = (rules.refusal_of x before ≡ None) × (now ≡ rules.done x before)
Performed rules x before (Err e) now = (rules.refusal_of x before ≡ Some e) × (now ≡ before)

-- ---- weights

-- the sum in both dimensions, however large
abbrev pub weight_added : Weight → Weight → Weight
weight_added v w = record { ref_time = v.ref_time + w.ref_time; proof_size = v.proof_size + w.proof_size }

-- ---- the registers by which a run is steered

pub record Control : Type 0 where
  pub handler : List Instruction
  pub handler_weight : Weight
  pub appendix : List Instruction
  pub appendix_weight : Weight
  pub surplus : Weight
  pub refunded : Weight
  pub rule : WeightRule

abbrev pub control_of : Registers → Control
control_of r = record {
  handler = r.handler;
  handler_weight = r.handler_weight;
  appendix = r.appendix;
  appendix_weight = r.appendix_weight;
  surplus = r.surplus;
  refunded = r.refunded;
  rule = r.rule;
}

-- what an instruction may do to them: only four of them do anything. `is` reads the program in a layer as a list of instructions
abbrev pub Steers : {X : Type 0} → (List X → List Instruction) → Instruction-F X → Control → Control → Type 0
Steers is (Instruction-F.SetErrorHandler xcm) c d = d ≡ record c { handler = is xcm; handler_weight = weight_sum c.rule (is xcm); surplus = weight_added c.surplus c.handler_weight }
Steers is (Instruction-F.SetAppendix xcm) c d = d ≡ record c { appendix = is xcm; appendix_weight = weight_sum c.rule (is xcm); surplus = weight_added c.surplus c.appendix_weight }
Steers is Instruction-F.RefundSurplus c d = (d ≡ c) ⊎ (d ≡ record c { refunded = c.surplus })
Steers is (Instruction-F.Transact _ most _) c d = (spare : Weight) × IsWithin spare most × (d ≡ record c { surplus = weight_added c.surplus spare })
Steers is _ c d = d ≡ c

-- no instruction does more to them
abbrev pub IsOrderly : Rules → Type 0
IsOrderly rules = (x : Instruction) (m : Machine) → rules.refusal_of x m ≡ None → Steers (λ p. p) (out-Instruction x) (control_of m.regs) (control_of (rules.done x m).regs)
