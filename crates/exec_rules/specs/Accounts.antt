-- What a run has of weight, and where it goes. Source: xcm-executor's documentation of surplus and refunds.
use Rattle.std.specs.Prelude.{◌≡◌, ℕ, ◌+◌, ◌^◌, ◌<◌, ◌≤◌, List, [], ◌∷◌, Option, Some, None, ⊤}
use Rattle.operands.specs.declared.weight.Weight.{Weight}
use Rattle.operands.specs.Weights.{IsWithin}
use Rattle.weight_trader.specs.Sums.{weight_sum}
use Rattle.xcm_program.specs.declared.rule.WeightRule.{WeightRule}
use Rattle.xcm_program.specs.declared.instruction.Instruction.{Instruction, out-Instruction}
use Rattle.xcm_program.specs.declared.instruction.Instruction.TheOpen.{Instruction-F}
use Rattle.xcm_program.specs.Measure.{deep_count}
use Rattle.xcm_program.specs.Weights.{kept, required, kept_count, weight_in, ref_time_of, proof_size_of, weight_of}
use Rattle.exec_base.specs.declared.registers.Registers.{Registers}
use Rattle.exec_rules.specs.Machine.{Control, control_of}
use Rattle.exec_rules.specs.Run.{Stage, At, Ended}

-- in one dimension: of the most that may be used, what isn't used yet is in the instructions ahead, the handler, the appendix and the surplus
pub record BalancesIn (dimension : Weight → ℕ) (most ahead : ℕ) (c : Control) : Type 0 where
  pub handler : dimension c.handler_weight ≡ weight_in dimension (dimension c.rule.unit) c.handler
  pub appendix : dimension c.appendix_weight ≡ weight_in dimension (dimension c.rule.unit) c.appendix
  pub within : ahead + dimension c.handler_weight + dimension c.appendix_weight + dimension c.surplus ≤ most
  pub refunded : dimension c.refunded ≤ dimension c.surplus

abbrev pub ref_time : Weight → ℕ
ref_time w = w.ref_time

abbrev pub proof_size : Weight → ℕ
proof_size w = w.proof_size

-- in both dimensions, with these instructions ahead; counted through handlers and appendices they are as few as the rule allows, and with
-- all nested ones fewer than 2^32
pub record Balances (most : Weight) (ahead : List Instruction) (c : Control) : Type 0 where
  pub in_time : BalancesIn ref_time most.ref_time (ref_time_of c.rule ahead) c
  pub in_size : BalancesIn proof_size most.proof_size (proof_size_of c.rule ahead) c
  pub counted : kept_count ahead + kept_count c.handler + kept_count c.appendix ≤ c.rule.max_instructions
  pub few : deep_count ahead + deep_count c.handler + deep_count c.appendix < 2 ^ 32
  pub short : most.ref_time < 2 ^ 64
  pub small : most.proof_size < 2 ^ 64

-- of a stage
abbrev pub IsBalanced : Weight → Stage → Type 0
IsBalanced most (At part place x behind m) = Balances most (x ∷ behind) (control_of m.regs)
IsBalanced most (Ended m) = Balances most [] (control_of m.regs)

-- a program may be run: the weight that was admitted for it is accounted for
abbrev pub IsWeightAccounted : List Instruction → Registers → Type 0
IsWeightAccounted program r = (most : Weight) × Balances most program (control_of r)

-- what an instruction adds to the surplus at most
abbrev pub freed : {X : Type 0} → Instruction-F X → Control → Weight
freed (Instruction-F.SetErrorHandler _) c = c.handler_weight
freed (Instruction-F.SetAppendix _) c = c.appendix_weight
freed l c = required l

abbrev pub HasWeight : WeightRule → Option (List Instruction) → Type 0
HasWeight rule None = ⊤
HasWeight rule (Some program) = (weight_of rule program ≡ Some (weight_sum rule program)) × (deep_count program < 2 ^ 32)

-- what an instruction may rely on of weights: refunded is at most surplus, a handler or appendix that it sets has a weight, and what it
-- adds to the surplus fits
pub record IsAffordable (x : Instruction) (r : Registers) : Type 0 where
  pub refunded : IsWithin r.refunded r.surplus
  pub weighs : HasWeight r.rule (kept (out-Instruction x))
  pub short : r.surplus.ref_time + (freed (out-Instruction x) (control_of r)).ref_time < 2 ^ 64
  pub small : r.surplus.proof_size + (freed (out-Instruction x) (control_of r)).proof_size < 2 ^ 64

-- of the most that may be used: the surplus is part of it, and what was refunded is part of the surplus
pub record KeepsAccounts (most : Weight) (r : Registers) : Type 0 where
  pub surplus : IsWithin r.surplus most
  pub refunded : IsWithin r.refunded r.surplus
