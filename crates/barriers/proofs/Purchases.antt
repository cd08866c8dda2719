-- The paid barrier's purchase: where one is found, and its limit set by two replacements.
use Rattle.std.proofs.Common.{◌≡◌, ℕ, true, List, Some, None, sym, ap, ◌∙◌}
use Rattle.std.proofs.Math.ListN.{set}
use Rattle.std.proofs.lemmas.List.{set-set}
use Rattle.std.proofs.lemmas.Option.{cond_some}
use Rattle.std.specs.Bool.{if◌then◌else◌}
use Rattle.std.specs.List.{slice_get}
use Rattle.std.specs.Option.{option_map_or}
use Rattle.operands.specs.declared.weight.Weight.{Weight}
use Rattle.operands.specs.declared.weight.WeightLimit.{WeightLimit}
use Rattle.xcm_program.specs.declared.instruction.Instruction.{Instruction, out-Instruction, roll-Instruction, roll-out-Instruction}
use Rattle.barriers.specs.Barriers.{is_paid_execution, purchase_index, with_limit, limited, with_limit_at}

-- the instruction with its new limit, put where the old one was
pub limit_set : (limit : WeightLimit) (p : List Instruction) (k : ℕ) (old between new : Instruction) → Some old ≡ slice_get p k → out-Instruction new ≡ with_limit limit (out-Instruction old)
    → set (set p k between) k new ≡ with_limit_at limit k p
limit_set limit p k old between new at layer =
    set-set p k between new
    ∙ ap (set p k) (sym (roll-out-Instruction new) ∙ ap roll-Instruction layer)
    ∙ ap (λ o. option_map_or (λ i. set p k (limited limit i)) o p) at

-- a purchase is found only where the paid barrier allows
pub paid-some : (weight : Weight) (read p : List Instruction) (k : ℕ) → read ≡ p → Some k ≡ (if is_paid_execution weight read then Some (purchase_index read) else None) → true ≡ is_paid_execution weight p
paid-some weight read p k same found = sym (cond_some (is_paid_execution weight read) (purchase_index read) k (sym found)).0 ∙ ap (is_paid_execution weight) same
