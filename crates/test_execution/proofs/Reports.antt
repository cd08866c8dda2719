-- A report of nothing can be sent.
use Rattle.std.proofs.Common.{◌≡◌, ◌+◌, ◌&&◌, true, [], sym, ap, ◌∙◌, subst, arith}
use Rattle.std.specs.Prelude.{None}
use Rattle.operands.specs.declared.query.QueryInfo.{QueryInfo}
use Rattle.operands.specs.declared.query.Response.{Response}
use Rattle.xcm_program.specs.declared.instruction.Instruction.{Instruction, roll-Instruction, out-Instruction, out-roll-Instruction}
use Rattle.xcm_program.specs.declared.instruction.Instruction.TheOpen.{Instruction-F}
use Rattle.xcm_program.specs.Everywhere.{AllInside}
use Rattle.xcm_program.specs.Measure.{inner, deep_count_one}
use Rattle.xcm_program.specs.Conversions.{names_concrete_ids, is_convertible_one, is_convertible, HasAmount, HasAmounts}
use Rattle.xcm_program.proofs.Lemmas.{deep_count_inside, deep_count_one-is, convertible_inside, is_convertible_one-is, amounts_here}
use Rattle.exec_base.specs.Sending.{IsForwardable}
use Rattle.exec_base.specs.Host.{report_program}

told : QueryInfo → Instruction-F Instruction
told info = Instruction-F.QueryResponse info.query_id Response.Null info.max_weight None

rolled : (info : QueryInfo) → out-Instruction (roll-Instruction (told info)) ≡ told info
rolled info = out-roll-Instruction (told info)

one_count : (info : QueryInfo) → deep_count_one (roll-Instruction (told info)) ≡ 1
unfolding told
one_count info = deep_count_one-is (roll-Instruction (told info)) ∙ ap (λ (x : Instruction-F Instruction). 1 + deep_count_inside (inner x)) (rolled info)

one_named : (info : QueryInfo) → is_convertible_one (roll-Instruction (told info)) ≡ true
unfolding told
one_named info = is_convertible_one-is (roll-Instruction (told info)) ∙ ap (λ (x : Instruction-F Instruction). names_concrete_ids x && convertible_inside (inner x)) (rolled info)

one_sized : (info : QueryInfo) → HasAmounts (roll-Instruction (told info))
unfolding told
one_sized info =
    amounts_here (roll-Instruction (told info)) (subst (HasAmount Instruction) (sym (rolled info)) tt) (subst (λ (x : Instruction-F Instruction). AllInside HasAmounts (inner x)) (sym (rolled info)) tt)

pub report_forwardable : (info : QueryInfo) → IsForwardable (report_program info Response.Null None)
unfolding told
report_forwardable info = record {
  few = (let a = one_count info in omega (arith, a));
  named = ap (λ b. b && is_convertible []) (one_named info);
  amounts = (one_sized info, tt);
}
