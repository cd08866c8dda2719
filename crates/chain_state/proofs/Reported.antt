-- A report can be sent on, whoever asked.
use Rattle.std.proofs.Common.{◌≡◌, ◌+◌, true, ◌&&◌, sym, ap, ◌∙◌, subst, arith}
use Rattle.std.specs.Prelude.{Option}
use Rattle.locations.specs.declared.relative.Location.{Location}
use Rattle.operands.specs.declared.query.QueryInfo.{QueryInfo}
use Rattle.operands.specs.declared.query.Response.{Response}
use Rattle.xcm_program.specs.declared.instruction.Instruction.{Instruction, roll-Instruction, out-Instruction, out-roll-Instruction}
use Rattle.xcm_program.specs.declared.instruction.Instruction.TheOpen.{Instruction-F}
use Rattle.xcm_program.specs.Everywhere.{AllInside}
use Rattle.xcm_program.specs.Measure.{inner, deep_count_one}
use Rattle.xcm_program.specs.Conversions.{names_concrete_ids, is_convertible_one, HasAmount, HasAmounts}
use Rattle.xcm_program.proofs.Lemmas.{deep_count_inside, deep_count_one-is, convertible_inside, is_convertible_one-is, amounts_here}
use Rattle.exec_base.specs.Sending.{IsForwardable}
use Rattle.exec_base.specs.Host.{report_program}

out_rolled : (l : Instruction-F Instruction) → out-Instruction (roll-Instruction l) ≡ l
out_rolled l = out-roll-Instruction l

one_count : (l : Instruction-F Instruction) → deep_count_one (roll-Instruction l) ≡ 1 + deep_count_inside (inner l)
one_count l = deep_count_one-is (roll-Instruction l) ∙ ap (λ (x : Instruction-F Instruction). 1 + deep_count_inside (inner x)) (out_rolled l)

one_convertible : (l : Instruction-F Instruction) → is_convertible_one (roll-Instruction l) ≡ (names_concrete_ids l && convertible_inside (inner l))
one_convertible l = is_convertible_one-is (roll-Instruction l) ∙ ap (λ (x : Instruction-F Instruction). names_concrete_ids x && convertible_inside (inner x)) (out_rolled l)

-- ---- a report
pub report_forwardable : (info : QueryInfo) (response : Response) (querier other : Option Location) → IsForwardable (report_program info response querier) → IsForwardable (report_program info response other)
report_forwardable info response querier other f =
    let old = Instruction-F.QueryResponse info.query_id response info.max_weight querier in
    let new = Instruction-F.QueryResponse info.query_id response info.max_weight other in
    record {
      few = (let few = f.few in let a = one_count old in let b = one_count new in omega (arith, few, a, b));
      named = ap (λ b. b && true) (one_convertible new) ∙ ap (λ b. b && true) (sym (one_convertible old)) ∙ f.named;
      amounts = (amounts_here (roll-Instruction new) (subst (HasAmount Instruction) (sym (out_rolled new)) tt) (subst (λ (x : Instruction-F Instruction). AllInside HasAmounts (inner x)) (sym (out_rolled new)) tt), tt);
    }
