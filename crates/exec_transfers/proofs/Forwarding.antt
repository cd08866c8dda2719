-- What is sent is a program that may be sent: one that is inside a sound instruction, or a report.
use Rattle.std.proofs.Common.{◌≡◌, true, List, Option, Some, None, refl, sym, ap, ◌∙◌, subst, arith}
use Rattle.locations.specs.declared.relative.Location.{Location}
use Rattle.operands.specs.declared.query.QueryInfo.{QueryInfo}
use Rattle.operands.specs.declared.query.Response.{Response}
use Rattle.xcm_program.specs.declared.instruction.Instruction.{Instruction, out-Instruction, roll-Instruction, out-roll-Instruction}
use Rattle.xcm_program.specs.declared.instruction.Instruction.TheOpen.{Instruction-F}
use Rattle.xcm_program.specs.Measure.{inner, inner_of}
use Rattle.xcm_program.specs.Everywhere.{AllInside}
use Rattle.xcm_program.specs.Conversions.{names_concrete_ids, response_is_concrete, is_convertible_one, HasAmount, HasAmounts}
use Rattle.xcm_program.proofs.Lemmas.{deep_count_one-is, deep_count_inside, convertible_inside, is_convertible_one-is, amounts_open, amounts_here}
use Rattle.exec_base.specs.Sending.{IsForwardable}
use Rattle.exec_base.specs.Host.{report_program}
use Rattle.exec_rules.specs.Readiness.{IsSoundInstruction}
use Rattle.plain_lists.proofs.Lemmas.Facts.{both_are as both_true, first_true, second_true}

inside_sound : (x : Instruction) (p : List Instruction) → inner_of x ≡ Some p → IsSoundInstruction x → IsForwardable p
inside_sound x p e f = record {
  few = let c = deep_count_one-is x in let n = ap deep_count_inside e in omega (arith, f.few, c, n);
  named = sym (ap convertible_inside e) ∙ second_true _ _ (sym (is_convertible_one-is x) ∙ first_true (is_convertible_one x) true f.named);
  amounts = subst (λ (o : Option (List Instruction)). AllInside HasAmounts o) e (amounts_open x f.amounts.0).1;
}

-- the program inside a sound instruction
pub inner_forwardable : (l : Instruction-F Instruction) (p : List Instruction) → inner l ≡ Some p → IsSoundInstruction (roll-Instruction l) → IsForwardable p
inner_forwardable l p e sound = inside_sound (roll-Instruction l) p (ap (λ (k : Instruction-F Instruction). inner k) (out-roll-Instruction l) ∙ e) sound

report_inside : (info : QueryInfo) (response : Response) (querier : Option Location) → Instruction-F Instruction
report_inside info response querier = Instruction-F.QueryResponse info.query_id response info.max_weight querier

-- a report whose assets, if it tells of any, have no id by bytes
pub report_forwardable : (info : QueryInfo) (response : Response) (querier : Option Location) → response_is_concrete response ≡ true → IsForwardable (report_program info response querier)
unfolding report_inside
report_forwardable info response querier places =
    let l = report_inside info response querier in
    let x = roll-Instruction l in
    let opened : out-Instruction x ≡ l = out-roll-Instruction l in
    let none : inner_of x ≡ None = ap (λ (k : Instruction-F Instruction). inner k) opened in
    record {
      few = let c = deep_count_one-is x in let n = ap deep_count_inside none in omega (arith, c, n);
      named = both_true _ true (is_convertible_one-is x ∙ both_true _ _ (ap (λ (k : Instruction-F Instruction). names_concrete_ids k) opened ∙ places) (ap convertible_inside none)) refl;
      amounts = (
        amounts_here x (subst (λ (k : Instruction-F Instruction). HasAmount Instruction k) (sym opened) tt) (subst (λ (o : Option (List Instruction)). AllInside HasAmounts o) (sym none) tt),
        tt,
      );
    }
