-- Lemmas: barriers leave the lists of a program as they are. A reader may skip this file.
use Rattle.std.proofs.Common.{◌≡◌, ℕ, zero, suc, Bool, true, false, List, [], ◌∷◌, Option, Some, None, Ok, refl, sym, ap, ◌∙◌, subst}
use Rattle.std.specs.Prelude.{slice_get, slice_set, find}
use Rattle.std.specs.List.{AllByRecursion}
use Rattle.std.specs.Option.{option_map_or}
use Rattle.locations.specs.declared.relative.Location.{Location}
use Rattle.operands.specs.declared.query.OpenQuery.{OpenQuery}
use Rattle.operands.specs.declared.weight.Weight.{Weight}
use Rattle.operands.specs.declared.weight.WeightLimit.{WeightLimit}
use Rattle.operands.specs.declared.weight.WeightLimit.TheVariants.{Limited}
use Rattle.operands.specs.Weights.{is_within}
use Rattle.xcm_program.specs.declared.instruction.Instruction.{Instruction, out-Instruction, out-roll-Instruction}
use Rattle.xcm_program.specs.declared.instruction.Instruction.TheOpen.{Instruction-F}
use Rattle.xcm_program.specs.Measure.{inner}
use Rattle.xcm_program.specs.Everywhere.{AllInside}
use Rattle.xcm_program.specs.Weights.{weight_of}
use Rattle.xcm_program.proofs.Lemmas.{everywhere_open, everywhere_here}
use Rattle.barriers.specs.declared.barrier.Barrier.{Barrier}
use Rattle.barriers.specs.declared.barrier.Barrier.TheVariants.{Credit, Paid, Explicit, Unpaid, Responses}
use Rattle.barriers.specs.Barriers.{with_limit, limited, purchase_index, left_by, decided, allows}
use Rattle.exec_rules.specs.declared.rules.ChainRules.{ChainRules}
use Rattle.exec_rules.specs.declared.admission.Admitted.{Admitted}
use Rattle.exec_rules.specs.Admission as admitting
use Rattle.law_runs.specs.Safety.{HasList, AreLists}
use Rattle.law_runs.proofs.Lemmas.Shipping.{HasList-IsOfLayer}

inner-limit : (limit : WeightLimit) (l : Instruction-F Instruction) → inner (with_limit limit l) ≡ inner l
inner-limit limit (Instruction-F.BuyExecution fees most) = refl
inner-limit limit _ = refl

inner-limited : (limit : WeightLimit) (i : Instruction) → inner (out-Instruction (limited limit i)) ≡ inner (out-Instruction i)
inner-limited limit i = ap inner (out-roll-Instruction (with_limit limit (out-Instruction i))) ∙ inner-limit limit (out-Instruction i)

list_kept : (limit : WeightLimit) (l : Instruction-F Instruction) → HasList Instruction l → HasList Instruction (with_limit limit l)
list_kept limit (Instruction-F.BuyExecution fees most) h = h
list_kept limit _ h = h

lists_kept : (limit : WeightLimit) (i : Instruction) → AreLists i → AreLists (limited limit i)
lists_kept limit i h =
    let o = everywhere_open HasList HasList-IsOfLayer i h in
    everywhere_here HasList HasList-IsOfLayer (limited limit i) (subst (HasList Instruction) (sym (out-roll-Instruction (with_limit limit (out-Instruction i)))) (list_kept limit (out-Instruction i) o.0))
    (subst (AllInside AreLists) (sym (inner-limited limit i)) o.1)

same_some : (x y : Instruction) → Some x ≡ Some y → x ≡ y
same_some x y e = cc

lists_set : (p : List Instruction) (k : ℕ) (x y : Instruction) → slice_get p k ≡ Some x → (AreLists x → AreLists y) → AllByRecursion AreLists p → AllByRecursion AreLists (slice_set p k y)
lists_set [] k x y e h all = absurd cc
lists_set (z ∷ p) zero x y e h all = (h (subst AreLists (same_some z x e) all.0), all.1)
lists_set (z ∷ p) (suc k) x y e h all = (all.0, lists_set p k x y e h all.1)

lists_limit : (limit : WeightLimit) (k : ℕ) (p : List Instruction) (o : Option Instruction) → slice_get p k ≡ o → AllByRecursion AreLists p → AllByRecursion AreLists (option_map_or (λ i. slice_set p k (limited limit i)) o p)
lists_limit limit k p None e all = all
lists_limit limit k p (Some x) e all = lists_set p k x (limited limit x) e (lists_kept limit x) all

lists_left : (weight : Weight) (p : List Instruction) (barrier : Barrier) → AllByRecursion AreLists p → AllByRecursion AreLists (left_by weight p barrier)
lists_left weight p Credit all = all
lists_left weight p Paid all = lists_limit (Limited weight) (purchase_index p) p (slice_get p (purchase_index p)) refl all
lists_left weight p (Explicit origins) all = all
lists_left weight p (Unpaid origins) all = all
lists_left weight p Responses all = all

lists_decided : (weight : Weight) (p : List Instruction) (o : Option Barrier) → AllByRecursion AreLists p → AllByRecursion AreLists (decided weight p o).1
lists_decided weight p None all = all
lists_decided weight p (Some barrier) all = lists_left weight p barrier all

module _ (rules : ChainRules) (origin : Location) (credit : Weight) (queries : List OpenQuery) (p : List Instruction) (f : AllByRecursion AreLists p) where
  by_barriers_lists : (w : Weight) (b : Bool) (q : List Instruction) (a : Admitted) → AllByRecursion AreLists q → admitting.by_barriers w (b, q) ≡ Ok a → AllByRecursion AreLists a.program
  by_barriers_lists w true q a g e = let same : q ≡ a.program = cc in subst (AllByRecursion AreLists) same g
  by_barriers_lists w false q a g e = absurd cc

  by_limit_lists : (w : Weight) (b : Bool) (a : Admitted) → admitting.by_limit rules origin credit queries p w b ≡ Ok a → AllByRecursion AreLists a.program
  by_limit_lists w true a e =
      let found : Option Barrier = find (allows origin w credit queries p) rules.barriers in
      by_barriers_lists w (decided w p found).0 (decided w p found).1 a (lists_decided w p found f) e
  by_limit_lists w false a e = absurd cc

  by_weight_lists : (o : Option Weight) (a : Admitted) → admitting.by_weight rules origin credit queries p o ≡ Ok a → AllByRecursion AreLists a.program
  by_weight_lists None a e = absurd cc
  by_weight_lists (Some w) a e = by_limit_lists w (is_within w rules.limit) a e

  pub admitted_lists : (a : Admitted) → admitting.admitted rules origin credit queries p ≡ Ok a → AllByRecursion AreLists a.program
  admitted_lists a e = by_weight_lists (weight_of rules.weight p) a e
