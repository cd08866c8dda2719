use Rattle.std.proofs.Common.{Some, None, arith, ap, sym, subst}
use Rattle.weight_trader.specs.declared.weighing.Sums.{Sums}
use Rattle.xcm_program.specs.Measure.{deep_count}
use Rattle.weight_trader.proofs.Kept.{IsSumInside, Inside, inside_some, inside_none, count-kept, sum_fits, sum_more}
use Rattle.weight_trader.proofs.weighing.+sum_up.Goals as goal
use Rattle.weight_trader.proofs.weighing.+sum_up.Goals.{in-Some, in-None}

pub sum_up-inside-requires : goal.sum_up-inside-requires
sum_up-inside-requires t c =
    let n = count-kept _ _ _ (Some c.in-Some.xcm.now) c.loop-instruction-test.true c.instruction-item.is (rw c.in-Some.is at c.kept.ensures) in
    let e = c.loop-instruction.invariant.few in
    let s = ap deep_count c.items.ensures in
    (omega (arith, n, e, s), omega (arith, n, e, s))

pub plus-sums-requires : goal.plus-sums-requires
plus-sums-requires t c =
    let inside : Inside c.args.unit c.instruction-item.result c.match-kept.inside.instructions c.match-kept.inside.ref_time c.match-kept.inside.proof_size =
    elim c.match-kept.branch [
      | in-Some w ↦ (
        Some w.in-Some.xcm.now,
        rw w.in-Some.is at c.kept.ensures,
        subst (λ (s : Sums). IsSumInside c.args.unit (Some w.in-Some.xcm.now) s.instructions s.ref_time s.proof_size) (sym w.inside-is) (inside_some _ _ _ _ _ _ w.items.ensures w.sum_up-inside.ensures),
      )
      | in-None w ↦ (
        None,
        rw w.in-None.is at c.kept.ensures,
        subst (λ (s : Sums). IsSumInside c.args.unit None s.instructions s.ref_time s.proof_size) (sym w.inside-is) (inside_none c.args.unit),
      )
    ] in
    let fit = sum_fits _ _ _ c.loop-instruction.instruction-index _ _ _ _ _ _ _ c.loop-instruction-test.true c.instruction-item.is c.requires c.loop-instruction.invariant inside in
    record { few = fit.0; short = fit.1; small = fit.2 }

pub loop-instruction-preserved : goal.loop-instruction-preserved
loop-instruction-preserved t c =
    let inside : Inside c.args.unit c.instruction-item.result c.match-kept.inside.instructions c.match-kept.inside.ref_time c.match-kept.inside.proof_size =
    elim c.match-kept.branch [
      | in-Some w ↦ (
        Some w.in-Some.xcm.now,
        rw w.in-Some.is at c.kept.ensures,
        subst (λ (s : Sums). IsSumInside c.args.unit (Some w.in-Some.xcm.now) s.instructions s.ref_time s.proof_size) (sym w.inside-is) (inside_some _ _ _ _ _ _ w.items.ensures w.sum_up-inside.ensures),
      )
      | in-None w ↦ (
        None,
        rw w.in-None.is at c.kept.ensures,
        subst (λ (s : Sums). IsSumInside c.args.unit None s.instructions s.ref_time s.proof_size) (sym w.inside-is) (inside_none c.args.unit),
      )
    ] in
    sum_more _ _ _ c.loop-instruction.instruction-index _ _ _ _ inside.0 c.required.result _ _ _ _ _ _
    c.loop-instruction-test.true c.instruction-item.is inside.1 c.required.ensures
    (omega arith) (omega arith) (omega arith) (omega arith)
    c.loop-instruction.invariant inside.2 c.plus-sums.ensures.instructions c.plus-sums.ensures.ref_time c.plus-sums.ensures.proof_size
