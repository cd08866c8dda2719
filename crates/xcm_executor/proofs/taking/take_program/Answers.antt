use Rattle.std.proofs.Common.{◌+◌, ◌-◌, ◌<◌, ◌^◌, List, length, length-set, take, sym, ap, ◌∙◌, arith, rules, subst, refl}
use Rattle.std.specs.Prelude.{slice_set}
use Rattle.std.proofs.lemmas.Result.{err_from_is_err_and}
use Rattle.weight_trader.specs.Sums.{weight_sum}
use Rattle.xcm_program.specs.declared.instruction.Instruction.{Instruction}
use Rattle.xcm_program.specs.Measure.{deep_count}
use Rattle.xcm_program.specs.Weights.{ref_time_of, proof_size_of}
use Rattle.exec_rules.specs.Machine.{machine}
use Rattle.xcm_executor.proofs.Standing.{accounted, place_fits, stands_init, stands_ready, stands_more, stands_stopped, failed_weighable, failed_short, failed_small, failed_goes_on, began_more, failed_began, ended_goes_on, ended_short, ended_small}
use Rattle.xcm_executor.proofs.Taken.{at_hand, behind_stays, rest_of, none_left}
use Rattle.xcm_executor.proofs.taking.take_program.Goals as goal

pub loop-place-init : goal.loop-place-init
loop-place-init g c =
    record { stands = stands_init _ _ _ _ c.into_vec-instructions.ensures c.requires.some; began = λ h. absurd (omega (arith, h)); whole = ap length c.into_vec-instructions.ensures }

pub overflow_cast-at : goal.overflow_cast-at
overflow_cast-at g c =
    let n = ap length c.into_vec-instructions.ensures in
    let few : c.loop-place.place < 4294967296 = place_fits c.loop-place.place c.args.program c.args.r.now c.requires.runnable.accounted (omega (arith, c.loop-place-test.true, c.len-place-end.ensures, n)) in
    search (rules, few)

pub take-requires : goal.take-requires
take-requires g c =
    let n = ap length c.into_vec-instructions.ensures in
    let here = at_hand c.loop-place.instructions.items c.loop-place.place c.index_mut.result.now (omega (arith, c.loop-place-test.true, c.len-place-end.ensures, n, c.loop-place.invariant.whole)) c.index_mut.ensures.value in
    record { ready = stands_ready _ _ _ _ _ _ _ c.loop-place.invariant.stands here c.requires.runnable.ready }

pub returns-in_err-error-clause-err : goal.returns-in_err-error-clause-err
returns-in_err-error-clause-err g c =
    let n = ap length c.into_vec-instructions.ensures in
    let here = at_hand c.loop-place.instructions.items c.loop-place.place c.index_mut.result.now (omega (arith, c.loop-place-test.true, c.len-place-end.ensures, n, c.loop-place.invariant.whole)) c.index_mut.ensures.value in
    let p = err_from_is_err_and c.from_residual.result c.from_residual.ensures.1 in
    rw p.1 (stands_stopped _ _ _ _ _ _ _ c.loop-place.invariant.stands here _ c.in_err-error.ensures.err)

pub weigh_rest-unused-requires-clause-few : goal.weigh_rest-unused-requires-clause-few
weigh_rest-unused-requires-clause-few g c =
    let n = ap length c.into_vec-instructions.ensures in
    let here = at_hand c.loop-place.instructions.items c.loop-place.place c.index_mut.result.now (omega (arith, c.loop-place-test.true, c.len-place-end.ensures, n, c.loop-place.invariant.whole)) c.index_mut.ensures.value in
    let rest = rest_of c.deref.result.now (c.loop-place.place + 1) ∙ behind_stays c.loop-place.instructions.items c.deref.result.now c.loop-place.place c.take.new.instruction c.deref.ensures.value in
    let w = failed_weighable _ _ _ _ _ _ _ c.loop-place.invariant.stands here _ _ _ c.in-Some.is c.in_ok-error.ensures.ok c.law_of_orderly_instructions.ensures.steers _
    (accounted c.args.part c.args.program (machine c.args.r.now (g.H.Host.part c.args.h.now)) c.requires.runnable.accounted) in
    subst (λ (q : List Instruction). deep_count q < 2 ^ 32) (sym rest) w.few

pub weigh_rest-unused-requires-clause-short : goal.weigh_rest-unused-requires-clause-short
weigh_rest-unused-requires-clause-short g c =
    let n = ap length c.into_vec-instructions.ensures in
    let here = at_hand c.loop-place.instructions.items c.loop-place.place c.index_mut.result.now (omega (arith, c.loop-place-test.true, c.len-place-end.ensures, n, c.loop-place.invariant.whole)) c.index_mut.ensures.value in
    let rest = rest_of c.deref.result.now (c.loop-place.place + 1) ∙ behind_stays c.loop-place.instructions.items c.deref.result.now c.loop-place.place c.take.new.instruction c.deref.ensures.value in
    let w = failed_weighable _ _ _ _ _ _ _ c.loop-place.invariant.stands here _ _ _ c.in-Some.is c.in_ok-error.ensures.ok c.law_of_orderly_instructions.ensures.steers _
    (accounted c.args.part c.args.program (machine c.args.r.now (g.H.Host.part c.args.h.now)) c.requires.runnable.accounted) in
    subst (λ (q : List Instruction). ref_time_of c.take.new.r.rule q < 2 ^ 64) (sym rest) w.short

pub weigh_rest-unused-requires-clause-small : goal.weigh_rest-unused-requires-clause-small
weigh_rest-unused-requires-clause-small g c =
    let n = ap length c.into_vec-instructions.ensures in
    let here = at_hand c.loop-place.instructions.items c.loop-place.place c.index_mut.result.now (omega (arith, c.loop-place-test.true, c.len-place-end.ensures, n, c.loop-place.invariant.whole)) c.index_mut.ensures.value in
    let rest = rest_of c.deref.result.now (c.loop-place.place + 1) ∙ behind_stays c.loop-place.instructions.items c.deref.result.now c.loop-place.place c.take.new.instruction c.deref.ensures.value in
    let w = failed_weighable _ _ _ _ _ _ _ c.loop-place.invariant.stands here _ _ _ c.in-Some.is c.in_ok-error.ensures.ok c.law_of_orderly_instructions.ensures.steers _
    (accounted c.args.part c.args.program (machine c.args.r.now (g.H.Host.part c.args.h.now)) c.requires.runnable.accounted) in
    subst (λ (q : List Instruction). proof_size_of c.take.new.r.rule q < 2 ^ 64) (sym rest) w.small

pub fail-next_part-requires-clause-short : goal.fail-next_part-requires-clause-short
fail-next_part-requires-clause-short g c =
    let n = ap length c.into_vec-instructions.ensures in
    let here = at_hand c.loop-place.instructions.items c.loop-place.place c.index_mut.result.now (omega (arith, c.loop-place-test.true, c.len-place-end.ensures, n, c.loop-place.invariant.whole)) c.index_mut.ensures.value in
    let rest = rest_of c.deref.result.now (c.loop-place.place + 1) ∙ behind_stays c.loop-place.instructions.items c.deref.result.now c.loop-place.place c.take.new.instruction c.deref.ensures.value in
    failed_short _ _ _ _ _ _ _ c.loop-place.invariant.stands here _ _ _ c.in-Some.is c.in_ok-error.ensures.ok c.law_of_orderly_instructions.ensures.steers _
    (accounted c.args.part c.args.program (machine c.args.r.now (g.H.Host.part c.args.h.now)) c.requires.runnable.accounted) _ (c.weigh_rest-unused.ensures ∙ ap (weight_sum c.take.new.r.rule) rest)

pub fail-next_part-requires-clause-small : goal.fail-next_part-requires-clause-small
fail-next_part-requires-clause-small g c =
    let n = ap length c.into_vec-instructions.ensures in
    let here = at_hand c.loop-place.instructions.items c.loop-place.place c.index_mut.result.now (omega (arith, c.loop-place-test.true, c.len-place-end.ensures, n, c.loop-place.invariant.whole)) c.index_mut.ensures.value in
    let rest = rest_of c.deref.result.now (c.loop-place.place + 1) ∙ behind_stays c.loop-place.instructions.items c.deref.result.now c.loop-place.place c.take.new.instruction c.deref.ensures.value in
    failed_small _ _ _ _ _ _ _ c.loop-place.invariant.stands here _ _ _ c.in-Some.is c.in_ok-error.ensures.ok c.law_of_orderly_instructions.ensures.steers _
    (accounted c.args.part c.args.program (machine c.args.r.now (g.H.Host.part c.args.h.now)) c.requires.runnable.accounted) _ (c.weigh_rest-unused.ensures ∙ ap (weight_sum c.take.new.r.rule) rest)

pub returns-in-Some-clause-ok : goal.returns-in-Some-clause-ok
returns-in-Some-clause-ok g c =
    let n = ap length c.into_vec-instructions.ensures in
    let here = at_hand c.loop-place.instructions.items c.loop-place.place c.index_mut.result.now (omega (arith, c.loop-place-test.true, c.len-place-end.ensures, n, c.loop-place.invariant.whole)) c.index_mut.ensures.value in
    let rest = rest_of c.deref.result.now (c.loop-place.place + 1) ∙ behind_stays c.loop-place.instructions.items c.deref.result.now c.loop-place.place c.take.new.instruction c.deref.ensures.value in
    failed_goes_on _ _ _ _ _ _ _ c.loop-place.invariant.stands here _ _ _ c.in-Some.is c.in_ok-error.ensures.ok _ (c.weigh_rest-unused.ensures ∙ ap (weight_sum c.take.new.r.rule) rest) _ _ _ c.fail-next_part.ensures

pub returns-in-Some-clause-began : goal.returns-in-Some-clause-began
returns-in-Some-clause-began g c =
    let n = ap length c.into_vec-instructions.ensures in
    let here = at_hand c.loop-place.instructions.items c.loop-place.place c.index_mut.result.now (omega (arith, c.loop-place-test.true, c.len-place-end.ensures, n, c.loop-place.invariant.whole)) c.index_mut.ensures.value in
    failed_began _ _ _ _ _ _ here _ _ c.requires.some c.loop-place.invariant.stands c.loop-place.invariant.began _ _ _ c.in-Some.is c.in_ok-error.ensures.ok

pub loop-place-preserved : goal.loop-place-preserved
loop-place-preserved g c =
    let n = ap length c.into_vec-instructions.ensures in
    let items = c.loop-place.instructions.items in
    let here = at_hand items c.loop-place.place c.index_mut.result.now (omega (arith, c.loop-place-test.true, c.len-place-end.ensures, n, c.loop-place.invariant.whole)) c.index_mut.ensures.value in
    let stay = behind_stays items (slice_set items c.loop-place.place c.take.new.instruction) c.loop-place.place c.take.new.instruction refl in
    record {
      stands = rw stay (stands_more _ _ _ _ _ _ _ c.loop-place.invariant.stands here _ _ c.in_default.is c.in_ok-error.ensures.ok);
      began = λ h. began_more _ _ _ _ _ _ here _ _ c.requires.some c.loop-place.invariant.stands c.loop-place.invariant.began _ _ c.in_default.is c.in_ok-error.ensures.ok;
      whole = length-set items c.loop-place.place c.take.new.instruction ∙ c.loop-place.invariant.whole;
    }

pub succeed-next_part-requires-clause-short : goal.succeed-next_part-requires-clause-short
succeed-next_part-requires-clause-short g c =
    let n = ap length c.into_vec-instructions.ensures in
    let none = none_left c.loop-place.instructions.items c.loop-place.place (omega (arith, c.loop-place-test.false, c.len-place-end.ensures, n, c.loop-place.invariant.whole)) in
    ended_short _ _ _ _ _ c.loop-place.invariant.stands none c.law_of_orderly_instructions.ensures.steers _
    (accounted c.args.part c.args.program (machine c.args.r.now (g.H.Host.part c.args.h.now)) c.requires.runnable.accounted)

pub succeed-next_part-requires-clause-small : goal.succeed-next_part-requires-clause-small
succeed-next_part-requires-clause-small g c =
    let n = ap length c.into_vec-instructions.ensures in
    let none = none_left c.loop-place.instructions.items c.loop-place.place (omega (arith, c.loop-place-test.false, c.len-place-end.ensures, n, c.loop-place.invariant.whole)) in
    ended_small _ _ _ _ _ c.loop-place.invariant.stands none c.law_of_orderly_instructions.ensures.steers _
    (accounted c.args.part c.args.program (machine c.args.r.now (g.H.Host.part c.args.h.now)) c.requires.runnable.accounted)

pub returns-clause-ok : goal.returns-clause-ok
returns-clause-ok g c =
    let n = ap length c.into_vec-instructions.ensures in
    let none = none_left c.loop-place.instructions.items c.loop-place.place (omega (arith, c.loop-place-test.false, c.len-place-end.ensures, n, c.loop-place.invariant.whole)) in
    ended_goes_on _ _ _ _ _ c.loop-place.invariant.stands none (omega (arith, c.loop-place-test.false, c.len-place-end.ensures, n, c.requires.some)) _ _ _ c.succeed-next_part.ensures

pub returns-clause-began : goal.returns-clause-began
returns-clause-began g c =
    let n = ap length c.into_vec-instructions.ensures in
    sym (c.loop-place.invariant.began (omega (arith, c.loop-place-test.false, c.len-place-end.ensures, n, c.requires.some)))
