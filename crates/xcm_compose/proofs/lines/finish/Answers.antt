use Rattle.std.proofs.Common.{◌≡◌, ◌∙◌, ◌<◌, ap, arith, length, Ok}
use Rattle.std.proofs.lemmas.Bool.Decides.{nat_tests}
use Rattle.input_lines.proofs.Lemmas.{no_lines, only_line}
use Rattle.xcm_compose.proofs.Cutting.{last_taken, last_ended, last_refused}
use Rattle.xcm_compose.proofs.lines.finish.Goals as goal

pub returns-then-is_empty-clause-run : goal.returns-then-is_empty-clause-run
returns-then-is_empty-clause-run g c =
    let size : length c.args.pending.now.items ≡ 0 = grind (arith, nat_tests, c.args.pending.now.ok) in
    rw (no_lines c.args.pending.now.items size) c.finish.ensures.run

pub returns-in-Ok-None-clause-run : goal.returns-in-Ok-None-clause-run
returns-in-Ok-None-clause-run g c =
    let some : 0 < length c.args.pending.now.items = grind (arith, nat_tests, c.args.pending.now.ok) in
    last_taken c.args.composer.now c.take_line.new.self c.args.pending.now.items _ _ _ c.take_line.result _ (only_line _ some c.requires.open) (c.in-Ok-None.is ∙ ap Ok c.in-Ok-None.field-0-is) (rw c.as_slice.ensures.value at c.take_line.ensures.run) c.finish-in-Ok-None.ensures.run

pub returns-in-Ok-Some-clause-run : goal.returns-in-Ok-Some-clause-run
returns-in-Ok-Some-clause-run g c =
    let some : 0 < length c.args.pending.now.items = grind (arith, nat_tests, c.args.pending.now.ok) in
    last_ended c.args.composer.now c.take_line.new.self c.args.pending.now.items _ _ c.take_line.result _ (only_line _ some c.requires.open) (c.in-Ok-Some.is ∙ ap Ok c.in-Ok-Some.field-0-is) (rw c.as_slice.ensures.value at c.take_line.ensures.run)

pub returns-in-Err-clause-run : goal.returns-in-Err-clause-run
returns-in-Err-clause-run g c =
    let some : 0 < length c.args.pending.now.items = grind (arith, nat_tests, c.args.pending.now.ok) in
    last_refused c.args.composer.now c.take_line.new.self c.args.pending.now.items _ _ c.take_line.result _ (only_line _ some c.requires.open) (rw c.as_slice.ensures.value at c.take_line.ensures.run)
