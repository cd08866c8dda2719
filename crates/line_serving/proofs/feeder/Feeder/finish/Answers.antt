use Rattle.std.proofs.Common.{◌≡◌, ◌∙◌, ◌<◌, ap, arith, length, Ok}
use Rattle.std.proofs.lemmas.Bool.Decides.{nat_tests}
use Rattle.input_lines.proofs.Lemmas.{only_line}
use Rattle.line_serving.proofs.Flowing.{ends_empty, ends_behind, ends_in, ends_err}
use Rattle.line_serving.proofs.feeder.Feeder.finish.Goals as goal

pub returns-then-is_empty-clause-run : goal.returns-then-is_empty-clause-run
returns-then-is_empty-clause-run g c =
    let size : length c.args.self.now.pending.items ≡ 0 = grind (arith, nat_tests, c.args.self.now.pending.ok) in
    ends_empty _ _ _ _ _ size (g.met.M.LineMachine.nothing_yet _ c.requires.fed.ready) c.finish.ensures.run

pub returns-in-Ok-None-clause-run : goal.returns-in-Ok-None-clause-run
returns-in-Ok-None-clause-run g c =
    let some : 0 < length c.args.self.now.pending.items = grind (arith, nat_tests, c.args.self.now.pending.ok) in
    let taken = c.in-Ok-None.is ∙ ap Ok c.in-Ok-None.field-0-is in
    ends_behind (g.M.LineMachine.replies c.args.self.now.machine) (g.M.LineMachine.replies c.take_line.new.self) _ _ _ (only_line _ some c.requires.fed.unended) (g.met.M.LineMachine.nothing_yet _ c.requires.fed.ready) _ _ c.take_line.result _ taken
    (g.met.M.LineMachine.nothing_yet _ (c.take_line.ensures.ready taken)) (rw c.deref.ensures.value at c.take_line.ensures.run) c.finish-in-Ok-None.ensures.run

pub returns-in-Ok-Some-clause-run : goal.returns-in-Ok-Some-clause-run
returns-in-Ok-Some-clause-run g c =
    let some : 0 < length c.args.self.now.pending.items = grind (arith, nat_tests, c.args.self.now.pending.ok) in
    ends_in (g.M.LineMachine.replies c.args.self.now.machine) (g.M.LineMachine.replies c.take_line.new.self) _ _ _ (only_line _ some c.requires.fed.unended) (g.met.M.LineMachine.nothing_yet _ c.requires.fed.ready) c.take_line.result _
    (c.in-Ok-Some.is ∙ ap Ok c.in-Ok-Some.field-0-is) c.take_line.ensures.cause.no_read (rw c.deref.ensures.value at c.take_line.ensures.run)

pub returns-in-Err-clause-run : goal.returns-in-Err-clause-run
returns-in-Err-clause-run g c =
    let some : 0 < length c.args.self.now.pending.items = grind (arith, nat_tests, c.args.self.now.pending.ok) in
    ends_err (g.M.LineMachine.replies c.args.self.now.machine) (g.M.LineMachine.replies c.take_line.new.self) _ _ _ (only_line _ some c.requires.fed.unended) (g.met.M.LineMachine.nothing_yet _ c.requires.fed.ready) c.take_line.result _ _
    (rw c.deref.ensures.value at c.take_line.ensures.run)
