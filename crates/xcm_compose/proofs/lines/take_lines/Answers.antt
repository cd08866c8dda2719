use Rattle.std.proofs.Common.{◌≡◌, ◌∙◌, ◌+◌, ap, arith, Ok, None, drop}
use Rattle.std.proofs.lemmas.List.{take_rest}
use Rattle.xcm_compose.proofs.Flowing.{flows_start, flows_on, flows_ended, flows_gave_up, flows_stay}
use Rattle.xcm_compose.proofs.Steps.{some_reply}
use Rattle.xcm_compose.proofs.Cutting.{cut_at, take_there, line_size, moves}
use Rattle.xcm_compose.proofs.lines.take_lines.Goals as goal

pub loop-len-init : goal.loop-len-init
loop-len-init g c = record { flows = flows_start _ _; later = omega arith; ready = c.requires.ready; taken = omega arith; room = omega arith }

pub loop-len-preserved : goal.loop-len-preserved
loop-len-preserved g c =
    let is_none : c.take_line.result ≡ Ok None = c.in-Ok-None.is ∙ ap Ok c.in-Ok-None.field-0-is in
    let size = line_size c.args.bytes.now c.loop-len.at c.in-Some.len c.loop-len.invariant.room c.in-Some.ensures.bound in
    let cut = cut_at c.args.bytes.now c.loop-len.at c.in-Some.len _ _ (take_rest c.args.bytes.now c.loop-len.at) (take_there c.args.bytes.now c.loop-len.at c.in-Some.len) c.in-Some.ensures.line in
    record {
      flows = flows_on _ _ _ _ _ _ c.loop-len.invariant.flows c.take_line.result (moves c.loop-len.composer c.take_line.new.self (drop c.loop-len.at c.args.bytes.now) _ (drop (c.loop-len.at + c.in-Some.len) c.args.bytes.now) _ _ _ cut c.take_line.ensures.run) is_none;
      later = omega (arith, c.loop-len.invariant.later, c.take_line.ensures.cause.later);
      ready = c.take_line.ensures.ready is_none;
      taken = omega (arith, c.take_line.ensures.taken is_none, size.0, c.loop-len.invariant.taken);
      room = size.1;
    }

pub returns-in-Ok-Some-clause-run : goal.returns-in-Ok-Some-clause-run
returns-in-Ok-Some-clause-run g c =
    let cut = cut_at c.args.bytes.now c.loop-len.at c.in-Some.len _ _ (take_rest c.args.bytes.now c.loop-len.at) (take_there c.args.bytes.now c.loop-len.at c.in-Some.len) c.in-Some.ensures.line in
    flows_ended _ _ _ _ _ _ c.loop-len.invariant.flows c.take_line.result c.in-Ok-Some.status _
    (moves c.loop-len.composer c.take_line.new.self (drop c.loop-len.at c.args.bytes.now) _ (drop (c.loop-len.at + c.in-Some.len) c.args.bytes.now) _ _ _ cut c.take_line.ensures.run) (c.in-Ok-Some.is ∙ ap Ok c.in-Ok-Some.field-0-is)

pub returns-in-Err-clause-run : goal.returns-in-Err-clause-run
returns-in-Err-clause-run g c =
    let cut = cut_at c.args.bytes.now c.loop-len.at c.in-Some.len _ _ (take_rest c.args.bytes.now c.loop-len.at) (take_there c.args.bytes.now c.loop-len.at c.in-Some.len) c.in-Some.ensures.line in
    flows_gave_up _ _ _ _ _ _ c.loop-len.invariant.flows c.take_line.result c.in-Err.refused _
    (moves c.loop-len.composer c.take_line.new.self (drop c.loop-len.at c.args.bytes.now) _ (drop (c.loop-len.at + c.in-Some.len) c.args.bytes.now) _ _ _ cut c.take_line.ensures.run)

pub returns-clause-run : goal.returns-clause-run
returns-clause-run g c = flows_stay _ _ _ _ c.loop-len.invariant.flows (λ more. some_reply _ _ _)
