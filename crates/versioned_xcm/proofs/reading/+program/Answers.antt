use Rattle.std.proofs.Common.{rules, ◌≡◌, ◌-◌, [], ◌∷◌, ◌++◌, set, ◌∙◌, arith}
use Rattle.std.proofs.lemmas.Result.{err_from_is_err_and}
use Rattle.std.proofs.lemmas.List.{set_at}
use Rattle.scale_codec.proofs.Lemmas.Loops.{begins, goes_on, fails, ends}
use Rattle.scale_codec.proofs.Lemmas.ReadLaws.{refuses_as}
use Rattle.versioned_xcm.specs.Programs.{program_at, instruction_step}
use Rattle.versioned_xcm.proofs.Lemmas.ProgramLaws.ProgramLaws.{program_at_none, program_at_fails, program_at_counts, one_less, none_left}
use Rattle.versioned_xcm.proofs.reading.+program.Goals as goal

pub take_to_depth-returns-then-depth-eq0 : goal.take_to_depth-returns-then-depth-eq0
take_to_depth-returns-then-depth-eq0 t c = program_at_none _ _ _ _ c.if-depth-eq0.true

pub take_to_depth-returns-in_err-count : goal.take_to_depth-returns-in_err-count
take_to_depth-returns-in_err-count t c =
    let p = err_from_is_err_and c.from_residual.result c.from_residual.ensures.1 in
    rw (p.1, p.2) (program_at_fails _ _ _ _ c.if-depth-eq0.false c.in_err-count.ensures.read.0)

pub take_to_depth-loop-init : goal.take_to_depth-loop-init
take_to_depth-loop-init t c = record {
  read = rw c.in_ok-items.ensures.items (begins (instruction_step c.args.v (program_at c.args.v (c.args.depth - 1))) c.in_ok-count.count (c.args.most, c.compact_u32.new.self)
      ∙ program_at_counts _ _ _ _ _ _ c.if-depth-eq0.false c.in_ok-count.ensures.read);
  filled = search rules;
  spare = search rules;
  room = search rules;
}

pub take_to_depth-returns-then-left-eq0 : goal.take_to_depth-returns-then-left-eq0
take_to_depth-returns-then-left-eq0 t c =
    fails (instruction_step c.args.v (program_at c.args.v (c.args.depth - 1))) c.loop.items.items c.in_ok-count.count c.loop.counter (c.loop.left, c.loop.c) _ c.loop-test.true (none_left c.args.v (program_at c.args.v (c.args.depth - 1)) c.loop.left c.loop.c c.if-left-eq0.true) c.loop.invariant.read

pub take_to_depth-returns-in_err-left : goal.take_to_depth-returns-in_err-left
take_to_depth-returns-in_err-left t c =
    let p = err_from_is_err_and c.from_residual-in_err-left.result c.from_residual-in_err-left.ensures.1 in
    rw (p.1, p.2) (refuses_as c.in_err-left.field-0.0 _ _ (λ none. fails (instruction_step c.args.v (program_at c.args.v (c.args.depth - 1))) c.loop.items.items c.in_ok-count.count c.loop.counter (c.loop.left, c.loop.c) _ c.loop-test.true none c.loop.invariant.read) c.in_err-left.ensures)

pub take_to_depth-loop-preserved : goal.take_to_depth-loop-preserved
take_to_depth-loop-preserved t c =
    let filled : set c.push_reserved.new.self.items c.len-last.result c.fill_instruction.new.slot ≡ c.loop.items.items ++ c.fill_instruction.new.slot ∷ [] =
    rw c.push_reserved.ensures.items (set_at c.loop.items.items _ [] c.fill_instruction.new.slot c.len-last.result (search rules)) in
    let fewer = one_less c.args.v (c.args.depth - 1) c.loop.left c.loop.c _ c.in_ok-left.ensures in
    rw filled (record {
      read = goes_on (instruction_step c.args.v (program_at c.args.v (c.args.depth - 1))) c.loop.items.items c.in_ok-count.count c.loop.counter (c.loop.left, c.loop.c) _ c.fill_instruction.new.slot _ c.loop-test.true c.in_ok-left.ensures c.loop.invariant.read;
      filled = omega (arith, c.push_reserved.ensures.len, c.loop.invariant.filled);
      spare = omega (arith, fewer, c.loop.invariant.spare);
      room = omega (arith, c.push_reserved.ensures.capacity, c.loop.invariant.room);
    })

pub take_to_depth-returns : goal.take_to_depth-returns
take_to_depth-returns t c =
    rw c.from_vec.ensures (ends (instruction_step c.args.v (program_at c.args.v (c.args.depth - 1))) c.loop.items.items c.in_ok-count.count c.loop.counter (c.loop.left, c.loop.c) _ c.loop-test.false c.loop.invariant.read)
