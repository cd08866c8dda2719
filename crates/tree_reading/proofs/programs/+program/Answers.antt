use Rattle.std.proofs.Common.{◌≡◌, ◌∙◌, ℕ, ◌+◌, ◌-◌, ◌++◌, length, refl, sym, ap, subst, append_assoc, arith}
use Rattle.std.specs.Prelude.{codes}
use Rattle.std.proofs.lemmas.Result.{err_from_is_err_and}
use Rattle.scale_codec.specs.Spelling.{compact}
use Rattle.xcm_program.specs.declared.instruction.Instruction.{out-Instruction}
use Rattle.xcm_program.specs.Measure.{inner_of}
use Rattle.message_text.specs.Messages.{program_text}
use Rattle.tree_reading.specs.Rows.{IsWords}
use Rattle.tree_reading.proofs.HeadFields.{name_words}
use Rattle.tree_reading.proofs.Following.{outside_more}
use Rattle.tree_reading.proofs.ProgramRows.{head_of, inside_of, some_counted, after_fields, rows_of, outside_after, none_inside, some_inside, counted_by, took_plain, inside_rows, took_nested, few_inside, low_inside, instructions_of, spellings, counted_spelling, Waits, next, done}
use Rattle.tree_reading.proofs.programs.+program.Goals as goal

xcm_named : IsWords (codes "xcm")
xcm_named = name_words (codes "xcm") (refl, refl)

pub put_instruction-returns-then-left-eq0-clause-reads : goal.put_instruction-returns-then-left-eq0-clause-reads
put_instruction-returns-then-left-eq0-clause-reads t c = λ i rest has few low outside e. absurd (some_counted i (omega (arith, few, c.if-left-eq0.true)))

pub put_instruction-returns-in_err-nests-clause-reads : goal.put_instruction-returns-in_err-nests-clause-reads
put_instruction-returns-in_err-nests-clause-reads t c = λ i rest has few low outside e.
    let level = c.args.level in
    let p = err_from_is_err_and c.from_residual.result c.from_residual.ensures.1 in
    rw (p.1, p.2) (c.in_err-nests.ensures.reads (out-Instruction i) (after_fields (inner_of i) level rest) (head_of c.args.form.version i has) (outside_after (inner_of i) level rest outside) (e ∙ rows_of i level rest))

pub put_instruction-returns-then-not-nests-clause-reads : goal.put_instruction-returns-then-not-nests-clause-reads
put_instruction-returns-then-not-nests-clause-reads t c = λ i rest has few low outside e.
    let level = c.args.level in
    let v = c.args.form.version in
    let h = c.in_ok-nests.ensures.reads (out-Instruction i) (after_fields (inner_of i) level rest) (head_of v i has) (outside_after (inner_of i) level rest outside) (e ∙ rows_of i level rest) in
    let is = none_inside (inner_of i) c.in_ok-nests.nests h.0 c.if-not-nests.true in
    took_plain v i level rest c.put_head.new.rows.rest.now c.args.out.now c.put_head.new.out c.args.left.now (c.args.left.now - 1) is h.1 h.2 (omega (arith, few, counted_by i _ is))

pub put_instruction-returns-in_err-take_name-clause-reads : goal.put_instruction-returns-in_err-take_name-clause-reads
put_instruction-returns-in_err-take_name-clause-reads t c = λ i rest has few low outside e.
    let level = c.args.level in
    let v = c.args.form.version in
    let h = c.in_ok-nests.ensures.reads (out-Instruction i) (after_fields (inner_of i) level rest) (head_of v i has) (outside_after (inner_of i) level rest outside) (e ∙ rows_of i level rest) in
    let s = some_inside (inner_of i) c.in_ok-nests.nests h.0 c.if-not-nests.false in
    absurd (c.in_err-take_name.ensures.reads (program_text (level + 2) s.0 ++ rest) xcm_named (inside_rows i s.0 level rest c.put_head.new.rows.rest.now s.1 h.1))

pub put_instruction-returns-clause-reads : goal.put_instruction-returns-clause-reads
put_instruction-returns-clause-reads t c = λ i rest has few low outside e.
    let level = c.args.level in
    let v = c.args.form.version in
    let left = c.args.left.now in
    let h = c.in_ok-nests.ensures.reads (out-Instruction i) (after_fields (inner_of i) level rest) (head_of v i has) (outside_after (inner_of i) level rest outside) (e ∙ rows_of i level rest) in
    let s = some_inside (inner_of i) c.in_ok-nests.nests h.0 c.if-not-nests.false in
    let p = s.0 in
    let n = c.in_ok-take_name.ensures.reads (program_text (level + 2) p ++ rest) xcm_named (inside_rows i p level rest c.put_head.new.rows.rest.now s.1 h.1) in
    let less : left - 1 + 1 ≡ left = omega (arith, few, counted_by i _ s.1) in
    let tree = inside_of v i p s.1 has in
    let few_more = few_inside i p left (left - 1) s.1 few less in
    let low_more = low_inside i p c.args.levels s.1 low in
    let outside_more = outside_more (level + 1) (level + 2) rest outside (omega arith) in
    took_nested v i p rest c.put_program.result c.put_program.new.rows.rest.now c.args.out.now c.put_head.new.out c.put_program.new.out left (left - 1) c.put_program.new.left s.1 h.2 less
    (c.put_program.ensures.reads p rest tree few_more low_more outside_more n)
    (c.put_program.ensures.counts p rest tree few_more low_more outside_more n)

pub put_instructions-loop-form-preserved : goal.put_instructions-loop-form-preserved
put_instructions-loop-form-preserved t c = record {
  shorter = omega (arith, c.loop-form.invariant.shorter, c.in-Ok.ensures.shorter);
  waits = λ program rest are long few low outside e.
      let v = c.args.form.version in
      let w = c.loop-form.invariant.waits program rest are long few low outside e in
      let n = next v c.args.level c.args.levels program rest c.loop-form.rows.rest.now c.args.out.now c.loop-form.out c.args.left.now c.loop-form.left c.loop-form.count w c.has_row.result c.has_row.ensures.ended c.loop-form-test.true outside in
      let took = c.in-Ok.ensures.reads n.instruction n.after n.has n.few n.low n.outside n.is in
      let more : c.loop-form.count + 1 ≡ c.saturating_add-count.result = omega (arith, w.count_is, long, c.saturating_add-count.ensures) in
      subst (λ (k : ℕ). Waits v c.args.level c.args.levels program rest c.put_instruction.new.rows.rest.now c.args.out.now c.put_instruction.new.out c.args.left.now c.put_instruction.new.left k) more
      (n.goes_on c.put_instruction.new.rows.rest.now c.put_instruction.new.out c.put_instruction.new.left took.0 took.1 took.2);
}

pub put_instructions-returns-in-Err-clause-reads : goal.put_instructions-returns-in-Err-clause-reads
put_instructions-returns-in-Err-clause-reads t c = λ program rest are long few low outside e.
    let w = c.loop-form.invariant.waits program rest are long few low outside e in
    let n = next c.args.form.version c.args.level c.args.levels program rest c.loop-form.rows.rest.now c.args.out.now c.loop-form.out c.args.left.now c.loop-form.left c.loop-form.count w c.has_row.result c.has_row.ensures.ended c.loop-form-test.true outside in
    c.in-Err.ensures.reads n.instruction n.after n.has n.few n.low n.outside n.is

pub put_instructions-returns-clause-reads : goal.put_instructions-returns-clause-reads
put_instructions-returns-clause-reads t c = λ program rest are long few low outside e.
    let w = c.loop-form.invariant.waits program rest are long few low outside e in
    done c.args.form.version c.args.level c.args.levels program rest c.loop-form.rows.rest.now c.args.out.now c.loop-form.out c.args.left.now c.loop-form.left c.loop-form.count w c.has_row.result c.has_row.ensures.found c.loop-form-test.false

pub put_program-returns-in_err-count-clause-reads : goal.put_program-returns-in_err-count-clause-reads
put_program-returns-in_err-count-clause-reads t c = λ program rest has few low outside e.
    let p = err_from_is_err_and c.from_residual.result c.from_residual.ensures.1 in
    rw (p.1, p.2) (c.in_err-count.ensures.reads program rest (instructions_of c.args.form.version program has) has.fits.0 few (omega (arith, low)) outside e)

pub put_program-returns-clause-reads : goal.put_program-returns-clause-reads
put_program-returns-clause-reads t c = λ program rest has few low outside e.
    let v = c.args.form.version in
    let old = c.args.out.now in
    let took = c.in_ok-count.ensures.reads program rest (instructions_of v program has) has.fits.0 few (omega (arith, low)) outside e in
    let inside : c.bytes.result.now ≡ spellings v program = c.bytes.ensures ∙ took.2 ∙ ap (λ t. t ++ spellings v program) c.new-instructions.ensures in
    let count : c.from.result ≡ length program = c.from.ensures ∙ took.0 in
    let counted : c.put_compact.new.self ≡ old ++ compact (length program) = c.in_ok-put_compact.ensures.ok ∙ ap (λ (n : ℕ). old ++ compact n) count in (
      took.1,
      c.in_ok-put_bytes.ensures.ok ∙ ap (λ t. c.put_compact.new.self ++ t) inside ∙ ap (λ t. t ++ spellings v program) counted ∙ append_assoc old (compact (length program)) (spellings v program)
          ∙ ap (λ t. old ++ t) (sym (counted_spelling v program)),
    )

pub put_program-returns-clause-counts : goal.put_program-returns-clause-counts
put_program-returns-clause-counts t c = λ program rest has few low outside e.
    let took = c.in_ok-count.ensures.reads program rest (instructions_of c.args.form.version program has) has.fits.0 few (omega (arith, low)) outside e in
    took.3
