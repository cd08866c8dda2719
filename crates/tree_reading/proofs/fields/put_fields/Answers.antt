use Rattle.std.proofs.Common.{ℕ, ◌+◌, ◌<◌, List, [], length, drop, get_or, subst, arith}
use Rattle.std.specs.Borrow.{Bor}
use Rattle.std.proofs.lemmas.Result.{err_from_is_err_and}
use Rattle.operands.specs.declared.version.Version.{Version}
use Rattle.tree_reading.specs.declared.kinds.Words.TheVariants as words
use Rattle.tree_reading.specs.declared.table.Kind.{Kind}
use Rattle.tree_reading.specs.declared.table.Kind.TheVariants as kinds
use Rattle.tree_reading.specs.Rows.{IsOutside}
use Rattle.tree_reading.proofs.FieldSteps.{FieldsLeft, FieldNext, field_next, fields_from, fields_done, fields_out}
use Rattle.tree_reading.proofs.fields.put_fields.Goals as goal

abbrev Fields : Type 0
Fields = List (Bor (List ℕ) × Kind)

-- what stands where no field does
abbrev none : Bor (List ℕ) × Kind
none = (record { ref_ptr = (0, 0); now = [] }, kinds.Row words.Asset)

next : (v : Version) (level : ℕ) (fields : Fields) (k : ℕ) (rest rows old out said : List ℕ) → k < length fields → FieldsLeft v level (drop k fields) rest rows old out said → IsOutside (level + 1) rest
    → FieldNext v level (get_or fields k none) (drop (k + 1) fields) rest rows old out said
next v level fields k rest rows old out said lt l outside =
    field_next v level (get_or fields k none) (drop (k + 1) fields) rest rows old out said (subst (λ (fs : Fields). FieldsLeft v level fs rest rows old out said) (fields_from fields k none lt) l) outside

pub returns-in_err-put_field-clause-reads : goal.returns-in_err-put_field-clause-reads
returns-in_err-put_field-clause-reads c = λ text said rest says outside e.
    let l = c.loop-field.invariant.remains text said rest says outside e in
    let n = next c.args.form.version c.args.level c.args.fields.now c.loop-field.field-index rest c.loop-field.rows.rest.now c.args.out.now c.loop-field.out said (omega (arith, c.loop-field-test.true)) l outside in
    let p = err_from_is_err_and c.from_residual.result c.from_residual.ensures.1 in
    rw (p.1, p.2) (c.in_err-put_field.ensures.reads n.first n.first_said n.after n.says n.outside n.is)

pub loop-field-preserved : goal.loop-field-preserved
loop-field-preserved c = record {
  shorter = omega (arith, c.loop-field.invariant.shorter, c.in_ok-put_field.ensures.shorter);
  remains = λ text said rest says outside e.
      let l = c.loop-field.invariant.remains text said rest says outside e in
      let n = next c.args.form.version c.args.level c.args.fields.now c.loop-field.field-index rest c.loop-field.rows.rest.now c.args.out.now c.loop-field.out said (omega (arith, c.loop-field-test.true)) l outside in
      let t = c.in_ok-put_field.ensures.reads n.first n.first_said n.after n.says n.outside n.is in
      n.goes_on c.put_field.new.rows.rest.now c.put_field.new.out t.0 t.1;
}

pub returns-clause-reads : goal.returns-clause-reads
returns-clause-reads c = λ text said rest says outside e.
    let l = c.loop-field.invariant.remains text said rest says outside e in
    let none = fields_out c.args.fields.now c.loop-field.field-index (omega (arith, c.loop-field-test.false)) in
    fields_done c.args.form.version c.args.level rest c.loop-field.rows.rest.now c.args.out.now c.loop-field.out said
    (subst (λ (fs : Fields). FieldsLeft c.args.form.version c.args.level fs rest c.loop-field.rows.rest.now c.args.out.now c.loop-field.out said) none l)
