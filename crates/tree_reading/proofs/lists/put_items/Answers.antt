use Rattle.std.proofs.Common.{◌≡◌, ◌+◌, ℕ, subst, arith}
use Rattle.tree_reading.proofs.Items.{Remains, next, done}
use Rattle.tree_reading.proofs.lists.put_items.Goals as goal

pub returns-in-Err-clause-reads : goal.returns-in-Err-clause-reads
returns-in-Err-clause-reads c = λ items rest are few outside e.
    let r = c.loop-form.invariant.remains items rest are few outside e in
    let n = next c.args.form.version c.args.kind c.args.level items rest c.loop-form.rows.rest.now c.args.out.now c.loop-form.out c.loop-form.count r c.has_row.result c.has_row.ensures.ended c.loop-form-test.true outside in
    c.in-Err.ensures.reads n.words n.said n.after n.are n.says n.is

pub loop-form-preserved : goal.loop-form-preserved
loop-form-preserved c = record {
  shorter = omega (arith, c.loop-form.invariant.shorter, c.in-Ok.ensures.shorter);
  remains = λ items rest are few outside e.
      let r = c.loop-form.invariant.remains items rest are few outside e in
      let n = next c.args.form.version c.args.kind c.args.level items rest c.loop-form.rows.rest.now c.args.out.now c.loop-form.out c.loop-form.count r c.has_row.result c.has_row.ensures.ended c.loop-form-test.true outside in
      let t = c.in-Ok.ensures.reads n.words n.said n.after n.are n.says n.is in
      let more : c.loop-form.count + 1 ≡ c.saturating_add-count.result = omega (arith, r.count_is, few, c.saturating_add-count.ensures) in
      subst (λ (k : ℕ). Remains c.args.form.version c.args.kind c.args.level items rest c.put_row.new.rows.rest.now c.args.out.now c.put_row.new.out k) more (n.goes_on c.put_row.new.rows.rest.now c.put_row.new.out t.0 t.1);
}

pub returns-clause-reads : goal.returns-clause-reads
returns-clause-reads c = λ items rest are few outside e.
    let r = c.loop-form.invariant.remains items rest are few outside e in
    done c.args.form.version c.args.kind c.args.level items rest c.loop-form.rows.rest.now c.args.out.now c.loop-form.out c.loop-form.count r c.has_row.result c.has_row.ensures.found c.loop-form-test.false
