use Rattle.std.proofs.Common.{ap, Ok, ◌≡◌, ◌∙◌, length, sym, arith}
use Rattle.std.proofs.lemmas.Result.{err_from_is_err_and}
use Rattle.document_entries.specs.Forms.{next_index}
use Rattle.document_entries.proofs.Lists.{entry_read, entry_stops, entries_end}
use Rattle.document_entries.proofs.entries.read_entries.Goals as goal

pub returns-in_err-read : goal.returns-in_err-read
returns-in_err-read g c =
    let p = err_from_is_err_and c.from_residual-in_err-read.result c.from_residual-in_err-read.ensures.1 in
    rw (p.1, p.2) (entry_stops _ _ _ _ _ _ _ _ c.loop-value-test.true c.value-item.is c.loop-value.invariant.read c.in_err-read.ensures)

pub loop-value-preserved : goal.loop-value-preserved
loop-value-preserved g c =
    let index : c.saturating_add-index.result ≡ next_index c.loop-value.index = c.saturating_add-index.ensures in
    record {
      read = rw (c.push_reserved.ensures.items, index) (c.loop-value.invariant.read ∙ entry_read _ _ _ _ _ _ _ c.loop-value-test.true c.value-item.is c.in_ok-read.ensures);
      filled = omega (arith, c.push_reserved.ensures.len, c.loop-value.invariant.filled);
      room = c.push_reserved.ensures.capacity ∙ c.loop-value.invariant.room;
    }

pub returns : goal.returns
returns g c = let all : length c.args.items.now ≡ c.loop-value.value-index = omega arith in c.loop-value.invariant.read ∙ entries_end (g.E.Entry.form c.args.entry.now) c.args.items.now c.loop-value.value-index c.loop-value.index c.loop-value.list.items all ∙ ap Ok (sym c.from_vec.ensures)
