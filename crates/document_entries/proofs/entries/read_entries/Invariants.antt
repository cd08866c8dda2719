use Rattle.std.proofs.Common.{◌≡◌, drop, length}
use Rattle.std.specs.Prelude.{vec_len, vec_capacity}
use Rattle.serde_json.specs.View.{items_view}
use Rattle.document_entries.specs.Forms.{entries}
use Rattle.document_entries.proofs.Lists.{behind}
use Rattle.document_entries.proofs.entries.read_entries.Given as goal

abbrev pub invariant-loop-value : goal.invariant-loop-value
invariant-loop-value g l = record {
  read : entries (g.E.Entry.form l.fn.entry) 0 (items_view l.items) ≡ behind l.list.items (entries (g.E.Entry.form l.fn.entry) l.index (items_view (drop l.value-index l.items)));
  filled : vec_len l.list ≡ l.value-index;
  room : vec_capacity l.list ≡ length l.items;
}
