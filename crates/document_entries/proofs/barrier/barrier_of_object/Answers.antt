use Rattle.serde_json.specs.View.{view}
use Rattle.std.specs.Prelude.{codes}
use Rattle.barriers.specs.declared.barrier.Barrier.TheVariants.{Explicit, Unpaid}
use Rattle.document_entries.specs.Entries.{locations}
use Rattle.document_entries.proofs.BothFields.{both}
use Rattle.document_entries.proofs.barrier.barrier_of_object.Goals as goal

pub returns-in-Some-get : goal.returns-in-Some-get
returns-in-Some-get c = rw c.in_ok-check_fields.ensures (both c.args.place Explicit Unpaid locations locations (codes "explicit") (codes "unpaid") (view c.args.value.now) _ _ _ c.in-Some.ensures c.in-Some-get.ensures (c.both_there.ensures _ _ c.locations_of.ensures c.locations_of-in-Some-get.ensures))
