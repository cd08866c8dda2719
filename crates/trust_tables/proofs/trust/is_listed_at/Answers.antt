use Rattle.std.proofs.Common.{◌≡◌, sym, ◌∙◌}
use Rattle.std.specs.Prelude.{Some, slice_get}
use Rattle.trust_tables.proofs.Places.{place_found, stands}
use Rattle.trust_tables.proofs.trust.is_listed_at.Goals as goal

pub returns-in-Some : goal.returns-in-Some
returns-in-Some c = λ passed.
    let at : slice_get c.args.rows.now c.args.place ≡ Some c.in-Some.row.now = stands c.args.rows.now c.args.place c.in-Some.row.now c.in-Some.ensures.lookup.0 c.in-Some.ensures.lookup.1 in
    place_found c.args.rows.now c.args.a.now c.args.place c.in-Some.row.now at (sym c.lists.ensures ∙ passed)
