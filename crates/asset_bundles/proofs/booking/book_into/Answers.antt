use Rattle.std.proofs.Common.{◌≡◌, ◌<◌, length, ap, ◌∙◌, arith}
use Rattle.std.specs.List.{prefix_len}
use Rattle.asset_lists.specs.Listed.{Listed}
use Rattle.asset_bundles.specs.BookRows.{is_other_row}
use Rattle.asset_bundles.proofs.Burning.{booked_nowhere, booked_set}
use Rattle.asset_bundles.proofs.booking.book_into.Goals as goal

pub returns-then-place-len : goal.returns-then-place-len
returns-then-place-len c =
    let k : Listed = (c.args.id.now, c.args.kind) in
    let rows = c.args.rows.now.items in
    let place : c.place_of-place.result ≡ prefix_len (is_other_row k) rows = c.place_of-place.ensures.place ∙ ap (prefix_len (is_other_row k)) c.as_slice.ensures.value in
    booked_nowhere k c.args.cause c.args.amount rows (omega (arith, place, c.len.ensures, c.if-place-len.true))

pub returns : goal.returns
returns c =
    let k : Listed = (c.args.id.now, c.args.kind) in
    let rows = c.args.rows.now.items in
    let place : c.place_of-place.result ≡ prefix_len (is_other_row k) rows = c.place_of-place.ensures.place ∙ ap (prefix_len (is_other_row k)) c.as_slice.ensures.value in
    let inside : c.place_of-place.result < length rows = omega (arith, c.len.ensures, c.if-place-len.false) in
    booked_set k c.args.cause c.args.amount rows c.place_of-place.result c.index_mut.result.now _ place inside c.index_mut.ensures.value c.add.ensures
