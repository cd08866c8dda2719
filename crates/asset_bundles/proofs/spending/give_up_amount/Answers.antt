use Rattle.std.proofs.Common.{◌≡◌, sym, ap, ◌∙◌, ◌-◌, ◌<◌, get_or, length, arith, rules}
use Rattle.std.specs.Prelude.{None, slice_set}
use Rattle.std.proofs.lemmas.List.{get_or_read}
use Rattle.std.specs.List.{prefix_len}
use Rattle.asset_lists.specs.Units.{Unit, amount_of}
use Rattle.asset_bundles.specs.Portions.{asset_with, is_other}
use Rattle.asset_bundles.proofs.Giving.{spent_nowhere, spent_removed, spent_set}
use Rattle.asset_bundles.proofs.spending.give_up_amount.Goals as goal

pub returns-then-place-len : goal.returns-then-place-len
returns-then-place-len c =
    let u : Unit = (c.args.id.now, None) in
    let xs = c.args.items.now.items in
    let place : c.place_of_amount-place.result ≡ prefix_len (is_other u) xs = c.place_of_amount-place.ensures.place ∙ ap (prefix_len (is_other u)) c.as_slice.ensures.value in
    spent_nowhere u c.args.less xs (omega (arith, place, c.len.ensures, c.if-place-len.true))

pub returns-then-left-eq0 : goal.returns-then-left-eq0
returns-then-left-eq0 c =
    let u : Unit = (c.args.id.now, None) in
    let xs = c.args.items.now.items in
    let place : c.place_of_amount-place.result ≡ prefix_len (is_other u) xs = c.place_of_amount-place.ensures.place ∙ ap (prefix_len (is_other u)) c.as_slice.ensures.value in
    let inside : c.place_of_amount-place.result < length xs = omega (arith, c.len.ensures, c.if-place-len.false) in
    let at : c.index-item.result.now ≡ get_or xs c.place_of_amount-place.result c.index-item.result.now = search rules in
    c.remove.ensures.items ∙ spent_removed u c.args.less xs c.place_of_amount-place.result c.index-item.result.now place inside at
    (omega (arith, c.saturating_sub-left.ensures, c.amount.ensures, c.if-left-eq0.true))

pub returns : goal.returns
returns c =
    let u : Unit = (c.args.id.now, None) in
    let n = c.args.less in
    let xs = c.args.items.now.items in
    let b = c.index-item.result.now in
    let place : c.place_of_amount-place.result ≡ prefix_len (is_other u) xs = c.place_of_amount-place.ensures.place ∙ ap (prefix_len (is_other u)) c.as_slice.ensures.value in
    let inside : c.place_of_amount-place.result < length xs = omega (arith, c.len.ensures, c.if-place-len.false) in
    let at : b ≡ get_or xs c.place_of_amount-place.result b = search rules in
    let left : c.saturating_sub-left.result ≡ amount_of b - n = omega (arith, c.saturating_sub-left.ensures, c.amount.ensures) in
    let some : 0 < amount_of b - n = omega (arith, left, c.if-left-eq0.false) in
    let at_mut : c.index_mut.result.now ≡ get_or xs c.place_of_amount-place.result c.index_mut.result.now = search rules in
    let same : c.index_mut.result.now ≡ b = get_or_read xs c.place_of_amount-place.result c.index_mut.result.now inside at_mut b ∙ sym at in
    ap (slice_set xs c.place_of_amount-place.result) (c.set_amount.ensures ∙ (λ i. asset_with (same i) (left i))) ∙ spent_set u n xs c.place_of_amount-place.result b place inside at some
