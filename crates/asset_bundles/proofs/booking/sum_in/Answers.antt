use Rattle.std.proofs.Common.{◌+◌, min, refl, sym, ◌∙◌, arith}
use Rattle.asset_bundles.specs.declared.book.Cause.{Cause}
use Rattle.asset_bundles.specs.Books.{most_burned}
use Rattle.asset_bundles.proofs.Burning.{total_next, total_here, total_nowhere}
use Rattle.asset_bundles.proofs.booking.sum_in.Goals as goal

pub loop-row-init : goal.loop-row-init
loop-row-init c = λ cause. refl

pub returns-then-is_of : goal.returns-then-is_of
returns-then-is_of c =
    let here = λ (cause : Cause). total_here _ cause _ c.loop-row.row-index _ c.loop-row-test.true c.row-item.is (sym c.is_of.ensures ∙ c.if-is_of.true) (c.loop-row.invariant cause) in
    c.sum.ensures ∙ (λ i. min (here Cause.BurnAsset i + here Cause.LostTeleport i + here Cause.Merged i + here Cause.Saturated i) most_burned)

pub loop-row-preserved : goal.loop-row-preserved
loop-row-preserved c =
    λ cause. total_next _ cause _ c.loop-row.row-index _ c.loop-row-test.true c.row-item.is (sym c.is_of.ensures ∙ c.if-is_of.false) (c.loop-row.invariant cause)

pub returns : goal.returns
returns c =
    let none = λ (cause : Cause). total_nowhere _ cause _ c.loop-row.row-index c.loop-row-test.false (c.loop-row.invariant cause) in
    let burned = none Cause.BurnAsset in
    let lost = none Cause.LostTeleport in
    let merged = none Cause.Merged in
    let saturated = none Cause.Saturated in
    omega (arith, burned, lost, merged, saturated)
