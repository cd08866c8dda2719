use Rattle.std.proofs.Common.{true≢false, sym, ap, ◌∙◌, subst}
use Rattle.std.specs.declared.ops.Bound.TheVariants.{Included, Unbounded}
use Rattle.std.specs.BTreeSet.{IsKeyInRange}
use Rattle.std.proofs.lemmas.List.Elements.{All-same, recursion_from_All}
use Rattle.asset_bundles.specs.Digest.{digest}
use Rattle.asset_bundles.specs.Oldest.{digest_place_cmp}
use Rattle.asset_bundles.proofs.Places.{all_map}
use Rattle.asset_bundles.proofs.Searching.{IsAhead, all_ahead, key_passed, digest_left, key_found}
use Rattle.asset_bundles.proofs.rows.oldest.Goals as goal

pub loop-key-init : goal.loop-key-init
loop-key-init c =
    let index = c.args.places.now in
    let sought = c.digest-sought.result in
    let all = c.into_iter-key-iterator.ensures.into_iter_gives in
    let each = recursion_from_All (IsKeyInRange digest_place_cmp (Included (sought, 0)) Unbounded index) c.into_iter-key-iterator.result
    (All-same (IsKeyInRange digest_place_cmp (Included (sought, 0)) Unbounded index) _ _ all ((c.range-key-items.ensures.in_range tt).0)) in
    all_ahead c.args.list.now c.args.origin.now c.args.rows.now.entries sought index.keys c.into_iter-key-iterator.result c.items.ensures.list
    (c.digest-sought.ensures ∙ ap (digest c.args.origin.now) c.items.ensures.value) c.requires (all ∙ c.range-key-items.ensures.between tt)
    (all_map (λ k h. h.0.0) c.into_iter-key-iterator.result each) c.range-key-items.ensures.ordered

pub returns-then-key-sought : goal.returns-then-key-sought
returns-then-key-sought c =
    digest_left c.args.list.now c.args.origin.now c.args.rows.now.entries c.digest-sought.result c.in-Some.key.now c.next.new.self
    (subst (IsAhead c.args.list.now c.args.origin.now c.args.rows.now.entries c.digest-sought.result) c.in-Some.ensures.steps c.loop-key.invariant) c.if-key-sought.true

pub returns-then-fits_at : goal.returns-then-fits_at
returns-then-fits_at c =
    key_found c.args.list.now c.args.origin.now c.args.rows.now.entries c.digest-sought.result c.in-Some.key.now c.next.new.self
    (subst (IsAhead c.args.list.now c.args.origin.now c.args.rows.now.entries c.digest-sought.result) c.in-Some.ensures.steps c.loop-key.invariant) c.if-key-sought.false (c.fits_at.ensures.0 c.if-fits_at.true)

pub loop-key-preserved : goal.loop-key-preserved
loop-key-preserved c =
    key_passed c.args.list.now c.args.origin.now c.args.rows.now.entries c.digest-sought.result c.in-Some.key.now c.next.new.self
    (λ at. true≢false (sym (c.fits_at.ensures.1 at) ∙ c.if-fits_at.false))
    (subst (IsAhead c.args.list.now c.args.origin.now c.args.rows.now.entries c.digest-sought.result) c.in-Some.ensures.steps c.loop-key.invariant)
