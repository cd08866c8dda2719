use Rattle.std.proofs.Common.{◌≡◌, true, ◌∙◌, sym, ap, subst}
use Rattle.asset_bundles.specs.Digest.{digest, digest_of}
use Rattle.asset_bundles.specs.Oldest.{ArePlaced, is_listed}
use Rattle.asset_bundles.proofs.Places.{listed_kept, placed_listed, placed_pushed, pushed_rows}
use Rattle.asset_bundles.proofs.rows.push.Goals as goal

pub returns-in_err-insert-2-clause-placed : goal.returns-in_err-insert-2-clause-placed
returns-in_err-insert-2-clause-placed c =
    let rows = c.args.rows.now.entries in
    let index = c.args.places.now.keys in
    let more = c.insert.new.self.keys in
    subst (λ rs. ArePlaced rs more) (sym c.in_err-insert-2.ensures.err)
    (placed_listed rows index more (listed_kept index more (c.digest.result, c.in_ok-place.place) c.in_ok-insert.ensures.updates.0) c.requires)

pub returns-clause-placed : goal.returns-clause-placed
returns-clause-placed c =
    let rows = c.args.rows.now.entries in
    let index = c.args.places.now.keys in
    let more = c.insert.new.self.keys in
    let place = c.in_ok-place.place in
    let same : c.digest.result ≡ digest_of c.args.trap = c.digest.ensures ∙ ap (digest c.args.trap.origin) (c.as_slice.ensures.value ∙ c.in_ok-assets.ensures.listed) in
    let here : is_listed more (digest_of c.args.trap, place) ≡ true = ap (λ d. is_listed more (d, place)) (sym same) ∙ c.in_ok-insert.ensures.updates.1 in
    placed_pushed rows c.insert-2.new.self.entries more place c.args.trap c.in_ok-insert-2.ensures.ordered c.in_ok-insert-2.ensures.updates.0 here
    (placed_listed rows index more (listed_kept index more (c.digest.result, place) c.in_ok-insert.ensures.updates.0) c.requires)

pub returns-clause-added : goal.returns-clause-added
returns-clause-added c =
    (c.in_ok-place.place, pushed_rows c.args.rows.now.entries c.insert-2.new.self.entries c.in_ok-place.place c.args.trap c.in_ok-place.ensures.behind c.in_ok-insert-2.ensures.entries)
