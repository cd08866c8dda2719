use Rattle.std.proofs.Common.{◌≡◌, List, [], ◌∷◌, ◌++◌, fold, refl, ap, ◌∙◌}
use Rattle.std.specs.List.{flat_map}
use Rattle.std.specs.Hash.DefaultHasher as sip
use Rattle.locations.specs.Hashing.{location_input}
use Rattle.asset_bundles.specs.Digest.{digest, asset_writes}
use Rattle.asset_bundles.proofs.digest.digest.Goals as goal

one_after_other : {S X : Type 0} (f : S → X → S) (s : S) (xs ys : List X) → fold f (fold f s xs) ys ≡ fold f s (xs ++ ys)
one_after_other f s [] ys = refl
one_after_other f s (x ∷ xs) ys = one_after_other f (f s x) xs ys

pub returns : goal.returns
unfolding digest
returns c =
    let place = location_input c.args.origin.now in
    let assets = flat_map asset_writes c.args.list.now in
    c.finish.ensures ∙ ap sip.finish (c.write_assets.ensures ∙ ap (λ s. fold sip.write s assets) (c.hash.ensures ∙ ap (λ s. fold sip.write s place) c.new-state.ensures)
    ∙ one_after_other sip.write sip.initial place assets)
