use Rattle.std.proofs.Common.{◌≡◌, ◌+◌, false, refl}
use Rattle.std.specs.Ordering.{nat_cmp, is_lt}
use Rattle.std.specs.Map.{keys_of}
use Rattle.std.proofs.lemmas.List.Elements.{recursion_from_All}
use Rattle.asset_bundles.proofs.Places.{below_place}
use Rattle.asset_bundles.proofs.rows.place_behind.Goals as goal

pub returns-clause-behind : goal.returns-clause-behind
returns-clause-behind c =
    let rows = c.args.rows.now.entries in
    let last = c.in-Some.last.now in
    below_place rows last (last + 1) refl (recursion_from_All (λ q. is_lt (nat_cmp last q) ≡ false) (keys_of rows) c.in-Some.ensures.all_up_to)
