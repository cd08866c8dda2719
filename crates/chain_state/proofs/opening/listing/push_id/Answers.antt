use Rattle.std.proofs.Common.{rules, []}
use Rattle.std.proofs.lemmas.List.{set_at}
use Rattle.asset_lists.specs.declared.units.AssetId.TheVariants.{Concrete}
use Rattle.chain_state.proofs.opening.listing.push_id.Goals as goal

pub returns-clause-items : goal.returns-clause-items
returns-clause-items c =
    rw (c.push_reserved.ensures.items, c.assign_place.ensures)
    (set_at c.args.list.now.items (Concrete c.here.result, c.args.kind) [] (Concrete c.args.id.now, c.args.kind) c.len-last.result (search rules))
