use Rattle.std.proofs.Common.{◌++◌, [], ◌∷◌, sym, ◌∙◌, arith}
use Rattle.asset_lists.specs.declared.units.AssetId.TheVariants.{Concrete}
use Rattle.chain_state.proofs.Listings.{one_more}
use Rattle.chain_state.proofs.opening.listing.ids.Goals as goal

pub loop-row-preserved : goal.loop-row-preserved
loop-row-preserved c =
    let row = c.row-item.result in
    record {
      same = c.push_id.ensures.items ∙ (λ i. c.loop-row.invariant.same i ++ (Concrete row.id, row.kind) ∷ [])
          ∙ sym (one_more c.args.rows.now c.loop-row.row-index row c.loop-row-test.true c.row-item.is);
      filled = omega (arith, c.push_id.ensures.len, c.loop-row.invariant.filled);
      room = c.push_id.ensures.capacity ∙ c.loop-row.invariant.room;
    }
