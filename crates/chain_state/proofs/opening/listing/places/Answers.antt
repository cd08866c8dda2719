use Rattle.std.proofs.Common.{◌++◌, [], ◌∷◌, map, take, sym, ap, ◌∙◌, arith, length-take}
use Rattle.ledgers.specs.Ledgers.{listed_pair}
use Rattle.chain_state.proofs.Listings.{one_more, map_more, as_many}
use Rattle.chain_state.proofs.opening.listing.places.Goals as goal

pub loop-row-preserved : goal.loop-row-preserved
loop-row-preserved c =
    let row = c.row-item.result in
    record {
      same = ap (map listed_pair) c.push_listed.ensures.items ∙ map_more c.loop-row.list.items (row.id, row.kind)
          ∙ (λ i. c.loop-row.invariant.same i ++ listed_pair (row.id, row.kind) ∷ [])
          ∙ sym (one_more c.args.rows.now c.loop-row.row-index row c.loop-row-test.true c.row-item.is);
      filled = omega (arith, c.push_listed.ensures.len, c.loop-row.invariant.filled);
      room = c.push_listed.ensures.capacity ∙ c.loop-row.invariant.room;
    }

pub returns-clause-as_many : goal.returns-clause-as_many
returns-clause-as_many c =
    let rows = c.args.rows.now in
    let i = c.loop-row.row-index in
    let past = c.loop-row-test.false in
    let many = as_many c.loop-row.list.items (take i rows) c.loop-row.invariant.same in
    let whole = length-take i rows in
    omega (arith, many, whole, past)
