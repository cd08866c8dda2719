use Rattle.std.proofs.Common.{◌+◌, ◌-◌, arith}
use Rattle.asset_bundles.proofs.Places.{placed_fewer, part_popped, one_fewer}
use Rattle.asset_bundles.proofs.rows.cut_back.Goals as goal

pub loop-preserved : goal.loop-preserved
loop-preserved c =
    let inv = c.loop.invariant in
    let before = c.loop-test.true in
    let from = inv.from in
    let end = inv.end in
    record {
      placed = placed_fewer c.loop.rows.entries c.pop_last.new.self.entries c.args.places.now.keys c.pop_last.ensures.ordered
          (part_popped c.loop.rows c.pop_last.new.self c.pop_last.result c.pop_last.ensures.updates c.pop_last.ensures.unchanged) inv.placed;
      cut = one_fewer c.args.rows.now.entries c.loop.rows.entries c.pop_last.new.self.entries (c.len-end.result - (c.loop.counter - c.args.count)) (c.len-end.result - (c.loop.counter + 1 - c.args.count)) c.pop_last.result
          (omega (arith, before, from)) (omega (arith, end)) inv.cut c.pop_last.ensures.variant c.pop_last.ensures.removal;
      end = inv.end;
      from = omega (arith, from);
      to = omega (arith, before);
    }
