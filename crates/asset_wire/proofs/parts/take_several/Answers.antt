use Rattle.std.proofs.Common.{rules, ◌≡◌, [], ◌∷◌, ◌++◌, set, arith}
use Rattle.std.proofs.lemmas.Result.{err_from_is_err_and}
use Rattle.std.proofs.lemmas.List.{set_at}
use Rattle.scale_codec.proofs.Lemmas.Loops.{goes_on, fails, ends}
use Rattle.asset_wire.specs.Reading.{asset_at}
use Rattle.asset_wire.proofs.parts.take_several.Goals as goal

pub returns-in_err-fill_asset : goal.returns-in_err-fill_asset
returns-in_err-fill_asset c =
    let p = err_from_is_err_and c.from_residual-in_err-fill_asset.result c.from_residual-in_err-fill_asset.ensures.1 in
    rw (p.1, p.2) (fails (asset_at c.args.v) c.loop.items.items c.args.count c.loop.counter c.loop.c _ c.loop-test.true c.in_err-fill_asset.ensures c.loop.invariant.read)

pub loop-preserved : goal.loop-preserved
loop-preserved c =
    let filled : set c.push_reserved.new.self.items c.len-last.result c.fill_asset.new.asset ≡ c.loop.items.items ++ c.fill_asset.new.asset ∷ [] =
    rw c.push_reserved.ensures.items (set_at c.loop.items.items c.blank_asset.result [] c.fill_asset.new.asset c.len-last.result (search rules)) in
    rw filled (record {
      read = goes_on (asset_at c.args.v) c.loop.items.items c.args.count c.loop.counter c.loop.c _ c.fill_asset.new.asset _ c.loop-test.true c.in_ok-fill_asset.ensures c.loop.invariant.read;
      room = omega (arith, c.push_reserved.ensures.len, c.push_reserved.ensures.capacity, c.loop.invariant.room, c.loop-test.true);
    })

pub returns : goal.returns
returns c = ends (asset_at c.args.v) c.loop.items.items c.args.count c.loop.counter c.loop.c _ c.loop-test.false c.loop.invariant.read
