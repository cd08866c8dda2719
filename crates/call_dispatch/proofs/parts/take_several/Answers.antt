use Rattle.std.proofs.Common.{[], ◌∷◌, arith, length-append}
use Rattle.std.proofs.lemmas.Result.{err_from_is_err_and}
use Rattle.scale_codec.proofs.Lemmas.Loops.{goes_on, fails, ends}
use Rattle.scale_codec.proofs.Lemmas.ReadLaws.{refuses_as}
use Rattle.call_dispatch.specs.Reading.{item_at}
use Rattle.call_dispatch.proofs.parts.take_several.Goals as goal

pub returns-in_err-item-clause-read : goal.returns-in_err-item-clause-read
returns-in_err-item-clause-read c =
    let p = err_from_is_err_and c.from_residual-in_err-item.result c.from_residual-in_err-item.ensures.1 in
    rw (p.1, p.2) (refuses_as c.in_err-item.field-0.0 _ _ (λ none. fails item_at c.loop.items.items c.args.count c.loop.counter c.loop.c _ c.loop-test.true none c.loop.invariant.read) c.in_err-item.ensures)

pub loop-preserved : goal.loop-preserved
loop-preserved c = record {
  read = rw c.push_reserved.ensures.items (goes_on item_at c.loop.items.items c.args.count c.loop.counter c.loop.c _ c.in_ok-item.item _ c.loop-test.true c.in_ok-item.ensures c.loop.invariant.read);
  number = rw c.push_reserved.ensures.items (omega (arith, length-append c.loop.items.items (c.in_ok-item.item ∷ []), c.loop.invariant.number));
  few = omega (arith, c.loop-test.true);
  room = omega (arith, c.push_reserved.ensures.len, c.push_reserved.ensures.capacity, c.loop.invariant.room, c.loop-test.true);
}

pub returns-clause-read : goal.returns-clause-read
returns-clause-read c = ends item_at c.loop.items.items c.args.count c.loop.counter c.loop.c _ c.loop-test.false c.loop.invariant.read
