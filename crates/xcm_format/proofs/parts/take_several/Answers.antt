use Rattle.std.proofs.Common.{[], ◌∷◌, arith, length-append}
use Rattle.std.proofs.lemmas.Result.{err_from_is_err_and}
use Rattle.scale_codec.proofs.Lemmas.Loops.{goes_on, fails, ends}
use Rattle.scale_codec.proofs.Lemmas.ReadLaws.{refuses_as}
use Rattle.xcm_format.specs.Reading.{pallet_info_at}
use Rattle.xcm_format.proofs.parts.take_several.Goals as goal

pub returns-in_err-pallet-clause-read : goal.returns-in_err-pallet-clause-read
returns-in_err-pallet-clause-read c =
    let p = err_from_is_err_and c.from_residual.result c.from_residual.ensures.1 in
    rw (p.1, p.2) (refuses_as c.in_err-pallet.field-0.0 _ _ (λ none. fails pallet_info_at c.loop.items.items c.args.count c.loop.counter c.loop.c _ c.loop-test.true none c.loop.invariant.read) c.in_err-pallet.ensures)

pub loop-preserved : goal.loop-preserved
loop-preserved c = record {
  read = rw c.in_ok-push.ensures.items (goes_on pallet_info_at c.loop.items.items c.args.count c.loop.counter c.loop.c _ c.in_ok-pallet.pallet _ c.loop-test.true c.in_ok-pallet.ensures c.loop.invariant.read);
  number = rw c.in_ok-push.ensures.items (omega (arith, length-append c.loop.items.items (c.in_ok-pallet.pallet ∷ []), c.loop.invariant.number));
  few = omega (arith, c.loop-test.true);
}

pub returns-clause-read : goal.returns-clause-read
returns-clause-read c = ends pallet_info_at c.loop.items.items c.args.count c.loop.counter c.loop.c _ c.loop-test.false c.loop.invariant.read
