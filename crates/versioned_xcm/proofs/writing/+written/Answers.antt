use Rattle.std.proofs.Common.{◌<◌, arith, ◌^◌}
use Rattle.xcm_program.specs.Measure.{deep_count}
use Rattle.xcm_program.proofs.Lemmas.{amounts_open}
use Rattle.xcm_format.proofs.Lemmas.{named_open}
use Rattle.versioned_xcm.proofs.Lemmas.ProgramLaws.WriteLaws.{nested_writable, wrote_plain, wrote_nested, wrote_program}
use Rattle.versioned_xcm.proofs.writing.+written.Goals as goal

pub put_instruction-put_head-requires : goal.put_instruction-put_head-requires
put_instruction-put_head-requires t c = record { named = (named_open c.args.v c.args.i.now c.requires.named).0; amount = (amounts_open c.args.i.now c.requires.amounts).0 }

pub put_instruction-put_program-requires : goal.put_instruction-put_program-requires
put_instruction-put_program-requires t c =
    let w = nested_writable c.args.v c.args.i.now c.in-Some.xcm.now (rw c.in-Some.is at c.inner.ensures) c.requires.named c.requires.amounts c.requires.few in
    (omega (arith, w.0), w.1)

pub put_instruction-returns-in-Some : goal.put_instruction-returns-in-Some
put_instruction-returns-in-Some t c =
    wrote_nested c.put_program.result c.args.v c.args.i.now c.in-Some.xcm.now c.args.o.now c.put_head.new.o c.put_program.new.o (rw c.in-Some.is at c.inner.ensures) c.in_ok-put_head.ensures c.put_program.ensures

pub put_instruction-returns-in-None : goal.put_instruction-returns-in-None
put_instruction-returns-in-None t c =
    wrote_plain c.args.v c.args.i.now c.args.o.now c.put_head.new.o (rw c.in-None.is at c.inner.ensures) c.in_ok-put_head.ensures

pub put_program-returns : goal.put_program-returns
put_program-returns t c =
    let few : deep_count c.items-items.result.now < 2 ^ 32 = rw c.items-items.ensures c.requires.few in
    rw (← c.items-items.ensures) (wrote_program c.args.v c.items-items.result.now c.loop-i.i-index c.args.o.now c.loop-i.o c.loop-i-test.false few c.loop-i.invariant.kept c.loop-i.invariant.text c.loop-i.invariant.fits)
