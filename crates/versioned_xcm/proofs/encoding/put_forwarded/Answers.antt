use Rattle.std.proofs.Common.{◌<◌, ◌^◌, sym, ◌∙◌, arith}
use Rattle.scale_codec.proofs.Lemmas.WriteLoops.{wrote_all, fits_all}
use Rattle.xcm_program.specs.Measure.{deep_count}
use Rattle.xcm_program.proofs.Lemmas.{deep_count_one-is, length-deep_count}
use Rattle.xcm_format.specs.Programs.{instruction_spelling, FitsInstruction}
use Rattle.versioned_xcm.specs.Message.{forwarded}
use Rattle.versioned_xcm.proofs.Lemmas.{clear_count, front_written}
use Rattle.versioned_xcm.proofs.encoding.put_forwarded.Goals as goal

pub loop-i-init : goal.loop-i-init
loop-i-init c =
    let one = c.in_ok-put_instruction.ensures in
    let two = c.in_ok-put_instruction-2.ensures in
    record {
      kept = two.0 ∙ one.0 ∙ c.in_ok-put_compact.ensures.0 ∙ c.in_ok-put_u8.ensures.0;
      text = front_written c.args.v c.args.first.now c.items-items.result.now _ _ _ _ _ (rw (← c.version_byte.ensures) c.in_ok-put_u8.ensures.1.0) c.in_ok-put_compact.ensures.1.0 one.1.0 two.1.0;
      fits = λ all. all;
      named = rw c.items-items.ensures c.requires.named.1.1;
      amounts = rw c.items-items.ensures c.requires.amounts.1.1;
      count = omega arith;
    }

pub returns : goal.returns
returns c =
    let few : deep_count (forwarded c.args.first.now c.items-items.result.now) < 2 ^ 32 = rw c.items-items.ensures c.requires.few in
    rw (← c.items-items.ensures) (
      c.loop-i.invariant.kept,
      (
        sym (wrote_all (instruction_spelling c.args.v) c.items-items.result.now c.loop-i.i-index c.loop-i.o.text c.loop-i-test.false) ∙ c.loop-i.invariant.text,
        (
          omega (arith, length-deep_count c.items-items.result.now, deep_count_one-is c.args.first.now, clear_count, few),
          (c.in_ok-put_instruction.ensures.1.1, (c.in_ok-put_instruction-2.ensures.1.1, fits_all (FitsInstruction c.args.v) c.items-items.result.now c.loop-i.i-index c.loop-i-test.false c.loop-i.invariant.fits)),
        ),
      ),
    )
