use Rattle.std.proofs.Common.{arith}
use Rattle.scale_codec.proofs.Lemmas.Powers.{mono}
use Rattle.scale_codec.proofs.little.form_of.Goals as goal

pub overflow_mul-more : goal.overflow_mul-more
overflow_mul-more c = omega (arith, mono c.args.count 3 c.requires.short, c.in_ok-more.ensures.below)

pub overflow_add-bits : goal.overflow_add-bits
overflow_add-bits c = omega (arith, mono c.args.count 3 c.requires.short, c.in_ok-more.ensures.below, c.requires.six)
