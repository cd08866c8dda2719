use Rattle.std.proofs.Common.{ap, length, arith}
use Rattle.locations.proofs.Inversion.{made_inverted}
use Rattle.locations.proofs.relative.invert_target.Goals as goal

pub returns-clause-inverted : goal.returns-clause-inverted
returns-clause-inverted c = (
  omega (arith, c.from-wanted.ensures),
  made_inverted _ _ _ _ _ _ _ _ c.from-wanted.ensures c.items-known.ensures.value c.saturating_sub-missing.ensures c.last.ensures.last
      c.if-wanted-gt-MAX_JUNCTIONS.false c.in_ok-interior.ensures.ok (ap length c.items.ensures.value),
)
