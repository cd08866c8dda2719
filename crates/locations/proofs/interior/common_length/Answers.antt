use Rattle.std.proofs.Common.{◌≡◌, true}
use Rattle.locations.specs.declared.grammar.Junction.TheVariants.{Parachain}
use Rattle.locations.proofs.CommonPrefix.{goes_on, stops, ends}
use Rattle.locations.proofs.interior.common_length.Goals as goal

pub returns-then-not-are_same-clause-common : goal.returns-then-not-are_same-clause-common
returns-then-not-are_same-clause-common c =
    stops _ _ c.loop-k.k (Parachain 0) (rw (← c.min-shorter.ensures) c.loop-k-test.true)
    (λ same. let tested : c.are_same.result ≡ true = c.are_same.ensures.1 same in cc)
    c.loop-k.invariant

pub loop-k-preserved : goal.loop-k-preserved
loop-k-preserved c =
    goes_on _ _ c.loop-k.k (Parachain 0) (rw (← c.min-shorter.ensures) c.loop-k-test.true)
    (c.are_same.ensures.0 c.if-not-are_same.false) c.loop-k.invariant

pub returns-clause-common : goal.returns-clause-common
returns-clause-common c = ends _ _ c.loop-k.k _ c.loop-k-test.false c.min-shorter.ensures c.loop-k.invariant c.loop-k.auto.k-end
