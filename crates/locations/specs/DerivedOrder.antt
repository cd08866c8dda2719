-- The orders that the derived `Ord` computes, and that they are those of the definitions.
use Rattle.std.specs.Prelude.{◌≡◌}
use Rattle.std.specs.declared.cmp.Ordering.{Ordering}
use Rattle.std.specs.Cmp.{IsTotalOrder}
use Rattle.locations.specs.declared.grammar.NetworkId.{NetworkId}
use Rattle.locations.specs.declared.grammar.BodyId.{BodyId}
use Rattle.locations.specs.declared.grammar.BodyPart.{BodyPart}
use Rattle.locations.specs.declared.grammar.Junction.{Junction}
use Rattle.locations.specs.Order.{network_cmp, body_cmp, part_cmp, junction_cmp}
use Rattle.locations.specs.contracts.grammar.NetworkIdOrd.TheImpl.Laws.{total-law as networks}
use Rattle.locations.specs.contracts.grammar.BodyIdOrd.TheImpl.Laws.{total-law as bodies}
use Rattle.locations.specs.contracts.grammar.BodyPartOrd.TheImpl.Laws.{total-law as parts}
use Rattle.locations.specs.contracts.grammar.JunctionOrd.TheImpl.Laws.{total-law as junctions}

-- the order that a law speaks of
abbrev pub ordering_of : {K : Type 0} {R : K → K → Ordering} → IsTotalOrder R → K → K → Ordering
ordering_of {R = R} _ = R

-- what `a.cmp(&b)` answers
abbrev pub derived_network_cmp : NetworkId → NetworkId → Ordering
derived_network_cmp = ordering_of networks

abbrev pub derived_body_cmp : BodyId → BodyId → Ordering
derived_body_cmp = ordering_of bodies

abbrev pub derived_part_cmp : BodyPart → BodyPart → Ordering
derived_part_cmp = ordering_of parts

abbrev pub derived_junction_cmp : Junction → Junction → Ordering
derived_junction_cmp = ordering_of junctions

pub record IsDerivedOrder : Type 0 where
  pub networks : (x y : NetworkId) → derived_network_cmp x y ≡ network_cmp x y
  pub bodies : (x y : BodyId) → derived_body_cmp x y ≡ body_cmp x y
  pub parts : (x y : BodyPart) → derived_part_cmp x y ≡ part_cmp x y
  pub junctions : (x y : Junction) → derived_junction_cmp x y ≡ junction_cmp x y
