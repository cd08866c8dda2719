-- The order that the derived `Ord` of instances computes, and that it is that of the definition.
use Rattle.std.specs.Prelude.{◌≡◌}
use Rattle.std.specs.declared.cmp.Ordering.{Ordering}
use Rattle.locations.specs.DerivedOrder.{ordering_of}
use Rattle.asset_lists.specs.declared.units.Instance.{Instance}
use Rattle.asset_lists.specs.Units.{instance_cmp}
use Rattle.asset_lists.specs.contracts.units.InstanceOrd.TheImpl.Laws.{total-law as instances}

-- what `a.cmp(&b)` answers
abbrev pub derived_instance_cmp : Instance → Instance → Ordering
derived_instance_cmp = ordering_of instances

abbrev pub IsDerivedInstanceOrder : Type 0
IsDerivedInstanceOrder = (x y : Instance) → derived_instance_cmp x y ≡ instance_cmp x y
