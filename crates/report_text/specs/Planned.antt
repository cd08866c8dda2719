-- What a supply block says before any figure is known: of each line its beginning, and the positions of the rows whose figures it has. This
-- project's own rule.
use Rattle.std.specs.Prelude.{ℕ, List, Option}
use Rattle.supply_audit.specs.declared.place.Place.{Place}
use Rattle.supply_audit.specs.Covered.{Covered}

pub record PlannedSupply : Type 0 where
  pub beginning : List ℕ
  pub places : List Place

pub record PlannedBacking : Type 0 where
  pub beginning : List ℕ
  pub cover : Option Covered

pub record Plan : Type 0 where
  pub supplies : List PlannedSupply
  pub backings : List PlannedBacking
