-- The lines of a supply block as they are kept: each with its entry in the plan and the figures that it was written with. This project's own
-- rule.
use Rattle.std.specs.Prelude.{ℕ, Bool, List}
use Rattle.report_text.specs.Planned.{PlannedSupply, PlannedBacking}

pub record KeptSupply : Type 0 where
  pub entry : PlannedSupply
  pub home : ℕ
  pub flight : ℕ
  pub burned : ℕ

-- what is held at the reserve, what is on its way to the chain, and what is at the chain with what is on its way back
pub record KeptBacking : Type 0 where
  pub entry : PlannedBacking
  pub held : ℕ
  pub coming : ℕ
  pub standing : ℕ

-- the lines, and for each chain whether it may have changed since they were written
pub record Sheet : Type 0 where
  pub supplies : List KeptSupply
  pub backings : List KeptBacking
  pub stale : List Bool
