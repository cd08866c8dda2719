-- What the figures of a derivative's line are, and those that are read anew where chains have changed. This project's own rule.
use Rattle.std.specs.Prelude.{◌≡◌, min, Bool, if◌then◌else◌, List, Option}
use Rattle.asset_bundles.specs.Books.{most_burned}
use Rattle.asset_bundles.specs.Totals.{total_value}
use Rattle.exec_base.specs.Part.{ChainPart}
use Rattle.supply_audit.specs.declared.cover.CoverFigures.{CoverFigures}
use Rattle.supply_audit.specs.Covered.{Covered}
use Rattle.supply_audit.specs.Covers.{of_cover, held_at, coming_at, standing_at, own_touched, kept_touched}

-- each total saturates
pub record HasFigures (found : CoverFigures) (parts : List ChainPart)
    (cover : Option Covered) : Type 0 where
  pub held : total_value found.held ≡ min (of_cover (held_at parts) cover) most_burned
  pub coming : total_value found.coming ≡ min (of_cover (coming_at parts) cover) most_burned
  pub standing : total_value found.standing ≡ min (of_cover (standing_at parts) cover) most_burned

-- those of chains that have changed are read anew, the others are as they were known
pub record IsRenewed (stale : List Bool) (parts : List ChainPart) (cover : Option Covered)
    (known found : CoverFigures) : Type 0 where
  pub held : total_value found.held ≡ (if kept_touched stale cover
      then min (of_cover (held_at parts) cover) most_burned else total_value known.held)
  pub coming : total_value found.coming ≡ (if kept_touched stale cover
      then min (of_cover (coming_at parts) cover) most_burned else total_value known.coming)
  pub standing : total_value found.standing ≡ (if own_touched stale cover
      then min (of_cover (standing_at parts) cover) most_burned else total_value known.standing)
