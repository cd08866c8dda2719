-- What a kept line says, and which lines are those of a network's chains. This project's own rule.
use Rattle.std.specs.Prelude.{◌≡◌, ℕ, ◌+◌, min, Bool, if◌then◌else◌, List, ◌++◌, codes, flat_map, map}
use Rattle.asset_bundles.specs.Books.{most_burned}
use Rattle.exec_base.specs.Part.{ChainPart}
use Rattle.supply_audit.specs.Places.{chain_table}
use Rattle.supply_audit.specs.RowPlaces.{placed_over, flight_over, burned_over}
use Rattle.supply_audit.specs.Covers.{of_cover, held_at, coming_at, standing_at, own_touched, kept_touched}
use Rattle.supply_audit.specs.Stale.{are_touched, Agree}
use Rattle.report_text.specs.Sums.{sum_text}
use Rattle.report_text.specs.Planned.{PlannedSupply, PlannedBacking, Plan}
use Rattle.report_text.specs.Plan.{plan_of}
use Rattle.report_text.specs.Kept.{KeptSupply, KeptBacking, Sheet}

-- ---- the text of a line, by its figures

unfoldable pub supply_written : KeptSupply → List ℕ
supply_written k =
    k.entry.beginning ++ (sum_text k.home
    ++ (codes " flight " ++ (sum_text k.flight
    ++ (codes " burned " ++ (sum_text k.burned ++ codes "\n")))))

unfoldable pub backing_written : KeptBacking → List ℕ
backing_written k =
    k.entry.beginning ++ (sum_text k.held
    ++ (codes " owed " ++ (sum_text (k.standing + k.coming) ++ codes "\n")))

abbrev pub sheet_written : Sheet → List ℕ
sheet_written s = flat_map supply_written s.supplies ++ flat_map backing_written s.backings

-- ---- the lines of a network's chains; each figure saturates

abbrev pub kept_supply : List ChainPart → PlannedSupply → KeptSupply
kept_supply parts e =
    record {
      entry = e;
      home = min (placed_over parts e.places) most_burned;
      flight = min (flight_over parts e.places) most_burned;
      burned = min (burned_over parts e.places) most_burned;
    }

abbrev pub kept_backing : List ChainPart → PlannedBacking → KeptBacking
kept_backing parts e =
    record {
      entry = e;
      held = min (of_cover (held_at parts) e.cover) most_burned;
      coming = min (of_cover (coming_at parts) e.cover) most_burned;
      standing = min (of_cover (standing_at parts) e.cover) most_burned;
    }

-- the lines are those of the plan, with the figures of these chains
pub record IsFilledSheet (plan : Plan) (parts : List ChainPart) (s : Sheet) : Type 0 where
  pub supplies : s.supplies ≡ map (kept_supply parts) plan.supplies
  pub backings : s.backings ≡ map (kept_backing parts) plan.backings

abbrev pub IsWrittenOf : List ChainPart → Sheet → Type 0
IsWrittenOf parts s = IsFilledSheet (plan_of (map chain_table parts)) parts s

-- the lines have the figures of chains from which these differ only where a chain counts as changed
abbrev pub IsSheetOf : List ChainPart → Sheet → Type 0
IsSheetOf parts s =
    (before : List ChainPart) × IsFilledSheet (plan_of (map chain_table parts)) before s
    × Agree s.stale before parts

-- ---- lines whose figures are read anew where chains may have changed

abbrev pub renewed_supply : List Bool → List ChainPart → KeptSupply → KeptSupply
renewed_supply stale parts k =
    if are_touched stale k.entry.places then kept_supply parts k.entry else k

abbrev pub renewed_backing : List Bool → List ChainPart → KeptBacking → KeptBacking
renewed_backing stale parts k =
    let now = kept_backing parts k.entry in
    let kept = kept_touched stale k.entry.cover in
    record {
      entry = k.entry;
      held = if kept then now.held else k.held;
      coming = if kept then now.coming else k.coming;
      standing = if own_touched stale k.entry.cover then now.standing else k.standing;
    }
