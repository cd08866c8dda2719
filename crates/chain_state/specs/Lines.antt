-- Why the assets of a list are burned: all for one cause, or each as what a join gives up. This project's own.
use Rattle.std.specs.Prelude.{ℕ, zero, suc, List, [], ◌∷◌, Option, None, Some}
use Rattle.asset_lists.specs.Units.{Unit}
use Rattle.asset_bundles.specs.declared.book.Cause.{Cause}
use Rattle.asset_bundles.specs.Books.{excess_cause}
use Rattle.asset_bundles.specs.Traps.{number_after}
use Rattle.locations.specs.declared.relative.Location.{Location}
use Rattle.asset_lists.specs.declared.units.AssetId.TheVariants.{Concrete}
use Rattle.asset_lists.specs.declared.units.Fun.{Fun}
use Rattle.exec_base.specs.declared.event.Event.{Event}
use Rattle.exec_base.specs.Part.{ChainPart}
use Rattle.exec_base.specs.Host.{burned_line}

abbrev pub cause_by : Option Cause → Unit → Cause
cause_by None unit = excess_cause unit.1
cause_by (Some cause) unit = cause

-- the lines of so many traps, from a number on
abbrev pub trap_events_from : ℕ → ℕ → List Event
trap_events_from zero number = []
trap_events_from (suc count) number = Event.Trapped number ∷ trap_events_from count (number_after number)

-- the line of what a purchase books as saturated
abbrev pub excess_lines : ChainPart → Option (Location × ℕ) → List Event
excess_lines p None = []
excess_lines p (Some above) = burned_line p (cause_by (Some Cause.Saturated)) (record { id = Concrete above.0; fun = Fun.Fungible above.1 }) ∷ []
