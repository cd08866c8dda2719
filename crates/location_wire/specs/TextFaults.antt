-- When a text is read as no location.
use Rattle.std.specs.Prelude.{ℕ, List, ⊤}
use Rattle.locations.specs.declared.relative.Location.{Location}
use Rattle.location_wire.specs.declared.text_reading.TextFault.{TextFault}
use Rattle.location_wire.specs.declared.text_reading.TextFault.TheVariants.{BadText, Memory}
use Rattle.location_wire.specs.Texts.{IsTextOf}

-- the text is that of no location; out of memory says nothing
abbrev pub IsTextCause : List ℕ → TextFault → Type 0
IsTextCause text BadText = (l : Location) → IsTextOf l text → ⊥
IsTextCause text Memory = ⊤
