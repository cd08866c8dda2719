-- A location of a document, as its text is read.
use Rattle.std.proofs.Common.{◌≡◌, ℕ, List, refl, Some, None, Ok, Err}
use Rattle.serde_json.specs.Data.{Data}
use Rattle.locations.specs.declared.relative.Location.{Location}
use Rattle.document_entries.specs.declared.fault.NetworkFault.TheVariants.{BadValue}
use Rattle.document_entries.specs.declared.fault.Place.{Place}
use Rattle.document_entries.specs.Forms.{text}
use Rattle.document_entries.specs.Entries.{location_form}
use Rattle.document_entries.specs.LocationTexts.{parsed_location}

pub read_as : (place : Place) (d : Data) (s : List ℕ) (l : Location) → text place d ≡ Ok s → parsed_location s ≡ Some l → location_form place d ≡ Ok l
unfolding location_form
read_as place d s l t e = rw (t, e) refl

pub unread : (place : Place) (d : Data) (s : List ℕ) → text place d ≡ Ok s → parsed_location s ≡ None → location_form place d ≡ Err (BadValue place)
unfolding location_form
unread place d s t e = rw (t, e) refl
