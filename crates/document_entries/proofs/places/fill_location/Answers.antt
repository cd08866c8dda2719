use Rattle.document_entries.proofs.LocationReading.{location_found, location_none}
use Rattle.document_entries.proofs.Locations.{read_as, unread}
use Rattle.document_entries.proofs.places.fill_location.Goals as goal

pub returns-in-Ok : goal.returns-in-Ok
returns-in-Ok c = read_as c.args.place _ _ _ c.in_ok-text.ensures (location_found c.law_of_one_location.ensures _ _ c.in-Ok.ensures)

pub returns-in-Err-BadText : goal.returns-in-Err-BadText
returns-in-Err-BadText c = unread c.args.place _ _ c.in_ok-text.ensures (location_none c.in_ok-text.text.now (rw c.in-Err-BadText.field-0-is at c.in-Err-BadText.ensures))
