-- What the book is after a shipment is lost: a teleport is burned, and a withdrawal leaves it as it was.
use Rattle.asset_bundles.specs.declared.book.Cause.{Cause}
use Rattle.asset_bundles.specs.declared.shipment.Way.{Way}
use Rattle.asset_bundles.specs.Bundles.{Bundle}
use Rattle.asset_bundles.specs.Books.{Book, Booked, burned_for}

abbrev pub book_after_loss : Way → Bundle → Book → Book
book_after_loss Way.Withdrawal goods book = book
book_after_loss Way.Teleport goods book = Booked book (burned_for Cause.LostTeleport goods)
