use Rattle.asset_bundles.proofs.Places.{fits_here}
use Rattle.asset_bundles.proofs.rows.fits_at.Goals as goal

pub returns-in-Some : goal.returns-in-Some
returns-in-Some c = fits_here c.args.list.now c.args.origin.now c.args.rows.now.entries c.args.place c.in-Some.trap.now c.fits.result c.in-Some.ensures.value c.fits.ensures
