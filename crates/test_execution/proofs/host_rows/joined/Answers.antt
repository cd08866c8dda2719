use Rattle.trust_tables.specs.Trust.{listing}
use Rattle.test_execution.proofs.host_rows.joined.Goals as goal

pub join-requires : goal.join-requires
join-requires c = record { listed = c.law_of_listed_assets.ensures.no_excess (listing c.taken.new.chain.settings.rows) c.take.new.self c.in-Ok.part c.in-Ok.ensures.fits_back }
