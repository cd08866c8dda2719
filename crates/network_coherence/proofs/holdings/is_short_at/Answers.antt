use Rattle.std.proofs.Common.{◌∙◌}
use Rattle.law_coherence.specs.Networks.{asset_of_row}
use Rattle.network_steps.specs.Genesis.{entry_of}
use Rattle.network_coherence.specs.Answers.{document_table}
use Rattle.network_coherence.proofs.Listing.{not_there, there}
use Rattle.network_coherence.proofs.holdings.is_short_at.Goals as goal

pub returns-in-None : goal.returns-in-None
returns-in-None c = not_there c.args.spec.now (asset_of_row (document_table c.args.spec.now c.args.here.now) c.args.row.now) (entry_of c.args.spec.now c.args.here.now) c.args.reserve c.in-None.ensures

pub returns-in-Some : goal.returns-in-Some
returns-in-Some c =
    c.is_short.ensures
    ∙ there c.args.spec.now (asset_of_row (document_table c.args.spec.now c.args.here.now) c.args.row.now) (entry_of c.args.spec.now c.args.here.now) c.args.reserve _ c.in-Some.ensures
