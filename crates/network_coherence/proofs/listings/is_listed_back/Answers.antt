use Rattle.std.proofs.Common.{◌∙◌, ap, sym}
use Rattle.std.specs.List.{list_any}
use Rattle.law_coherence.specs.Causes.{lists_back}
use Rattle.network_coherence.specs.Answers.{document_table}
use Rattle.network_coherence.proofs.Listing.{any_table}
use Rattle.network_coherence.proofs.listings.is_listed_back.Goals as goal

pub returns : goal.returns
returns c =
    let test = lists_back (document_table c.args.spec.now c.args.here.now) c.args.row.now c.args.chain in
    c.some_lists_back.ensures ∙ ap (list_any (λ there. test (document_table c.args.spec.now there))) c.items.ensures ∙ sym (any_table c.args.spec.now test c.args.spec.now.chains)
