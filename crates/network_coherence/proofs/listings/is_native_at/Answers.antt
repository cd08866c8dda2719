use Rattle.std.proofs.Common.{◌∙◌, ap, sym}
use Rattle.std.specs.List.{list_any}
use Rattle.law_coherence.specs.Causes.{lists_native}
use Rattle.network_coherence.specs.Answers.{document_table}
use Rattle.network_coherence.proofs.Listing.{any_table}
use Rattle.network_coherence.proofs.listings.is_native_at.Goals as goal

pub returns : goal.returns
returns c =
    let test = lists_native (document_table c.args.spec.now c.args.here.now) c.args.row.now c.args.chain in
    c.some_lists_native.ensures ∙ ap (list_any (λ there. test (document_table c.args.spec.now there))) c.items.ensures ∙ sym (any_table c.args.spec.now test c.args.spec.now.chains)
