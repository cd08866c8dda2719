use Rattle.std.proofs.Common.{◌∙◌, ap, sym}
use Rattle.std.specs.Prelude.{length, map, unwrap_or}
use Rattle.chain_ids.specs.Chains.{same_chain}
use Rattle.law_coherence.specs.Networks.{Table}
use Rattle.exec_base.specs.Part.{ChainPart}
use Rattle.chain_state.specs.declared.state.ChainState.{ChainState}
use Rattle.chain_state.specs.PartOf.{part_of}
use Rattle.supply_audit.proofs.Lemmas.PlaceLaws.{position_map}
use Rattle.supply_audit.specs.Places.{chain_table}
use Rattle.supply_audit.proofs.Listing.{number_is}
use Rattle.supply_audit.proofs.cover.number_of.Goals as goal

pub returns : goal.returns
returns c =
    let chains = c.args.chains.now in
    c.unwrap_or.ensures
    ∙ ap (λ o. unwrap_or o (length chains)) c.place_of.ensures
    ∙ number_is (λ (s : ChainState). same_chain (part_of s).site.chain c.args.chain) chains
    ∙ sym (position_map chain_table (λ (t : Table). same_chain t.site.chain c.args.chain) (map part_of chains)
    ∙ position_map part_of (λ (p : ChainPart). same_chain p.site.chain c.args.chain) chains)
