use Rattle.std.proofs.Common.{ap, sym, ◌∙◌}
use Rattle.std.specs.Prelude.{option_map}
use Rattle.chain_ids.specs.Chains.{same_chain}
use Rattle.exec_base.specs.Part.{ChainPart}
use Rattle.chain_state.specs.PartOf.{part_of}
use Rattle.supply_audit.proofs.audit.chain_at.Goals as goal
use Rattle.plain_lists.proofs.Lemmas.Facts.{find_mapped as find-map}

pub returns : goal.returns
returns c = ap (option_map part_of) c.find_chain.ensures ∙ sym (find-map part_of (λ (p : ChainPart). same_chain p.site.chain c.args.chain) c.args.chains.now)
