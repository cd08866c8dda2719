use Rattle.std.proofs.Common.{◌∙◌, ap, sym, map}
use Rattle.std.specs.Prelude.{option_map}
use Rattle.std.specs.Option.{option_copied}
use Rattle.std.proofs.lemmas.Option.{slice_get-map}
use Rattle.chain_state.specs.PartOf.{part_of}
use Rattle.supply_audit.specs.Places.{chain_table}
use Rattle.supply_audit.proofs.Listing.{seen_twice}
use Rattle.supply_audit.proofs.cover.listed_chain.Goals as goal

pub returns : goal.returns
returns c =
    seen_twice chain_table part_of (option_copied c.chain_of.result)
    ∙ ap (option_map chain_table) c.chain_of.ensures
    ∙ sym (slice_get-map chain_table (map part_of c.args.chains.now) c.args.number)
