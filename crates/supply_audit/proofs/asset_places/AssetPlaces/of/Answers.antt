use Rattle.std.proofs.Common.{◌∙◌, ℕ, true, sym, map, arith}
use Rattle.exec_base.specs.Part.{ChainPart}
use Rattle.chain_state.specs.declared.state.ChainState.{ChainState}
use Rattle.chain_state.specs.PartOf.{part_of}
use Rattle.supply_audit.proofs.Lemmas.ListLaws.{one_more, none_left, of_mapped}
use Rattle.supply_audit.specs.Places.{chain_table}
use Rattle.supply_audit.specs.RowPlaces.{chain_places, places_in}
use Rattle.supply_audit.proofs.asset_places.AssetPlaces.of.Goals as goal

pub loop-number-preserved : goal.loop-number-preserved
loop-number-preserved c = λ a.
    one_more (λ (x : ℕ × ChainState). chain_places true a (x.0, chain_table (part_of x.1))) c.args.chains.now c.loop-number.number c.index-chains-number.result
    (places_in c.loop-number.places.entries a) (places_in c.add_rows.new.places.entries a) _ c.loop-number-test.true c.index-chains-number.is
    (c.in_ok-add_rows.ensures a) (c.loop-number.invariant a)

pub returns : goal.returns
returns c = λ a.
    none_left (λ (x : ℕ × ChainState). chain_places true a (x.0, chain_table (part_of x.1))) c.args.chains.now c.loop-number.number (places_in c.loop-number.places.entries a) _ (omega arith)
    (c.loop-number.invariant a)
    ∙ sym (of_mapped (chain_places true a) chain_table 0 (map part_of c.args.chains.now)
    ∙ of_mapped (λ (x : ℕ × ChainPart). chain_places true a (x.0, chain_table x.1)) part_of 0 c.args.chains.now)
