use Rattle.std.proofs.Common.{◌∙◌, ◌++◌, ap, List, flat_map, arith}
use Rattle.std.specs.List.{enumerate_from}
use Rattle.trust_tables.specs.declared.rows.AssetRow.{AssetRow}
use Rattle.law_coherence.specs.Networks.{is_home}
use Rattle.chain_state.specs.PartOf.{part_of}
use Rattle.supply_audit.proofs.Lemmas.ListLaws.{one_more, none_left}
use Rattle.supply_audit.specs.Places.{chain_table}
use Rattle.supply_audit.specs.RowPlaces.{place_if, places_in}
use Rattle.supply_audit.proofs.Tables.{row_has_path}
use Rattle.supply_audit.proofs.home_places.add_rows.Goals as goal

pub add_row-requires-clause-path : goal.add_row-requires-clause-path
add_row-requires-clause-path c = row_has_path c.args.chain.now c.rows-rows.result.now c.loop-k.k c.index-rows-k.result c.rows-rows.ensures c.loop-k-test.true c.index-rows-k.is

pub loop-k-preserved : goal.loop-k-preserved
loop-k-preserved c = λ a.
    let t = chain_table (part_of c.args.chain.now) in
    one_more (place_if (is_home a t) t a c.args.number) c.rows-rows.result.now c.loop-k.k c.index-rows-k.result
    (places_in c.loop-k.places.entries a) (places_in c.add_row.new.places.entries a) _ c.loop-k-test.true c.index-rows-k.is (c.in_ok-add_row.ensures a) (c.loop-k.invariant a)

pub returns : goal.returns
returns c = λ a.
    let t = chain_table (part_of c.args.chain.now) in
    none_left (place_if (is_home a t) t a c.args.number) c.rows-rows.result.now c.loop-k.k (places_in c.loop-k.places.entries a) _ (omega arith) (c.loop-k.invariant a)
    ∙ ap (λ (rows : List AssetRow). places_in c.args.places.now.entries a ++ flat_map (place_if (is_home a t) t a c.args.number) (enumerate_from 0 rows)) c.rows-rows.ensures
