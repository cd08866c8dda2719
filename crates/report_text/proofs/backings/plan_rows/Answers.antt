use Rattle.std.proofs.Common.{map, arith}
use Rattle.chain_state.specs.PartOf.{part_of}
use Rattle.supply_audit.proofs.Lemmas.ListLaws.{one_more, none_left}
use Rattle.supply_audit.specs.Places.{chain_table}
use Rattle.report_text.specs.Plan.{planned_if}
use Rattle.report_text.proofs.backings.plan_rows.Goals as goal

pub loop-place-preserved : goal.loop-place-preserved
loop-place-preserved c =
    one_more (planned_if (map chain_table (map part_of c.args.chains.now)) c.args.site.now) c.args.rows.now c.loop-place.place c.index-rows-place.result
    c.loop-place.entries.items c.plan_row.new.entries.items _ c.loop-place-test.true c.index-rows-place.is c.in_ok-plan_row.ensures c.loop-place.invariant

pub returns : goal.returns
returns c =
    none_left (planned_if (map chain_table (map part_of c.args.chains.now)) c.args.site.now) c.args.rows.now c.loop-place.place
    c.loop-place.entries.items _ (omega arith) c.loop-place.invariant
