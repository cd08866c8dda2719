use Rattle.std.proofs.Common.{◌∙◌, ap, map}
use Rattle.chain_state.specs.PartOf.{part_of}
use Rattle.supply_audit.specs.Places.{chain_table}
use Rattle.report_text.specs.Plan.{planned_supply}
use Rattle.report_text.proofs.Planning.{plan_is}
use Rattle.report_text.proofs.plan.SupplyPlan.of.Goals as goal

pub returns : goal.returns
returns c =
    let parts = map part_of c.args.chains.now in
    plan_is parts c.in_ok-supplies.supplies.items c.in_ok-backings.backings.items
    (c.in_ok-supplies.ensures ∙ ap (map (planned_supply (map chain_table parts))) c.in_ok-natives.ensures) c.in_ok-backings.ensures
