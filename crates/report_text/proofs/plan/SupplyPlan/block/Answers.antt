use Rattle.std.proofs.Common.{◌≡◌, ◌∙◌, ap, map, subst, IfOk, string_bytes}
use Rattle.chain_state.specs.PartOf.{part_of}
use Rattle.report_text.specs.Plan.{planned_block}
use Rattle.report_text.proofs.Planning.{block_is}
use Rattle.report_text.proofs.plan.SupplyPlan.block.Goals as goal

pub returns : goal.returns
returns c =
    let parts = map part_of c.args.chains.now in
    subst (λ t. IfOk c.text.result (λ text. string_bytes text ≡ t)) (ap (planned_block parts) c.requires ∙ block_is parts) c.text.ensures
