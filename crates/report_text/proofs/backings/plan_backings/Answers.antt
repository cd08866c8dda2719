use Rattle.std.proofs.Common.{◌∙◌, ap, sym, List, flat_map, map, arith}
use Rattle.std.proofs.lemmas.List.{take_all}
use Rattle.std.proofs.lemmas.List.Folds.{flat_map-map}
use Rattle.exec_base.specs.Part.{ChainPart}
use Rattle.chain_state.specs.PartOf.{part_of}
use Rattle.chain_state.specs.declared.state.ChainState.{ChainState}
use Rattle.supply_audit.specs.Places.{chain_table}
use Rattle.report_text.specs.Plan.{planned_backings}
use Rattle.report_text.proofs.backings.plan_backings.Goals as goal

pub returns : goal.returns
returns c =
    let tables = map chain_table (map part_of c.args.chains.now) in
    c.loop-chain.invariant
    ∙ ap (λ (xs : List ChainState). flat_map (λ (s : ChainState). planned_backings tables (chain_table (part_of s))) xs) (take_all c.loop-chain.chain-index c.args.chains.now (omega arith))
    ∙ sym (flat_map-map (planned_backings tables) chain_table (map part_of c.args.chains.now)
    ∙ flat_map-map (λ (p : ChainPart). planned_backings tables (chain_table p)) part_of c.args.chains.now)
