use Rattle.std.proofs.Common.{◌≡◌, ◌∙◌, List, map, subst, IfOk, string_bytes}
use Rattle.std.proofs.lemmas.Result.{IfOk-weaker}
use Rattle.exec_base.specs.Part.{ChainPart}
use Rattle.chain_state.specs.PartOf.{part_of}
use Rattle.chain_net.specs.Nets.{world_of}
use Rattle.report_text.specs.Block as supply
use Rattle.report_text.specs.Sheets.{IsWrittenOf}
use Rattle.report_blocks.specs.Reads as reads
use Rattle.report_blocks.proofs.Reading.{supply_is}
use Rattle.report_blocks.proofs.reads.supply_block.Goals as goal

pub returns-in-None-clause-text : goal.returns-in-None-clause-text
returns-in-None-clause-text c =
    subst (λ t. IfOk c.supply_block.result (λ text. string_bytes text ≡ t)) (supply_is _ (world_of c.args.net.now) c.chains.ensures) c.supply_block.ensures

pub returns-in_ok-renew-in-Some-clause-text : goal.returns-in_ok-renew-in-Some-clause-text
returns-in_ok-renew-in-Some-clause-text c =
    let parts = map part_of c.chains-in-Some.result.now in
    let w = world_of c.args.net.now in
    IfOk-weaker c.written.result
    (λ text. (parts : List ChainPart) → IsWrittenOf parts c.renew.new.self → string_bytes text ≡ supply.supply_block parts)
    (λ text. string_bytes text ≡ reads.world_supply_block w)
    (λ text says. says parts c.in_ok-renew-in-Some.ensures ∙ supply_is parts w c.chains-in-Some.ensures) c.written.ensures.text
