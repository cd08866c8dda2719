use Rattle.std.proofs.Common.{◌≡◌, ◌∙◌, List, Some, refl, subst, IfOk, string_bytes}
use Rattle.std.proofs.lemmas.Result.{IfOk-weaker}
use Rattle.exec_base.specs.Part.{ChainPart}
use Rattle.network_steps.specs.Worlds.{parts_of}
use Rattle.chain_net.specs.Nets.{world_of}
use Rattle.report_text.specs.Block as supply
use Rattle.report_text.specs.Sheets.{IsWrittenOf}
use Rattle.report_blocks.specs.Tables.{IsKeptOf}
use Rattle.report_blocks.specs.Reads as reads
use Rattle.report_blocks.proofs.Reading.{supply_is}
use Rattle.report_blocks.proofs.reads.first_supply_block.Goals as goal

pub returns-then-is_current : goal.returns-then-is_current
returns-then-is_current c =
    let w = world_of c.args.net.now in
    let sheet = c.in-Some.sheet in
    let kept : IsKeptOf (Some sheet) w = subst (λ o. IsKeptOf o w) c.in-Some.is c.requires in
    let current : IsWrittenOf (parts_of w) sheet = c.is_current.ensures c.if-is_current.true (parts_of w) kept in
    IfOk-weaker c.text.result
    (λ text. (parts : List ChainPart) → IsWrittenOf parts sheet → string_bytes text ≡ supply.supply_block parts)
    (λ text. string_bytes text ≡ reads.world_supply_block w)
    (λ text says. says (parts_of w) current ∙ supply_is (parts_of w) w refl) c.text.ensures

pub returns : goal.returns
returns c = subst (λ t. IfOk c.supply_block.result (λ text. string_bytes text ≡ t)) (supply_is _ (world_of c.args.net.now) c.chains.ensures) c.supply_block.ensures
