use Rattle.std.proofs.Common.{◌≡◌, subst, IfOk, string_bytes}
use Rattle.report_text.specs.Block.{supply_block}
use Rattle.generator.proofs.generating.supply_block.Goals as goal

pub returns : goal.returns
returns c = subst (λ parts. IfOk c.supply_block.result (λ text. string_bytes text ≡ supply_block parts)) c.chains.ensures c.supply_block.ensures
