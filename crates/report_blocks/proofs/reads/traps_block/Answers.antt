use Rattle.std.proofs.Common.{◌≡◌, subst, IfOk, string_bytes}
use Rattle.chain_state.specs.PartOf.{part_of}
use Rattle.chain_net.specs.Nets.{world_of}
use Rattle.report_blocks.proofs.Reading.{traps_are}
use Rattle.report_blocks.proofs.reads.traps_block.Goals as goal

pub returns : goal.returns
returns c = subst (λ t. IfOk c.traps_text.result (λ text. string_bytes text ≡ t)) (traps_are part_of c.chains.result.now (world_of c.args.net.now) c.chains.ensures) c.traps_text.ensures
