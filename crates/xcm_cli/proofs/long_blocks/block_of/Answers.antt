use Rattle.std.proofs.Common.{ap}
use Rattle.report_blocks.specs.Asked.{world_step}
use Rattle.xcm_cli.proofs.long_blocks.block_of.Goals as goal

pub returns-in-Balances : goal.returns-in-Balances
returns-in-Balances c = ap world_step c.in-Balances.is

pub returns-in-Traps : goal.returns-in-Traps
returns-in-Traps c = ap world_step c.in-Traps.is

pub returns-in-Queues : goal.returns-in-Queues
returns-in-Queues c = ap world_step c.in-Queues.is
