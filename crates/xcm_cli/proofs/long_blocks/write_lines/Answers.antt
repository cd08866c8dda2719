use Rattle.chain_net.specs.Nets.{world_of, spec_of}
use Rattle.xcm_cli.proofs.Pieces.{pieces_as, balances_lines, traps_lines, queues_lines}
use Rattle.xcm_cli.proofs.long_blocks.write_lines.Goals as goal

pub returns-in-Balances : goal.returns-in-Balances
returns-in-Balances g c = pieces_as _ _ _ _ _ _ _ (balances_lines (spec_of c.args.net.now) (world_of c.args.net.now) c.args.block c.in-Balances.is) c.write_balances.ensures

pub returns-in-Traps : goal.returns-in-Traps
returns-in-Traps g c = pieces_as _ _ _ _ _ _ _ (traps_lines (spec_of c.args.net.now) (world_of c.args.net.now) c.args.block c.in-Traps.is) c.write_traps.ensures

pub returns-in-Queues : goal.returns-in-Queues
returns-in-Queues g c = pieces_as _ _ _ _ _ _ _ (queues_lines (spec_of c.args.net.now) (world_of c.args.net.now) c.args.block c.in-Queues.is) c.write_channels.ensures
