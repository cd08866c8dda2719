use Rattle.chain_net.specs.Nets.{world_of}
use Rattle.xcm_cli.proofs.Pieces.{pieces_as, traps_are}
use Rattle.xcm_cli.proofs.chains.write_traps.Goals as goal

pub returns : goal.returns
returns g c = pieces_as _ _ _ _ _ _ _ (traps_are c.chains.result.now (world_of c.args.net.now) c.chains.ensures) c.write_all_traps.ensures
