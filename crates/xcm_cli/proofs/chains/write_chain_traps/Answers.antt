use Rattle.xcm_cli.proofs.Pieces.{none_for}
use Rattle.xcm_cli.proofs.chains.write_chain_traps.Goals as goal

pub returns-in-Err : goal.returns-in-Err
returns-in-Err g c = none_for _ _ _ c.in-Err.refused
