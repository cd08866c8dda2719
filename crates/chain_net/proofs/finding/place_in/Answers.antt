use Rattle.chain_net.proofs.Searches.{found, absent}
use Rattle.chain_net.proofs.finding.place_in.Goals as goal

pub returns-in-Ok : goal.returns-in-Ok
returns-in-Ok c = found c.args.names.now c.requires.order c.args.chain c.in-Ok.place c.in-Ok.ensures.bound c.in-Ok.ensures.position

pub returns-in-Err : goal.returns-in-Err
returns-in-Err c = absent c.args.names.now c.requires.order c.args.chain c.in-Err.field-0 c.in-Err.ensures.bound c.in-Err.ensures.position
