use Rattle.chain_state.specs.PartOf.{part_of}
use Rattle.chain_state.proofs.Claims.{unknown, known, taken}
use Rattle.chain_state.proofs.state.ChainState.claim.Goals as goal

pub returns-in-Ok : goal.returns-in-Ok
returns-in-Ok c =
    let p = part_of c.args.self.now in
    let is = c.in-Ok.ensures.1 in
    record { step = (known p c.args.a.now c.args.origin.now c.claim.new.self is, c.in-Ok.ensures.0, taken p c.args.a.now c.args.origin.now c.claim.new.self is) }

pub returns-in-Err : goal.returns-in-Err
returns-in-Err c =
    let p = part_of c.args.self.now in
    record { step = (unknown p c.args.a.now c.args.origin.now c.in-Err.ensures.0, λ i. record p { traps = c.in-Err.ensures.1 i }) }
