use Rattle.std.proofs.Common.{sym, ap, ◌∙◌}
use Rattle.exec_base.specs.Part.{ChainPart}
use Rattle.exec_base.specs.Host.{ByWithdrawal, is_cargo}
use Rattle.chain_state.specs.PartOf.{part_of}
use Rattle.chain_state.proofs.Arrived.{still_cargo}
use Rattle.chain_state.proofs.state.ChainState.withdraw.Goals as goal

pub land_cargo-requires-clause-taken : goal.land_cargo-requires-clause-taken
land_cargo-requires-clause-taken c =
    let p = part_of c.args.self.now in
    ap (λ (q : ChainPart). is_cargo q ByWithdrawal c.args.a.now) c.in_ok-goods.ensures.2
    ∙ still_cargo p ByWithdrawal c.args.a.now c.args.who.now ∙ sym c.in_ok-ends.ensures ∙ c.if-ends.true
