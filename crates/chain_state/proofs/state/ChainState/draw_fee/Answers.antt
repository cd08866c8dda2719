use Rattle.std.proofs.Common.{◌<◌, ◌^◌, subst}
use Rattle.chain_state.specs.PartOf.{part_of}
use Rattle.chain_state.proofs.Transacted.{fee_returns}
use Rattle.chain_state.proofs.state.ChainState.draw_fee.Goals as goal

pub returns-clause-back : goal.returns-clause-back
returns-clause-back c =
    let fee = c.args.fee.now in
    fee_returns (part_of c.args.self.now) fee c.args.who.now c.in_ok-list.list c.withdraw_list.result (part_of c.withdraw_list.new.self) c.in_ok-list.ensures c.requires.price
    (λ account at. subst (λ n. n < 2 ^ 128) (c.held_at-have.ensures account at) c.held_at-have.type_inv) c.withdraw_list.ensures
