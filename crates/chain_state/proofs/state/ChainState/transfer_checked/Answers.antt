use Rattle.std.proofs.Common.{refl, sym, ◌∙◌}
use Rattle.transactors.specs.Moves.{after_transfer}
use Rattle.exec_base.specs.Part.{accounts_of}
use Rattle.chain_state.specs.PartOf.{part_of}
use Rattle.chain_state.proofs.Transacted.{transfer, fault_is, checked_gives, floors_checked, listing_checked}
use Rattle.chain_state.proofs.state.ChainState.transfer_checked.Goals as goal

pub transfer_checked-requires : goal.transfer_checked-requires
transfer_checked-requires c =
    record { free = sym (fault_is c.args.self.now c.transactors_of-movers.ensures (transfer c.args.list.now (λ site. c.args.giver) (λ site. c.args.taker))) ∙ c.requires.free }

pub returns-clause-step : goal.returns-clause-step
returns-clause-step c =
    let p = part_of c.args.self.now in
    let list = c.args.list.now in
    checked_gives c.args.self.now c.transactors_of-movers.ensures (transfer list (λ site. c.args.giver) (λ site. c.args.taker))
    (record p { held = (after_transfer list c.args.giver c.args.taker (accounts_of p)).held }) refl
    c.transfer_checked.result c.transfer_checked.new.ledger c.transfer_checked.ensures.transferred c.transfer_checked.ensures.kept

pub invariant_of-self-clause-floors : goal.invariant_of-self-clause-floors
invariant_of-self-clause-floors c =
    let f = c.args.self.now in
    let list = c.args.list.now in
    let move = transfer list (λ site. c.args.giver) (λ site. c.args.taker) in
    let once = c.law_of_bundles.ensures.from_lists list c.items-items.ensures.list in
    let free = sym (fault_is f c.transactors_of-movers.ensures move) ∙ c.requires.free in
    floors_checked f c.transactors_of-movers.ensures move c.transfer_checked.result c.transfer_checked.new.ledger c.transfer_checked.ensures.transferred c.transfer_checked.ensures.kept
    (λ rows site floors. c.law_of_floors_of_moves.ensures.transferred rows floors f.ledger list c.args.giver c.args.taker once) free

pub invariant_of-self-clause-ledger_lists : goal.invariant_of-self-clause-ledger_lists
invariant_of-self-clause-ledger_lists c =
    listing_checked c.args.self.now c.transactors_of-movers.ensures (transfer c.args.list.now (λ site. c.args.giver) (λ site. c.args.taker))
    c.transfer_checked.result c.transfer_checked.new.ledger c.transfer_checked.ensures.transferred c.transfer_checked.ensures.kept
