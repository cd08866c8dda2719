use Rattle.std.proofs.Common.{◌≡◌, true, sym, ◌∙◌, subst}
use Rattle.asset_lists.specs.Lists.{is_rising}
use Rattle.asset_lists.proofs.Lemmas.{once_each}
use Rattle.exec_base.specs.Host.{arrival_of}
use Rattle.chain_state.specs.PartOf.{part_of}
use Rattle.chain_state.specs.Arrivals.{arrival_by}
use Rattle.chain_state.proofs.Arrived.{ended_cargo}
use Rattle.chain_state.proofs.state.ChainState.arrived.Goals as goal

pub mint-requires-clause-once : goal.mint-requires-clause-once
mint-requires-clause-once c = once_each c.items.result.now (subst (λ xs. is_rising xs ≡ true) (sym c.items.ensures.value) c.items.ensures.list.rising)

pub returns-then-teleport-clause-ended : goal.returns-then-teleport-clause-ended
returns-then-teleport-clause-ended c =
    ended_cargo (part_of c.args.self.now) (part_of c.land_cargo.new.self) (arrival_by c.call_of.result) (arrival_of c.args.teleport) c.args.list.now true
    (sym c.if-ends.true ∙ c.in_ok-ends.ensures) c.call_of.ensures c.land_cargo.ensures.ended

pub returns-clause-ended : goal.returns-clause-ended
returns-clause-ended c =
    ended_cargo (part_of c.args.self.now) (part_of c.end_deposit.new.self) (arrival_by c.call_of.result) (arrival_of c.args.teleport) c.args.list.now c.in_ok-ends.ends
    c.in_ok-ends.ensures c.call_of.ensures c.end_deposit.ensures
