use Rattle.std.proofs.Common.{◌≡◌, ◌+◌, List, map, subst, take, arith}
use Rattle.std.proofs.lemmas.List.{take_all}
use Rattle.chain_state.specs.declared.state.ChainState.{ChainState}
use Rattle.chain_state.specs.PartOf.{part_of}
use Rattle.supply_audit.specs.Supply.{at_homes}
use Rattle.supply_audit.specs.Supplies.{HasSums, rows_part, supply_in}
use Rattle.supply_audit.proofs.Tables.{along, homes_more, supply_is}
use Rattle.supply_audit.proofs.table.Supplies.of.Goals as goal

pub loop-chain-preserved : goal.loop-chain-preserved
loop-chain-preserved c = λ a.
    let chains = c.args.chains.now in
    let k = c.loop-chain.chain-index in
    let p = part_of c.chain-item.result in
    along (supply_in c.add_chain.new.sums.entries a)
    (λ w. at_homes w a (map part_of (take k chains)) + rows_part p p.rows a w) (λ w. at_homes w a (map part_of (take (k + 1) chains)))
    (λ w. homes_more part_of chains k c.chain-item.result c.loop-chain-test.true c.chain-item.is a w)
    (c.in_ok-add_chain.ensures a (λ w. at_homes w a (map part_of (take k chains))) (c.loop-chain.invariant a))

pub returns : goal.returns
returns c = λ a.
    let chains = c.args.chains.now in
    let sums = supply_in c.loop-chain.sums.entries a in
    let all : take c.loop-chain.chain-index chains ≡ chains = take_all c.loop-chain.chain-index chains (omega arith) in
    supply_is sums a (map part_of chains) (subst (λ (xs : List ChainState). HasSums sums (λ w. at_homes w a (map part_of xs))) all (c.loop-chain.invariant a))
