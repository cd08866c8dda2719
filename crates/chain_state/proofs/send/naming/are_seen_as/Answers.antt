use Rattle.chain_state.proofs.NamedLists.{seen_on, seen_all}
use Rattle.chain_state.proofs.send.naming.are_seen_as.Goals as goal

pub loop-i-preserved : goal.loop-i-preserved
loop-i-preserved c =
    seen_on c.args.target.now c.args.context.now c.args.list.now c.args.named.now c.loop-i.i _ _ c.loop-i-test.true (rw (← c.if-list-named.false) c.loop-i-test.true)
    c.index-list-i.is c.index-named-i.is (c.is_seen_as.ensures c.if-not-is_seen_as.false) c.loop-i.invariant

pub returns : goal.returns
returns c = λ _. seen_all c.args.target.now c.args.context.now c.args.list.now c.args.named.now c.loop-i.i c.loop-i-test.false c.if-list-named.false c.loop-i.invariant
