use Rattle.chain_state.proofs.NamedLists.{Follows}
use Rattle.chain_state.proofs.send.naming.are_seen_as.Given as goal

abbrev pub invariant-loop-i : goal.invariant-loop-i
invariant-loop-i l = Follows l.target l.context l.list l.named l.i
