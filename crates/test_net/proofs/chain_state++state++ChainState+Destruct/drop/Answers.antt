use Rattle.chain_state.proofs.Lemmas.Known.{all_there}
use Rattle.test_net.proofs.chain_state++state++ChainState+Destruct.drop.Goals as goal

pub invariant_of-drop : goal.invariant_of-drop
invariant_of-drop c = all_there c.args.arg1
