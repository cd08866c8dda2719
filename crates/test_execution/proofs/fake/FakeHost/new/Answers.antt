use Rattle.chain_state.proofs.Lemmas.Known.{all_there}
use Rattle.test_execution.proofs.fake.FakeHost.new.Goals as goal

pub invariant_of-chain : goal.invariant_of-chain
invariant_of-chain c = all_there c.place_all.new.self
