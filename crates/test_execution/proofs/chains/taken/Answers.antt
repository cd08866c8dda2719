use Rattle.chain_state.specs.PartOf.{part_of}
use Rattle.test_execution.proofs.Listed.{taken_listed}
use Rattle.test_execution.proofs.chains.taken.Goals as goal

pub returns : goal.returns
returns c = record { listed = taken_listed (part_of c.args.chain.now) (part_of c.withdraw.new.self) c.args.assets.now _ c.withdraw.result c.withdraw.ensures.step }
