use Rattle.chain_state.specs.Known.{few_pallets}
use Rattle.chain_state.proofs.state.ChainState.pallets.Goals as goal

pub returns-clause-few : goal.returns-clause-few
returns-clause-few c = few_pallets c.args.self.now
