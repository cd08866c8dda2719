use Rattle.xcm_cli.proofs.Pieces.{block_asked}
use Rattle.xcm_cli.proofs.long_blocks.long_block.Goals as goal

pub returns-in-Step : goal.returns-in-Step
returns-in-Step c = block_asked c.args.line.now _ _ c.in-Step.is c.block_of.ensures
