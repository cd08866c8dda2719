use Rattle.asset_lists.specs.Units.{unit_of}
use Rattle.asset_lists.specs.Listed.{listed_of, lists}
use Rattle.trust_tables.specs.Trust.{listing}
use Rattle.chain_state.proofs.state.ChainState.lines.Goals as goal
use Rattle.plain_lists.proofs.Lemmas.Facts.{all_at}

pub line-requires : goal.line-requires
line-requires c = all_at (λ a. lists (listing c.args.self.now.settings.rows) (listed_of (unit_of a))) c.args.list.now c.loop-asset.asset-index c.asset-item.result c.requires c.loop-asset-test.true c.asset-item.is
