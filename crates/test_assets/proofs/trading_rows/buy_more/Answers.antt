use Rattle.weight_trader.proofs.Lemmas.ListedLaws.{purchased_listed}
use Rattle.test_assets.proofs.trading_rows.buy_more.Goals as goal

pub returns-in-Ok : goal.returns-in-Ok
returns-in-Ok c = purchased_listed _ _ _ _ _ _ _ c.requires c.in-Ok.ensures.bought
