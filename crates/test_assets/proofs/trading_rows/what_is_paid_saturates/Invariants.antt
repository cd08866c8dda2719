use Rattle.weight_trader.specs.Purchases.{AreRatesListed}
use Rattle.test_assets.proofs.trading_rows.what_is_paid_saturates.Given as goal

abbrev pub invariant-loop : goal.invariant-loop
invariant-loop g l = AreRatesListed l.shop.book.listed l.shop.trader
