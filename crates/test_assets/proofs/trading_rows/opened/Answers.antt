use Rattle.std.proofs.Common.{[], ◌∷◌, map, sym, ap, subst, ◌∙◌}
use Rattle.asset_lists.specs.Listed.{Listed, listed_of}
use Rattle.asset_bundles.specs.Books.{Book}
use Rattle.weight_trader.specs.Purchases.{coin_of, AreRatesListed}
use Rattle.weight_trader.proofs.Lemmas.ListedLaws.{listed_at, lines_listed}
use Rattle.test_assets.proofs.trading_rows.opened.Goals as goal

pub returns : goal.returns
returns c =
    subst (λ ks. AreRatesListed ks c.in_ok-trader.trader)
    (sym (ap (λ (b : Book). b.listed) c.in_ok-book.ensures
    ∙ ap (λ (row : Listed). row ∷ c.row-2.result ∷ []) c.row.ensures ∙ ap (λ (row : Listed). listed_of (coin_of c.args.first) ∷ row ∷ []) c.row-2.ensures
    ∙ ap (map listed_at) (sym c.in_ok-trader.ensures.lines)))
    (lines_listed c.in_ok-trader.trader)
