-- What the book has rows for.
use Rattle.std.proofs.Common.{◌≡◌, List, Some, sym, subst}
use Rattle.std.specs.Prelude.{IsTrue}
use Rattle.operands.specs.declared.weight.Weight.{Weight}
use Rattle.asset_lists.specs.declared.units.AssetId.{AssetId}
use Rattle.asset_lists.specs.declared.units.AssetId.TheVariants.{Concrete}
use Rattle.asset_lists.specs.declared.units.Kind.{Kind}
use Rattle.asset_bundles.specs.Bundles.{Bundle}
use Rattle.asset_bundles.specs.Books.{Book}
use Rattle.asset_lists.specs.Listed.{lists, listed_of}
use Rattle.weight_trader.specs.Purchases.{Line, coin_of, AreRatesListed, is_covered, paying}
use Rattle.weight_trader.proofs.Changes.{found_passes}

-- the asset that is bought with is listed
pub listed_paying : (w : Weight) (payment : Bundle) (lines : List Line) (line : Line) (asset : AssetId) (book : Book) → AreRatesListed book.listed lines
    → paying w payment lines ≡ Some line → asset ≡ Concrete line.rate.asset → IsTrue (lists book.listed (asset, Kind.Fungible))
listed_paying w payment lines line asset book listed first is =
    subst (λ id. IsTrue (lists book.listed (id, Kind.Fungible))) (sym is)
    (found_passes (is_covered w payment) (λ (line : Line). IsTrue (lists book.listed (listed_of (coin_of line.rate)))) lines line listed first).1
