-- An empty bundle has nothing that a book would have to list.
use Rattle.std.proofs.Common.{◌≡◌, List, arith, sym, subst}
use Rattle.amounts.specs.Amounts.{empty}
use Rattle.amounts.proofs.Lemmas.AmountLaws.{amount-empty}
use Rattle.asset_lists.specs.Units.{unit_cmp}
use Rattle.asset_lists.specs.Listed.{Listed}
use Rattle.asset_bundles.specs.Bundles.{Bundle}
use Rattle.asset_bundles.proofs.Lemmas.Bundles.{unit_keys}
use Rattle.asset_bundles.specs.Books.{AreListed}
use Rattle.asset_bundles.specs.Joins.{Excess}
use Rattle.asset_bundles.proofs.Lemmas.{listed_excess}

nothing_listed : (listed : List Listed) → AreListed listed (empty {R = unit_cmp})
nothing_listed listed u some = let none = amount-empty unit_keys u in absurd (omega (arith, none, some))

pub listed_none : (listed : List Listed) (b : Bundle) → b ≡ empty → AreListed listed b
listed_none listed b is = subst (AreListed listed) (sym is) (nothing_listed listed)

pub listed_join : (listed : List Listed) (b c : Bundle) → b ≡ empty → c ≡ empty → AreListed listed (Excess b c)
listed_join listed b c first second = listed_excess listed b c (listed_none listed b first) (listed_none listed c second)
