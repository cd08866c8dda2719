-- A list of assets that an instruction speaks of is in holding order.
use Rattle.std.proofs.Common.{◌≡◌, zero, suc, true, false, List, [], ◌∷◌}
use Rattle.std.specs.Prelude.{nat_eq}
use Rattle.std.specs.declared.cmp.Ordering.TheVariants.{Less}
use Rattle.std.specs.List.{AllByRecursion}
use Rattle.std.specs.List.Sorted.{IsStrictlySortedBy}
use Rattle.std.specs.Map.{keys_of}
use Rattle.std.proofs.lemmas.Bool.{and_parts}
use Rattle.amounts.specs.Rows.{IsPositive}
use Rattle.asset_lists.specs.declared.units.Asset.{Asset}
use Rattle.asset_lists.specs.Units.{Unit, unit_of, amount_of, unit_cmp, is_before}
use Rattle.asset_lists.specs.UnitLaws.{unit_total}
use Rattle.asset_lists.specs.Lists.{has_zero, is_rising, IsAssetList}
use Rattle.asset_bundles.specs.Bundles.{rows_of, IsHolding}
use Rattle.plain_lists.proofs.Lemmas.Facts.{less_told as less_is, neither_true as neither, not_zero_positive as above_zero}

pub all_above : (u v : Unit) (us : List Unit) → unit_cmp u v ≡ Less → AllByRecursion (λ w. unit_cmp v w ≡ Less) us → AllByRecursion (λ w. unit_cmp u w ≡ Less) us
all_above u v [] first all = tt
all_above u v (w ∷ us) first all = (unit_total.trans u v w first all.0, all_above u v us first all.1)

pub rising_keys : (xs : List Asset) → is_rising xs ≡ true → IsStrictlySortedBy unit_cmp (keys_of (rows_of xs))
unfolding IsStrictlySortedBy
rising_keys [] rising = tt
rising_keys (a ∷ []) rising = (tt, tt)
rising_keys (a ∷ b ∷ xs) rising =
    let parts = and_parts (is_before a b) (is_rising (b ∷ xs)) rising in
    let rest = rising_keys (b ∷ xs) parts.1 in
    let first = less_is (unit_cmp (unit_of a) (unit_of b)) parts.0 in
    ((first, all_above (unit_of a) (unit_of b) (keys_of (rows_of xs)) first rest.0), rest)

pub positive_rows : (xs : List Asset) → has_zero xs ≡ false → IsPositive (rows_of xs)
positive_rows [] none = tt
positive_rows (a ∷ xs) none =
    let parts = neither (nat_eq (amount_of a) 0) (has_zero xs) none in
    (above_zero (amount_of a) parts.0, positive_rows xs parts.1)

pub holding_of_list : (xs : List Asset) → IsAssetList xs → IsHolding xs
holding_of_list xs list = record { rising = rising_keys xs list.rising; positive = positive_rows xs list.no_zero }
