-- A piece of a list in holding order is a list that an instruction may name; and such a list is in holding order.
use Rattle.std.proofs.Common.{◌≡◌, ℕ, zero, suc, true, false, ◌&&◌, ◌||◌, List, [], ◌∷◌, take, refl, ap, ◌∙◌, arith}
use Rattle.std.specs.Prelude.{nat_eq}
use Rattle.std.specs.Ordering.{is_lt}
use Rattle.std.specs.declared.cmp.Ordering.TheVariants.{Less}
use Rattle.std.specs.List.{AllByRecursion}
use Rattle.std.proofs.lemmas.Bool.{and_parts}
use Rattle.std.proofs.lemmas.List.{length-take}
use Rattle.std.specs.List.Sorted.{IsStrictlySortedBy}
use Rattle.std.specs.Map.{keys_of}
use Rattle.amounts.specs.Rows.{IsPositive}
use Rattle.asset_lists.specs.Units.{Unit, unit_of, amount_of, unit_cmp}
use Rattle.asset_lists.specs.UnitLaws.{unit_total}
use Rattle.asset_lists.specs.declared.units.Asset.{Asset}
use Rattle.asset_lists.specs.Lists.{IsAssetList, is_rising, has_zero}
use Rattle.asset_bundles.specs.Bundles.{rows_of, IsHolding}
use Rattle.plain_lists.proofs.Lemmas.Facts.{less_told as less_is, neither_true as neither, not_zero_positive as not_zero, positive_not_zero as above_zero}

-- ---- a holding as a list
rises : (xs : List Asset) → IsStrictlySortedBy unit_cmp (keys_of (rows_of xs)) → is_rising xs ≡ true
unfolding IsStrictlySortedBy
rises [] sorted = refl
rises (a ∷ []) sorted = refl
rises (a ∷ b ∷ xs) sorted = ap (λ o. is_lt o && is_rising (b ∷ xs)) sorted.0.0 ∙ rises (b ∷ xs) sorted.1

none_zero : (xs : List Asset) → IsPositive (rows_of xs) → has_zero xs ≡ false
none_zero [] positive = refl
none_zero (a ∷ xs) positive = ap (λ b. b || has_zero xs) (above_zero (amount_of a) positive.0) ∙ none_zero xs positive.1

front_rises : (n : ℕ) (xs : List Asset) → is_rising xs ≡ true → is_rising (take n xs) ≡ true
front_rises zero xs h = refl
front_rises (suc n) [] h = refl
front_rises (suc zero) (a ∷ xs) h = refl
front_rises (suc (suc n)) (a ∷ []) h = refl
front_rises (suc (suc n)) (a ∷ b ∷ xs) h =
    let parts = and_parts (is_lt (unit_cmp (unit_of a) (unit_of b))) (is_rising (b ∷ xs)) h in
    ap (λ c. c && is_rising (b ∷ take n xs)) parts.0 ∙ front_rises (suc n) (b ∷ xs) parts.1

front_no_zero : (n : ℕ) (xs : List Asset) → has_zero xs ≡ false → has_zero (take n xs) ≡ false
front_no_zero zero xs h = refl
front_no_zero (suc n) [] h = refl
front_no_zero (suc n) (a ∷ xs) h =
    let parts = neither (nat_eq (amount_of a) 0) (has_zero xs) h in
    ap (λ b. b || has_zero (take n xs)) parts.0 ∙ front_no_zero n xs parts.1

pub piece_is_list : (xs : List Asset) → IsHolding xs → IsAssetList (take 20 xs)
piece_is_list xs h = record {
  few = (let l = length-take 20 xs in omega (arith, l));
  no_zero = front_no_zero 20 xs (none_zero xs h.positive);
  rising = front_rises 20 xs (rises xs h.rising);
}

-- ---- a list as a holding
all_above : (u v : Unit) (us : List Unit) → unit_cmp u v ≡ Less → AllByRecursion (λ w. unit_cmp v w ≡ Less) us → AllByRecursion (λ w. unit_cmp u w ≡ Less) us
all_above u v [] first all = tt
all_above u v (w ∷ us) first all = (unit_total.trans u v w first all.0, all_above u v us first all.1)

rising_keys : (xs : List Asset) → is_rising xs ≡ true → IsStrictlySortedBy unit_cmp (keys_of (rows_of xs))
unfolding IsStrictlySortedBy
rising_keys [] rising = tt
rising_keys (a ∷ []) rising = (tt, tt)
rising_keys (a ∷ b ∷ xs) rising =
    let parts = and_parts (is_lt (unit_cmp (unit_of a) (unit_of b))) (is_rising (b ∷ xs)) rising in
    let rest = rising_keys (b ∷ xs) parts.1 in
    let first = less_is (unit_cmp (unit_of a) (unit_of b)) parts.0 in
    ((first, all_above (unit_of a) (unit_of b) (keys_of (rows_of xs)) first rest.0), rest)

positive_rows : (xs : List Asset) → has_zero xs ≡ false → IsPositive (rows_of xs)
positive_rows [] none = tt
positive_rows (a ∷ xs) none =
    let parts = neither (nat_eq (amount_of a) 0) (has_zero xs) none in
    (not_zero (amount_of a) parts.0, positive_rows xs parts.1)

pub holding_of_list : (xs : List Asset) → IsAssetList xs → IsHolding xs
holding_of_list xs list = record { rising = rising_keys xs list.rising; positive = positive_rows xs list.no_zero }
