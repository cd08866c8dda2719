-- The list of what a bundle holds has each unit once, and no amount of 0.
use Rattle.std.proofs.Common.{◌≡◌, ℕ, ◌<◌, ◌≤◌, true, false, ◌&&◌, ◌||◌, List, [], ◌∷◌, Option, Some, None, refl, ap, ◌∙◌}
use Rattle.std.specs.Prelude.{nat_eq}
use Rattle.std.specs.Ordering.{is_lt}
use Rattle.std.specs.List.Sorted.{IsStrictlySortedBy}
use Rattle.std.specs.Map.{keys_of}
use Rattle.amounts.specs.Rows.{IsPositive}
use Rattle.amounts.proofs.Lemmas.Rows.{keys_rising}
use Rattle.amounts.specs.Amounts.{rows}
use Rattle.amounts.proofs.Lemmas.AmountLaws.{rows_sorted, rows_positive}
use Rattle.asset_lists.specs.declared.units.Instance.{Instance}
use Rattle.asset_lists.specs.Units.{Unit, unit_of, unit_cmp, instance_in, amount_in}
use Rattle.asset_lists.specs.Lists.{has_zero, is_rising}
use Rattle.asset_lists.specs.Moves.{occurrences}
use Rattle.asset_lists.proofs.Lemmas.{once_each}
use Rattle.asset_bundles.specs.Bundles.{Bundle, fun_of, assets_of_rows, held_assets}
use Rattle.plain_lists.proofs.Lemmas.Facts.{positive_not_zero as above_zero}

instance_back : (o : Option Instance) (n : ℕ) → instance_in (fun_of o n) ≡ o
instance_back None n = refl
instance_back (Some instance) n = refl

pub unit_back : (r : Unit × ℕ) → unit_of (record { id = r.0.0; fun = fun_of r.0.1 r.1 }) ≡ r.0
unit_back r = ap (λ o. (r.0.0, o)) (instance_back r.0.1 r.1)

rises : (rs : List (Unit × ℕ)) → IsStrictlySortedBy unit_cmp (keys_of rs) → is_rising (assets_of_rows rs) ≡ true
unfolding IsStrictlySortedBy
rises [] sorted = refl
rises (r ∷ []) sorted = refl
rises (r ∷ q ∷ rs) sorted =
    let first : is_lt (unit_cmp (unit_of (record { id = r.0.0; fun = fun_of r.0.1 r.1 })) (unit_of (record { id = q.0.0; fun = fun_of q.0.1 q.1 }))) ≡ true =
    ap (λ u. is_lt (unit_cmp u (unit_of (record { id = q.0.0; fun = fun_of q.0.1 q.1 })))) (unit_back r)
    ∙ ap (λ u. is_lt (unit_cmp r.0 u)) (unit_back q) ∙ ap is_lt sorted.0.0 in
    let rest = rises (q ∷ rs) sorted.1 in
    ap (λ b. b && is_rising (assets_of_rows (q ∷ rs))) first ∙ rest

not_zero : (o : Option Instance) (n : ℕ) → 0 < n → nat_eq (amount_in (fun_of o n)) 0 ≡ false
not_zero None n h = above_zero n h
not_zero (Some instance) n h = refl

none_zero : (rs : List (Unit × ℕ)) → IsPositive rs → has_zero (assets_of_rows rs) ≡ false
none_zero [] positive = refl
none_zero (r ∷ rs) positive = ap (λ b. b || has_zero (assets_of_rows rs)) (not_zero r.0.1 r.1 positive.0) ∙ none_zero rs positive.1

pub held_rises : (b : Bundle) → is_rising (held_assets b) ≡ true
unfolding held_assets
held_rises b = rises (rows b) (keys_rising unit_cmp (rows b) (rows_sorted b))

pub held_once : (b : Bundle) (u : Unit) → occurrences u (held_assets b) ≤ 1
unfolding held_assets
held_once b = once_each (assets_of_rows (rows b)) (rises (rows b) (keys_rising unit_cmp (rows b) (rows_sorted b)))

pub held_no_zero : (b : Bundle) → has_zero (held_assets b) ≡ false
unfolding held_assets
held_no_zero b = none_zero (rows b) (rows_positive b)
