-- What a bundle holds is listed, asset by asset.
use Rattle.std.proofs.Common.{◌≡◌, ℕ, ◌+◌, ◌<◌, ◌≤◌, Bool, true, false, List, [], ◌∷◌, refl, sym, ap, ◌∙◌, arith, true≢false}
use Rattle.std.specs.Prelude.{Option, None, Some}
use Rattle.std.specs.Ordering.{eq_by_cmp}
use Rattle.std.specs.List.{list_all}
use Rattle.std.proofs.lemmas.Bool.{and_from}
use Rattle.amounts.specs.Rows.{IsPositive, sum_where, amount_if}
use Rattle.amounts.specs.Amounts.{amount, rows}
use Rattle.amounts.proofs.Lemmas.AmountLaws.{rows_positive, total-rows, amount-total}
use Rattle.amounts.proofs.Lemmas.{same_key}
use Rattle.asset_lists.specs.declared.units.Instance.{Instance}
use Rattle.asset_lists.specs.Units.{Unit, unit_of, unit_cmp, instance_in}
use Rattle.asset_lists.specs.Listed.{Listed, listed_of, lists}
use Rattle.asset_bundles.specs.Bundles.{Bundle, fun_of, assets_of_rows, held_assets}
use Rattle.asset_bundles.proofs.Lemmas.Bundles.{unit_keys}
use Rattle.asset_bundles.specs.Books.{AreListed}

same_instance : (x : Option Instance) (n : ℕ) → instance_in (fun_of x n) ≡ x
same_instance None n = refl
same_instance (Some i) n = refl

one_here : (b : Bool) (n m h : ℕ) → amount_if b n + m ≤ h → b ≡ true → 0 < n → 0 < h
one_here true n m h le t some = omega (arith, le, some)
one_here false n m h le t some = absurd (true≢false (sym t))

listed_rows : (listed : List Listed) (goods : Bundle) (es : List (Unit × ℕ)) → AreListed listed goods → IsPositive es → ((u : Unit) → sum_where (eq_by_cmp unit_cmp u) es ≤ amount goods u)
    → list_all (λ a. lists listed (listed_of (unit_of a))) (assets_of_rows es) ≡ true
listed_rows listed goods [] are positive within = refl
listed_rows listed goods (e ∷ es) are positive within =
    let some : 0 < amount goods e.0 = one_here (eq_by_cmp unit_cmp e.0 e.0) e.1 _ _ (within e.0) (same_key unit_keys e.0) positive.0 in
    and_from _ _ (ap (λ x. lists listed (listed_of (e.0.0, x))) (same_instance e.0.1 e.1) ∙ are e.0 some)
    (listed_rows listed goods es are positive.1 (λ u. let le = within u in omega (arith, le)))

pub goods_listed : (listed : List Listed) (goods : Bundle) → AreListed listed goods → list_all (λ a. lists listed (listed_of (unit_of a))) (held_assets goods) ≡ true
unfolding held_assets
goods_listed listed goods are = listed_rows listed goods (rows goods) are (rows_positive goods) (λ u.
    let all : sum_where (eq_by_cmp unit_cmp u) (rows goods) ≡ amount goods u = total-rows (eq_by_cmp unit_cmp u) goods ∙ sym (amount-total unit_keys goods u) in
    omega (arith, all))
