-- What is kept aside, summand by summand.
use Rattle.std.proofs.Common.{◌≡◌, ℕ, ◌+◌, ◌<◌, true, false, if◌then◌else◌, List, [], ◌∷◌, length, get_or, take, map, refl, sym, ap, ◌∙◌, subst, arith, min, true≢false}
use Rattle.std.specs.Prelude.{Option, None, Some, is_some, is_none}
use Rattle.std.specs.FinMap.{find}
use Rattle.std.proofs.lemmas.Bool.{and_parts}
use Rattle.std.specs.Ordering.{is_eq, eq_by_cmp}
use Rattle.std.proofs.lemmas.List.Sums.{sum_by_more}
use Rattle.amounts.specs.Rows.{amount_if, sum_where}
use Rattle.amounts.specs.Amounts.{amount}
use Rattle.amounts.proofs.Lemmas.AmountLaws.{total_alike, amount-total}
use Rattle.amounts.proofs.Lemmas.{total-from_rows, total_none, amount-from_rows}
use Rattle.locations.specs.declared.relative.Location.{Location}
use Rattle.asset_lists.specs.declared.units.AssetId.{AssetId}
use Rattle.asset_lists.specs.declared.units.AssetId.TheVariants.{Concrete, Abstract}
use Rattle.asset_lists.specs.declared.units.Instance.{Instance}
use Rattle.asset_lists.specs.declared.units.Kind.{Kind}
use Rattle.asset_lists.specs.declared.units.Kind.TheVariants.{Fungible, Class}
use Rattle.asset_lists.specs.Units.{Unit, unit_cmp, asset_id_cmp}
use Rattle.asset_lists.specs.Listed.{Listed, listed_of, lists}
use Rattle.chain_state.specs.Fees.{Fee, kept_goods, HaveRows}
use Rattle.asset_bundles.specs.Bundles.{Bundle, is_asset}
use Rattle.asset_bundles.proofs.Lemmas.Bundles.{unit_keys}
use Rattle.asset_bundles.specs.Books.{most_burned}
use Rattle.weight_trader.specs.Purchases.{Line, coin_of, paid_goods}
use Rattle.chain_state.specs.Aside.{asset_in, parked_total}
use Rattle.plain_lists.proofs.Lemmas.Facts.{and_false as not_both, equal_then_equal as tie_id, saturates_once as more_min}

-- ---- a sum that saturates
pub aside_sum : (a b c d m v w x y k : ℕ) → v ≡ min a m → w ≡ min (v + b) m → x ≡ min (w + c) m → k ≡ d → y ≡ min (x + k) m → y ≡ min (a + b + c + d) m
aside_sum a b c d m v w x y k first second third kept fourth = omega arith

pub one_more_parked : (id : AssetId) (kind : Kind) (parked : List Bundle) (i : ℕ) (goods : Bundle) (sum next : ℕ) → i < length parked → goods ≡ get_or parked i goods
    → next ≡ min (sum + asset_in id kind goods) most_burned → sum ≡ min (parked_total id kind (take i parked)) most_burned → next ≡ min (parked_total id kind (take (i + 1) parked)) most_burned
one_more_parked id kind parked i goods sum next inside at step so_far =
    let all : parked_total id kind (take (i + 1) parked) ≡ parked_total id kind (take i parked) + asset_in id kind goods =
    sum_by_more (asset_in id kind) parked i goods inside ∙ ap (λ (g : Bundle). parked_total id kind (take i parked) + asset_in id kind g) (sym at) in
    step ∙ ap (λ n. min (n + asset_in id kind goods) most_burned) so_far ∙ more_min (parked_total id kind (take i parked)) (asset_in id kind goods) most_burned
    ∙ ap (λ n. min n most_burned) (sym all)

-- ---- the amount of one unit
same_test : (id other : AssetId) (x : Option Instance) → is_asset id Fungible (other, x) ≡ eq_by_cmp unit_cmp (id, None) (other, x)
same_test id other None = tie_id (asset_id_cmp id other)
same_test id other (Some instance) = not_both (is_eq (asset_id_cmp id other))

pub amount_alone : (id : AssetId) (b : Bundle) → amount b (id, None) ≡ asset_in id Fungible b
amount_alone id b = amount-total unit_keys b (id, None) ∙ sym (total_alike (is_asset id Fungible) (eq_by_cmp unit_cmp (id, None)) b (λ u. same_test id u.0 u.1))

-- nothing else is paid for weight
IsUnpaid : AssetId → Kind → Type 0
IsUnpaid id kind = (l : Location) → is_asset id kind (Concrete l, None) ≡ false

no_rows : (id : AssetId) (kind : Kind) → IsUnpaid id kind → (lines : List Line) → sum_where (is_asset id kind) (map (λ (line : Line). (coin_of line.rate, line.paid)) lines) ≡ 0
unfolding IsUnpaid
no_rows id kind none [] = refl
no_rows id kind none (line ∷ lines) =
    let first = ap (λ b. amount_if b line.paid) (none line.rate.asset) in
    let rest = no_rows id kind none lines in
    omega (arith, first, rest)

none_paid : (id : AssetId) (kind : Kind) → IsUnpaid id kind → (lines : List Line) → asset_in id kind (paid_goods lines) ≡ 0
unfolding paid_goods
none_paid id kind none lines = total-from_rows unit_keys (is_asset id kind) (map (λ (line : Line). (coin_of line.rate, line.paid)) lines) ∙ no_rows id kind none lines

pub class_unpaid : (id : AssetId) (lines : List Line) → 0 ≡ asset_in id Class (paid_goods lines)
unfolding IsUnpaid
class_unpaid id lines = sym (none_paid id Class (λ l. not_both (is_eq (asset_id_cmp id (Concrete l)))) lines)

pub bytes_unpaid : (bytes : List ℕ) (kind : Kind) (lines : List Line) → 0 ≡ asset_in (Abstract bytes) kind (paid_goods lines)
unfolding IsUnpaid
bytes_unpaid bytes kind lines = sym (none_paid (Abstract bytes) kind (λ l. refl) lines)

-- ---- what is kept is of fungible assets alone
row_of_some : (fees : List Fee) (u : Unit) → 0 < sum_where (eq_by_cmp unit_cmp u) fees → is_some (find unit_cmp u fees) ≡ true
row_of_some [] u some = absurd (omega (arith, some))
row_of_some (e ∷ es) u some =
    elim (eq_by_cmp unit_cmp u e.0) as (λ b. 0 < amount_if b e.1 + sum_where (eq_by_cmp unit_cmp u) es → is_some (if b then Some e.1 else find unit_cmp u es) ≡ true) [
      | true ↦ λ s. refl
      | false ↦ λ s. row_of_some es u (omega (arith, s))
    ] some

not_class : (id other : AssetId) (x : Option Instance) → is_none x ≡ true → is_asset id Class (other, x) ≡ false
not_class id other None none = not_both (is_eq (asset_id_cmp id other))
not_class id other (Some i) none = absurd (true≢false (sym none))

pub no_class : (listed : List Listed) (fees : List Fee) (id : AssetId) → HaveRows listed fees → asset_in id Class (kept_goods fees) ≡ 0
unfolding kept_goods
no_class listed fees id have =
    total_none unit_keys (is_asset id Class) (kept_goods fees) (λ u some.
    let there = row_of_some fees u (subst (λ n. 0 < n) (amount-from_rows unit_keys fees u) some) in
    let coin = and_parts (is_none u.1) (lists listed (listed_of u)) (sym (have u) ∙ there) in
    not_class id u.0 u.1 coin.0)
