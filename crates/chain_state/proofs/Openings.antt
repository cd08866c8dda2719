-- A row for each fungible one of the listed assets.
use Rattle.std.proofs.Common.{◌≡◌, Bool, true, false, ◌&&◌, ◌||◌, cond, if◌then◌else◌, List, [], ◌∷◌, map, Some, None, refl, sym, ap, ◌∙◌}
use Rattle.std.specs.Prelude.{is_some, is_none, unwrap_or}
use Rattle.std.specs.List.{AllByRecursion, list_any, dedup, dedup_from}
use Rattle.std.specs.List.Sorted.{IsPermutation, IsStrictlySortedBy}
use Rattle.std.specs.Map.{keys_of}
use Rattle.std.specs.Ordering.{eq_by_cmp, is_eq, ordering_then}
use Rattle.std.specs.declared.cmp.Ordering.{Ordering}
use Rattle.std.specs.declared.cmp.Ordering.TheVariants.{Less, Equal, Greater}
use Rattle.std.specs.FinMap.{find}
use Rattle.std.proofs.lemmas.List.Sorted.{list_any-IsPermutation}
use Rattle.amounts.proofs.Lemmas.Rows.{IsKeyOrder}
use Rattle.amounts.specs.Amounts.{empty}
use Rattle.amounts.proofs.Lemmas.AmountLaws.{amount-empty}
use Rattle.amounts.proofs.Lemmas.{key_same}
use Rattle.asset_lists.specs.declared.units.AssetId.{AssetId}
use Rattle.asset_lists.specs.declared.units.Kind.{Kind}
use Rattle.asset_lists.specs.Units.{Unit, asset_id_cmp, unit_cmp}
use Rattle.asset_lists.specs.UnitLaws.{asset_id_total}
use Rattle.asset_lists.proofs.Lemmas.UnitLaws.{asset_id_exact}
use Rattle.asset_lists.specs.Listed.{Listed, lists}
use Rattle.asset_bundles.proofs.Lemmas.Bundles.{unit_keys}
use Rattle.asset_bundles.proofs.Lemmas.BundleLaws.{same_bundles}
use Rattle.chain_state.specs.Fees.{kept_goods, has_row, is_coin, HaveRows, fungible_ids, no_fee}
use Rattle.chain_state.proofs.Lemmas.{kept_at}

id_keys : IsKeyOrder asset_id_cmp
id_keys = record { total = asset_id_total; exact = asset_id_exact }

tie : (r : Ordering) → is_eq (ordering_then r Equal) ≡ is_eq r
tie Less = refl
tie Equal = refl
tie Greater = refl

no_tie : (r : Ordering) → is_eq (ordering_then r Less) ≡ false
no_tie Less = refl
no_tie Equal = refl
no_tie Greater = refl

less : (r : Ordering) → r ≡ Less → ordering_then r Equal ≡ Less
less r is = ap (λ x. ordering_then x Equal) is

-- ---- the ids
same_any : (a b c d : Bool) → a ≡ b → c ≡ d → (a || c) ≡ (b || d)
same_any a b c d first rest = λ i. first i || rest i

ids_listed : (id : AssetId) (listed : List Listed) → list_any (eq_by_cmp asset_id_cmp id) (fungible_ids listed) ≡ lists listed (id, Kind.Fungible)
ids_listed id [] = refl
ids_listed id ((x, Kind.Fungible) ∷ rest) = same_any _ _ _ _ (sym (tie (asset_id_cmp id x))) (ids_listed id rest)
ids_listed id ((x, Kind.Class) ∷ rest) = same_any false _ _ _ (sym (no_tie (asset_id_cmp id x))) (ids_listed id rest)

module _ (id : AssetId) where
  twice : (a b : Bool) → (a || b) ≡ (a || (a || b))
  twice true b = refl
  twice false b = refl

  any_from : (x : AssetId) (xs : List AssetId) → list_any (eq_by_cmp asset_id_cmp id) (dedup_from (eq_by_cmp asset_id_cmp) x xs) ≡ (eq_by_cmp asset_id_cmp id x || list_any (eq_by_cmp asset_id_cmp id) xs)
  any_from x [] = refl
  any_from x (y ∷ ys) =
      elim (eq_by_cmp asset_id_cmp y x) as (λ b. eq_by_cmp asset_id_cmp y x ≡ b → list_any (eq_by_cmp asset_id_cmp id) (cond b (dedup_from (eq_by_cmp asset_id_cmp) x ys) (x ∷ dedup_from (eq_by_cmp asset_id_cmp) y ys))
      ≡ (eq_by_cmp asset_id_cmp id x || (eq_by_cmp asset_id_cmp id y || list_any (eq_by_cmp asset_id_cmp id) ys))) [
        | true ↦ λ t. any_from x ys ∙ twice (eq_by_cmp asset_id_cmp id x) (list_any (eq_by_cmp asset_id_cmp id) ys)
            ∙ ap (λ z. eq_by_cmp asset_id_cmp id x || (eq_by_cmp asset_id_cmp id z || list_any (eq_by_cmp asset_id_cmp id) ys)) (sym (key_same id_keys y x t))
        | false ↦ λ t. ap (λ c. eq_by_cmp asset_id_cmp id x || c) (any_from y ys)
      ] refl

  any_dedup : (xs : List AssetId) → list_any (eq_by_cmp asset_id_cmp id) (dedup (eq_by_cmp asset_id_cmp) xs) ≡ list_any (eq_by_cmp asset_id_cmp id) xs
  any_dedup [] = refl
  any_dedup (x ∷ xs) = any_from x xs

-- ---- their rows
has_id : (u : Unit) (ids : List AssetId) → has_row (map no_fee ids) u ≡ (is_none u.1 && list_any (eq_by_cmp asset_id_cmp u.0) ids)
has_id (id, None) [] = refl
has_id (id, Some i) [] = refl
has_id (id, None) (x ∷ xs) =
    ap (λ b. is_some (if b then Some 0 else find unit_cmp (id, None) (map no_fee xs))) (tie (asset_id_cmp id x))
    ∙ elim (eq_by_cmp asset_id_cmp id x) as (λ b. is_some (if b then Some 0 else find unit_cmp (id, None) (map no_fee xs)) ≡ (b || list_any (eq_by_cmp asset_id_cmp id) xs)) [
      | true ↦ refl
      | false ↦ has_id (id, None) xs
    ]
has_id (id, Some i) (x ∷ xs) = has_id (id, Some i) xs

coin_listed : (u : Unit) (listed : List Listed) → (is_none u.1 && list_any (eq_by_cmp asset_id_cmp u.0) (fungible_ids listed)) ≡ is_coin listed u
coin_listed (id, None) listed = ids_listed id listed
coin_listed (id, Some i) listed = refl

-- sorted and without the same id twice, they are the rows of the listed assets
pub rows_opened : (listed : List Listed) (found ids : List AssetId) → found ≡ fungible_ids listed → IsPermutation found ids → HaveRows listed (map no_fee (dedup (eq_by_cmp asset_id_cmp) ids))
rows_opened listed found ids is moved u =
    has_id u (dedup (eq_by_cmp asset_id_cmp) ids)
    ∙ ap (λ b. is_none u.1 && b) (any_dedup u.0 ids ∙ sym (list_any-IsPermutation (eq_by_cmp asset_id_cmp u.0) found ids moved) ∙ ap (list_any (eq_by_cmp asset_id_cmp u.0)) is)
    ∙ coin_listed u listed

all_below : (x : AssetId) (ids : List AssetId) → AllByRecursion (λ y. asset_id_cmp x y ≡ Less) ids → AllByRecursion (λ y. unit_cmp (x, None) y ≡ Less) (keys_of (map no_fee ids))
all_below x [] all = tt
all_below x (y ∷ ys) all = (less (asset_id_cmp x y) all.0, all_below x ys all.1)

pub rising_opened : (ids : List AssetId) → IsStrictlySortedBy asset_id_cmp ids → IsStrictlySortedBy unit_cmp (keys_of (map no_fee ids))
unfolding IsStrictlySortedBy
rising_opened [] rising = tt
rising_opened (x ∷ xs) rising = (all_below x xs rising.0, rising_opened xs rising.1)

nothing_in : (u : Unit) (ids : List AssetId) → unwrap_or (find unit_cmp u (map no_fee ids)) 0 ≡ 0
nothing_in u [] = refl
nothing_in u (x ∷ xs) = elim (eq_by_cmp unit_cmp u (x, None)) as (λ b. unwrap_or (if b then Some 0 else find unit_cmp u (map no_fee xs)) 0 ≡ 0) [ true ↦ refl | false ↦ nothing_in u xs ]

pub nothing_opened : (ids : List AssetId) → IsStrictlySortedBy asset_id_cmp ids → kept_goods (map no_fee ids) ≡ empty
nothing_opened ids rising = same_bundles _ _ (λ u. kept_at (map no_fee ids) u (rising_opened ids rising) ∙ nothing_in u ids ∙ sym (amount-empty unit_keys u))
