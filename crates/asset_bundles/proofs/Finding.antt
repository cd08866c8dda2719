-- Assets looked for in a list, one after the other.
use Rattle.std.proofs.Common.{◌≡◌, ℕ, zero, suc, ◌+◌, ◌<◌, ◌≤◌, Bool, true, false, ◌&&◌, List, [], ◌∷◌, ◌++◌, length, get_or, take, drop, refl, sym, ap, ◌∙◌, subst, arith, add-one, drop-cons}
use Rattle.std.specs.Prelude.{if◌then◌else◌, unwrap_or, Some, None, Option, nat_le}
use Rattle.std.specs.List.{list_all}
use Rattle.std.specs.FinMap.{find}
use Rattle.std.specs.Ordering.{eq_by_cmp, is_eq}
use Rattle.std.proofs.lemmas.Bool.{and_parts, and_from, leb-true, le-leb}
use Rattle.std.proofs.lemmas.List.{take_more}
use Rattle.amounts.specs.Rows.{sum_where, amount_if}
use Rattle.amounts.specs.Amounts.{amount, total, IsWithin}
use Rattle.amounts.proofs.Lemmas.AmountLaws.{total_alike, amount-total}
use Rattle.amounts.proofs.Lemmas.{same_key, key_same}
use Rattle.asset_lists.specs.declared.units.AssetId.{AssetId}
use Rattle.asset_lists.specs.declared.units.Instance.{Instance}
use Rattle.asset_lists.specs.declared.units.Kind.{Kind}
use Rattle.asset_lists.specs.declared.units.Fun.{Fun}
use Rattle.asset_lists.specs.declared.units.Asset.{Asset}
use Rattle.asset_lists.specs.Units.{Unit, unit_of, amount_of, unit_cmp, asset_id_cmp, instance_in, amount_in}
use Rattle.asset_bundles.specs.Bundles.{Bundle, rows_of, bundle_of, found, IsHolding, is_kind, is_asset}
use Rattle.asset_bundles.proofs.Lemmas.Bundles.{unit_keys}
use Rattle.asset_bundles.proofs.Lemmas.BundleLaws.{found-holding, amount-bundle_of}
use Rattle.plain_lists.proofs.Lemmas.Facts.{and_false as not_both, equal_then_equal as tie_id}

-- ---- a list at one index
pub at_place : (xs : List Asset) (i : ℕ) (a : Asset) → i < length xs → a ≡ get_or xs i a → drop i xs ≡ a ∷ drop (i + 1) xs
at_place xs i a inside is = drop-cons xs i a inside ∙ ap (λ x. x ∷ drop (suc i) xs) (sym is) ∙ ap (λ n. a ∷ drop n xs) (sym (add-one i))

pub past_end : (xs : List Asset) (i : ℕ) → length xs ≤ i → drop i xs ≡ []
past_end [] zero all = refl
past_end [] (suc i) all = refl
past_end (x ∷ xs) zero all = absurd (omega (arith, all))
past_end (x ∷ xs) (suc i) all = past_end xs i (omega (arith, all))

pub found_next : (u : Unit) (xs : List Asset) (i : ℕ) (a : Asset) → i < length xs → a ≡ get_or xs i a → eq_by_cmp unit_cmp u (unit_of a) ≡ false
    → found u xs ≡ found u (drop i xs) → found u xs ≡ found u (drop (i + 1) xs)
found_next u xs i a inside is other so_far =
    so_far ∙ ap (found u) (at_place xs i a inside is) ∙ ap (λ b. unwrap_or (if b then Some (amount_of a) else find unit_cmp u (rows_of (drop (i + 1) xs))) 0) other

pub found_here : (u : Unit) (xs : List Asset) (i : ℕ) (a : Asset) → i < length xs → a ≡ get_or xs i a → eq_by_cmp unit_cmp u (unit_of a) ≡ true
    → found u xs ≡ found u (drop i xs) → amount_of a ≡ found u xs
found_here u xs i a inside is here so_far =
    sym (so_far ∙ ap (found u) (at_place xs i a inside is) ∙ ap (λ b. unwrap_or (if b then Some (amount_of a) else find unit_cmp u (rows_of (drop (i + 1) xs))) 0) here)

pub found_nowhere : (u : Unit) (xs : List Asset) (i : ℕ) → length xs ≤ i → found u xs ≡ found u (drop i xs) → 0 ≡ found u xs
found_nowhere u xs i all so_far = sym (so_far ∙ ap (found u) (past_end xs i all))

-- ---- all of a list is held
found_less : (xs list : List Asset) → list_all (λ a. nat_le (amount_of a) (found (unit_of a) xs)) list ≡ true → (u : Unit) → found u list ≤ found u xs
found_less xs [] all u = omega arith
found_less xs (a ∷ list) all u =
    let parts = and_parts (nat_le (amount_of a) (found (unit_of a) xs)) (list_all (λ b. nat_le (amount_of b) (found (unit_of b) xs)) list) all in
    elim (eq_by_cmp unit_cmp u (unit_of a)) as (λ b. eq_by_cmp unit_cmp u (unit_of a) ≡ b → unwrap_or (if b then Some (amount_of a) else find unit_cmp u (rows_of list)) 0 ≤ found u xs) [
      | true ↦ λ t. subst (λ v. amount_of a ≤ found v xs) (sym (key_same unit_keys u (unit_of a) t)) (leb-true (amount_of a) (found (unit_of a) xs) parts.0)
      | false ↦ λ t. found_less xs list parts.1 u
    ] refl

pub within_from_holds : (xs list : List Asset) → IsHolding xs → IsHolding list → list_all (λ a. nat_le (amount_of a) (found (unit_of a) xs)) list ≡ true
    → IsWithin (bundle_of list) (bundle_of xs)
within_from_holds xs list held listed all u =
    let less = found_less xs list all u in
    let here = found-holding xs u held in
    let there = found-holding list u listed in
    omega (arith, less, here, there)

holds_up_to : (most : Unit → ℕ) (list : List Asset) → ((u : Unit) → sum_where (eq_by_cmp unit_cmp u) (rows_of list) ≤ most u)
    → list_all (λ a. nat_le (amount_of a) (most (unit_of a))) list ≡ true
holds_up_to most [] within = refl
holds_up_to most (a ∷ list) within =
    let all = within (unit_of a) in
    let here : amount_if (eq_by_cmp unit_cmp (unit_of a) (unit_of a)) (amount_of a) ≡ amount_of a = ap (λ b. amount_if b (amount_of a)) (same_key unit_keys (unit_of a)) in
    and_from _ _ (le-leb (amount_of a) (most (unit_of a)) (omega (arith, all, here)))
    (holds_up_to most list (λ u. let more = within u in omega (arith, more)))

pub holds_from_within : (xs list : List Asset) → IsHolding xs → IsWithin (bundle_of list) (bundle_of xs)
    → list_all (λ a. nat_le (amount_of a) (found (unit_of a) xs)) list ≡ true
holds_from_within xs list held within = holds_up_to (λ u. found u xs) list (λ u.
    let le = within u in
    let here = found-holding xs u held in
    let there = amount-bundle_of list u in
    omega (arith, le, here, there))

-- ---- totals of one asset
pub same_test : (id other : AssetId) (x : Option Instance) → is_asset id Kind.Fungible (other, x) ≡ eq_by_cmp unit_cmp (id, None) (other, x)
same_test id other None = tie_id (asset_id_cmp id other)
same_test id other (Some instance) = not_both (is_eq (asset_id_cmp id other))

pub total-fungible : (id : AssetId) (b : Bundle) → amount b (id, None) ≡ total (is_asset id Kind.Fungible) b
total-fungible id b = amount-total unit_keys b (id, None) ∙ sym (total_alike (is_asset id Kind.Fungible) (eq_by_cmp unit_cmp (id, None)) b (λ u. same_test id u.0 u.1))

one_of : (b : Bool) (f : Fun) → (b && is_kind Kind.Class (instance_in f)) ≡ true → amount_in f ≡ 1
one_of true (Fun.Fungible amount) is = absurd (cc)
one_of false (Fun.Fungible amount) is = absurd (cc)
one_of b (Fun.NonFungible instance) is = refl

sum_where-push : (p : Unit → Bool) (xs : List Asset) (a : Asset) → sum_where p (rows_of (xs ++ a ∷ [])) ≡ sum_where p (rows_of xs) + amount_if (p (unit_of a)) (amount_of a)
sum_where-push p [] a = omega arith
sum_where-push p (x ∷ xs) a = let rest = sum_where-push p xs a in omega (arith, rest)

pub sum_where-take : (p : Unit → Bool) (xs : List Asset) (i : ℕ) (a : Asset) → i < length xs → a ≡ get_or xs i a
    → sum_where p (rows_of (take (i + 1) xs)) ≡ sum_where p (rows_of (take i xs)) + amount_if (p (unit_of a)) (amount_of a)
sum_where-take p xs i a inside is =
    ap (λ ys. sum_where p (rows_of ys)) (take_more xs i a inside ∙ ap (λ x. take i xs ++ x ∷ []) (sym is)) ∙ sum_where-push p (take i xs) a

pub counted : (id : AssetId) (xs : List Asset) (i number : ℕ) (a : Asset) → i < length xs → a ≡ get_or xs i a → is_asset id Kind.Class (unit_of a) ≡ true
    → number ≡ sum_where (is_asset id Kind.Class) (rows_of (take i xs)) → number + 1 ≡ sum_where (is_asset id Kind.Class) (rows_of (take (i + 1) xs))
counted id xs i number a inside is here so_far =
    let more = sum_where-take (is_asset id Kind.Class) xs i a inside is in
    let one : amount_if (is_asset id Kind.Class (unit_of a)) (amount_of a) ≡ amount_of a = ap (λ b. amount_if b (amount_of a)) here in
    let single : amount_of a ≡ 1 = one_of (eq_by_cmp asset_id_cmp id a.id) a.fun here in
    omega (arith, so_far, more, one, single)

pub not_counted : (id : AssetId) (xs : List Asset) (i number : ℕ) (a : Asset) → i < length xs → a ≡ get_or xs i a → is_asset id Kind.Class (unit_of a) ≡ false
    → number ≡ sum_where (is_asset id Kind.Class) (rows_of (take i xs)) → number ≡ sum_where (is_asset id Kind.Class) (rows_of (take (i + 1) xs))
not_counted id xs i number a inside is other so_far =
    let more = sum_where-take (is_asset id Kind.Class) xs i a inside is in
    let none : amount_if (is_asset id Kind.Class (unit_of a)) (amount_of a) ≡ 0 = ap (λ b. amount_if b (amount_of a)) other in
    omega (arith, so_far, more, none)
