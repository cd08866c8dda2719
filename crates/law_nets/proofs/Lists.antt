-- Lemmas: the assets of a message's list, one by one. A reader may skip this file.
use Rattle.std.proofs.Common.{◌≡◌, ℕ, zero, suc, ◌≤◌, Bool, List, [], ◌∷◌, Option, Some, None, refl, sym, ap, ◌∙◌, subst, arith}
use Rattle.std.specs.Prelude.{slice_get}
use Rattle.std.specs.List.{AllByRecursion}
use Rattle.std.specs.Option.{option_map}
use Rattle.std.specs.Ordering.{eq_by_cmp}
use Rattle.std.proofs.lemmas.List.Elements.{All-from_recursion, recursion_from_All}
use Rattle.std.proofs.lemmas.List.Sorted.{All-permutation}
use Rattle.amounts.specs.Rows.{amount_if, sum_where}
use Rattle.amounts.specs.Amounts.{amount}
use Rattle.amounts.proofs.Lemmas.{same_key}
use Rattle.locations.specs.declared.grammar.Junction.{Junction}
use Rattle.locations.specs.declared.relative.Location.{Location}
use Rattle.asset_lists.specs.declared.units.Asset.{Asset}
use Rattle.asset_lists.specs.declared.units.AssetId.{AssetId}
use Rattle.asset_lists.proofs.Lemmas.{in_order_moves}
use Rattle.asset_lists.specs.Lists.{in_order}
use Rattle.asset_lists.specs.Moves.{reanchored_id, moved, both, all_reanchored}
use Rattle.asset_lists.specs.Units.{unit_of, amount_of, unit_cmp}
use Rattle.asset_bundles.specs.Bundles.{Bundle, rows_of, held_assets, IsGoods}
use Rattle.asset_bundles.proofs.Lemmas.Bundles.{unit_keys}
use Rattle.asset_bundles.proofs.Lemmas.BundleLaws.{amount-bundle_of}
use Rattle.law_runs.proofs.Lemmas.Shipping.{IsNamedList}

-- ---- by indices
pub at_each : {A : Type 0} (P : A → Type 0) (xs : List A) → ((k : ℕ) (x : A) → slice_get xs k ≡ Some x → P x) → AllByRecursion P xs
at_each P [] h = tt
at_each P (x ∷ xs) h = (h 0 x refl, at_each P xs (λ k y e. h (suc k) y e))

pub of_both : {A : Type 0} (P Q R : A → Type 0) (xs : List A) → ((x : A) → P x → Q x → R x) → AllByRecursion P xs → AllByRecursion Q xs → AllByRecursion R xs
of_both P Q R [] h p q = tt
of_both P Q R (x ∷ xs) h p q = (h x p.0 q.0, of_both P Q R xs h p.1 q.1)

-- ---- what a bundle has of each asset of its list
in_rows : (xs : List Asset) (k : ℕ) (a : Asset) → slice_get xs k ≡ Some a → amount_of a ≤ sum_where (eq_by_cmp unit_cmp (unit_of a)) (rows_of xs)
in_rows [] k a e = absurd cc
in_rows (x ∷ xs) zero a e =
    let same : x ≡ a = cc in
    let here : amount_if (eq_by_cmp unit_cmp (unit_of a) (unit_of x)) (amount_of x) ≡ amount_of a =
    subst (λ (y : Asset). amount_if (eq_by_cmp unit_cmp (unit_of a) (unit_of y)) (amount_of y) ≡ amount_of a) (sym same) (ap (λ (b : Bool). amount_if b (amount_of a)) (same_key unit_keys (unit_of a))) in
    omega (arith, here)
in_rows (x ∷ xs) (suc k) a e = let rest = in_rows xs k a e in omega (arith, rest)

pub held_each : (b : Bundle) → IsGoods b → AllByRecursion (λ (a : Asset). amount_of a ≤ amount b (unit_of a)) (held_assets b)
held_each b whole = at_each (λ (a : Asset). amount_of a ≤ amount b (unit_of a)) (held_assets b) (λ k a at.
    let le = in_rows (held_assets b) k a at in
    let sum = amount-bundle_of (held_assets b) (unit_of a) in
    let same = ap (λ (c : Bundle). amount c (unit_of a)) whole in
    omega (arith, le, sum, same))

-- ---- what holds of each asset under the receiver's names
by_head : (Q : Asset → Type 0) (o : Option Asset) (q : Option (List Asset)) (all : List Asset) → both o q ≡ Some all → ((b : Asset) → o ≡ Some b → Q b) → ((ys : List Asset) → q ≡ Some ys → AllByRecursion Q ys) → AllByRecursion Q all
by_head Q None q all e head tail = absurd cc
by_head Q (Some b) None all e head tail = absurd cc
by_head Q (Some b) (Some ys) all e head tail = let same : b ∷ ys ≡ all = cc in subst (AllByRecursion Q) same (head b refl, tail ys refl)

module _ (P Q : Asset → Type 0) (target : Location) (context : List Junction) (step : (a b : Asset) → P a → moved target context a ≡ Some b → Q b) where
  each_moved : (xs all : List Asset) → all_reanchored target context xs ≡ Some all → AllByRecursion P xs → AllByRecursion Q all
  each_moved [] all e p = let same : [] ≡ all = cc in subst (AllByRecursion Q) same tt
  each_moved (a ∷ xs) all e p = by_head Q (moved target context a) (all_reanchored target context xs) all e (λ b at. step a b p.0 at) (λ ys at. each_moved xs ys at p.1)

  pub each_named : (xs new : List Asset) → IsNamedList target context xs new → AllByRecursion P xs → AllByRecursion Q new
  each_named xs new named p = subst (AllByRecursion Q) (sym named.is)
      (recursion_from_All Q (in_order named.all) (All-permutation Q named.all (in_order named.all) (in_order_moves named.all) (All-from_recursion Q named.all (each_moved xs named.all named.moved p))))

-- the asset under its new id
moved_by : (a b : Asset) (id : AssetId) (o : Option AssetId) → o ≡ Some id → option_map (λ (new : AssetId). record { id = new; fun = a.fun }) o ≡ Some b → b ≡ record { id = id; fun = a.fun }
moved_by a b id None at e = absurd cc
moved_by a b id (Some new) at e =
    let made : Asset = record { id = new; fun = a.fun } in
    let same : made ≡ b = cc in
    let ids : new ≡ id = cc in
    sym same ∙ ap (λ (i : AssetId). let c : Asset = record { id = i; fun = a.fun } in c) ids

pub moved_to : (target : Location) (context : List Junction) (a b : Asset) (id : AssetId) → reanchored_id target context a.id ≡ Some id → moved target context a ≡ Some b → b ≡ record { id = id; fun = a.fun }
moved_to target context a b id at e = moved_by a b id (reanchored_id target context a.id) at e
