-- When a shipment may land.
use Rattle.std.proofs.Common.{◌≡◌, ◌+◌, ◌<◌, ◌≤◌, true, false, List, [], ◌∷◌, Option, Some, None, refl, sym, ap, ◌∙◌, subst, arith}
use Rattle.std.specs.Prelude.{IsSomeAnd, unwrap_or}
use Rattle.std.specs.Option.{option_map}
use Rattle.std.specs.Ordering.{eq_by_cmp}
use Rattle.amounts.specs.Rows.{amount_if, sum_where}
use Rattle.amounts.proofs.Lemmas.{same_key, key_same}
use Rattle.locations.specs.declared.grammar.Junction.{Junction}
use Rattle.locations.specs.declared.relative.Location.{Location}
use Rattle.asset_lists.specs.declared.units.AssetId.{AssetId}
use Rattle.asset_lists.specs.declared.units.Asset.{Asset}
use Rattle.asset_lists.specs.Units.{Unit, unit_of, amount_of, unit_cmp}
use Rattle.asset_lists.specs.Lists.{is_of}
use Rattle.asset_lists.specs.Moves.{reanchored_id, both, all_reanchored, occurrences, IsReanchoredList}
use Rattle.asset_bundles.specs.Bundles.{rows_of, bundle_of, IsHolding}
use Rattle.asset_bundles.proofs.Lemmas.Bundles.{unit_keys}
use Rattle.asset_bundles.proofs.Lemmas.BundleLaws.{amount-bundle_of}
use Rattle.asset_bundles.specs.Landing.{renamed, Renamed, StayApart, renamed_asset, renamed_assets}
use Rattle.asset_bundles.proofs.Minting.{bundle_of-IsPermutation}
use Rattle.asset_bundles.proofs.Naming.{renamed_is, count_first, named}

-- ---- a list as the target names it
module _ (target : Location) (context : List Junction) where
  one_renamed : (a : Asset) (id : Option AssetId) (others : Option (List Asset)) (all rest : List Asset) → ((ys : List Asset) → others ≡ Some ys → ys ≡ rest)
      → both (option_map (λ new. record { id = new; fun = a.fun }) id) others ≡ Some all → all ≡ record { id = unwrap_or id a.id; fun = a.fun } ∷ rest
  one_renamed a None others all rest later is = absurd (cc)
  one_renamed a (Some id) None all rest later is = absurd (cc)
  one_renamed a (Some id) (Some ys) all rest later is =
      let first : record { id = id; fun = a.fun } ∷ ys ≡ all = cc in
      sym first ∙ ap (λ zs. record { id = id; fun = a.fun } ∷ zs) (later ys refl)

  all_renamed : (xs all : List Asset) → all_reanchored target context xs ≡ Some all → all ≡ renamed_assets target context xs
  all_renamed [] all is = cc
  all_renamed (a ∷ xs) all is = one_renamed a (reanchored_id target context a.id) (all_reanchored target context xs) all (renamed_assets target context xs) (all_renamed xs) is

  some_and : (o : Option (List Asset)) (ys new : List Asset) → ((all : List Asset) → o ≡ Some all → all ≡ ys) → IsSomeAnd o (λ all. IsReanchoredList all new) → IsReanchoredList ys new
  some_and None ys new is moved = absurd moved
  some_and (Some all) ys new is moved = subst (λ zs. IsReanchoredList zs new) (is all refl) moved

  moved_renamed : (xs new : List Asset) → IsSomeAnd (all_reanchored target context xs) (λ all. IsReanchoredList all new) → IsReanchoredList (renamed_assets target context xs) new
  moved_renamed xs new moved = some_and (all_reanchored target context xs) (renamed_assets target context xs) new (all_renamed xs) moved

  -- a bundle lands as the list that the target names
  pub landed_moved : (xs new : List Asset) → IsHolding xs → IsSomeAnd (all_reanchored target context xs) (λ all. IsReanchoredList all new) → Renamed target context (bundle_of xs) ≡ bundle_of new
  landed_moved xs new h moved =
      sym (renamed_is target context xs h) ∙ sym (bundle_of-IsPermutation (renamed_assets target context xs) new (moved_renamed xs new moved).same_units)

  -- ---- its units stay apart
  count_here : (u : Unit) (a : Asset) (xs : List Asset) → renamed target context (unit_of a) ≡ u → occurrences u (renamed_assets target context (a ∷ xs)) ≡ 1 + occurrences u (renamed_assets target context xs)
  count_here u a xs is =
      let here : is_of u (renamed_asset target context a) ≡ true = subst (λ v. eq_by_cmp unit_cmp (renamed target context (unit_of a)) v ≡ true) is (same_key unit_keys (renamed target context (unit_of a))) in
      named target context u a xs here

  counted_renamed : (u : Unit) (xs : List Asset) → 0 < sum_where (eq_by_cmp unit_cmp u) (rows_of xs) → 1 ≤ occurrences (renamed target context u) (renamed_assets target context xs)
  counted_renamed u [] some = absurd (omega (arith, some))
  counted_renamed u (a ∷ xs) some =
      elim (eq_by_cmp unit_cmp u (unit_of a)) as (λ b. eq_by_cmp unit_cmp u (unit_of a) ≡ b → 0 < amount_if b (amount_of a) + sum_where (eq_by_cmp unit_cmp u) (rows_of xs)
      → 1 ≤ occurrences (renamed target context u) (renamed_assets target context (a ∷ xs))) [
        | true ↦ λ t _. (let first = count_here (renamed target context u) a xs (ap (renamed target context) (sym (key_same unit_keys u (unit_of a) t))) in omega (arith, first))
        | false ↦ λ t more. (let rest = counted_renamed u xs (omega (arith, more)) in let first = count_first target context (renamed target context u) a xs in omega (arith, rest, first))
      ] refl some

  -- the first one's new unit isn't that of a later one
  first_alone : (a : Asset) (xs : List Asset) (v : Unit) → ((w : Unit) → occurrences w (renamed_assets target context (a ∷ xs)) ≤ 1) → 0 < sum_where (eq_by_cmp unit_cmp v) (rows_of xs)
      → renamed target context (unit_of a) ≡ renamed target context v → ⊥
  first_alone a xs v once some same =
      let later = counted_renamed v xs some in
      let first = count_here (renamed target context v) a xs same in
      let most = once (renamed target context v) in
      omega (arith, later, first, most)

  kept_apart : (xs : List Asset) → ((w : Unit) → occurrences w (renamed_assets target context xs) ≤ 1) → (u v : Unit)
      → 0 < sum_where (eq_by_cmp unit_cmp u) (rows_of xs) → 0 < sum_where (eq_by_cmp unit_cmp v) (rows_of xs) → renamed target context u ≡ renamed target context v → u ≡ v
  kept_apart [] once u v u_held v_held same = absurd (omega (arith, u_held))
  kept_apart (a ∷ xs) once u v u_held v_held same =
      let later : (w : Unit) → occurrences w (renamed_assets target context xs) ≤ 1 = λ w. (let most = once w in let first = count_first target context w a xs in omega (arith, most, first)) in
      elim (eq_by_cmp unit_cmp u (unit_of a)) as (λ b. eq_by_cmp unit_cmp u (unit_of a) ≡ b → 0 < amount_if b (amount_of a) + sum_where (eq_by_cmp unit_cmp u) (rows_of xs) → u ≡ v) [
        | true ↦ λ t _. elim (eq_by_cmp unit_cmp v (unit_of a)) as (λ d. eq_by_cmp unit_cmp v (unit_of a) ≡ d → 0 < amount_if d (amount_of a) + sum_where (eq_by_cmp unit_cmp v) (rows_of xs) → u ≡ v) [
          | true ↦ λ s _. key_same unit_keys u (unit_of a) t ∙ sym (key_same unit_keys v (unit_of a) s)
          | false ↦ λ s more. absurd (first_alone a xs v once (omega (arith, more)) (ap (renamed target context) (sym (key_same unit_keys u (unit_of a) t)) ∙ same))
        ] refl v_held
        | false ↦ λ t rest. elim (eq_by_cmp unit_cmp v (unit_of a)) as (λ d. eq_by_cmp unit_cmp v (unit_of a) ≡ d → 0 < amount_if d (amount_of a) + sum_where (eq_by_cmp unit_cmp v) (rows_of xs) → u ≡ v) [
          | true ↦ λ s _. absurd (first_alone a xs u once (omega (arith, rest)) (ap (renamed target context) (sym (key_same unit_keys v (unit_of a) s)) ∙ sym same))
          | false ↦ λ s more. kept_apart xs later u v (omega (arith, rest)) (omega (arith, more)) same
        ] refl v_held
      ] refl u_held

  pub apart_moved : (xs new : List Asset) → IsSomeAnd (all_reanchored target context xs) (λ all. IsReanchoredList all new) → StayApart target context (bundle_of xs)
  apart_moved xs new moved u v u_held v_held same =
      kept_apart xs (moved_renamed xs new moved).apart u v (subst (λ n. 0 < n) (amount-bundle_of xs u) u_held) (subst (λ n. 0 < n) (amount-bundle_of xs v) v_held) same
