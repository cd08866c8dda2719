-- Lemmas: a message's list has at the receiver what its cargo has at the sender. A reader may skip this file.
use Rattle.std.proofs.Common.{◌≡◌, ◌<◌, Bool, true, List, [], ◌∷◌, Option, Some, None, refl, sym, ap, ◌∙◌, subst, arith}
use Rattle.std.specs.Prelude.{unwrap_or}
use Rattle.std.specs.List.{sum_by}
use Rattle.std.specs.Option.{option_map, option_and_then}
use Rattle.std.specs.Ordering.{eq_by_cmp}
use Rattle.std.proofs.lemmas.List.Sums.{sum_by-cons}
use Rattle.std.proofs.lemmas.List.Sorted.{sum_by-IsPermutation}
use Rattle.amounts.specs.Rows.{amount_if, sum_where}
use Rattle.amounts.specs.Amounts.{amount, total}
use Rattle.amounts.proofs.Lemmas.{amount-map_keys}
use Rattle.locations.specs.declared.grammar.Junction.{Junction}
use Rattle.locations.specs.declared.grammar.NetworkId.{NetworkId}
use Rattle.locations.specs.declared.relative.Location.{Location}
use Rattle.asset_lists.specs.declared.units.Asset.{Asset}
use Rattle.asset_lists.specs.declared.units.AssetId.{AssetId}
use Rattle.asset_lists.specs.Lists.{in_order}
use Rattle.asset_lists.proofs.Lemmas.{in_order_moves}
use Rattle.asset_lists.proofs.Lemmas.UnitLaws.{assets_decide}
use Rattle.asset_lists.specs.Moves.{reanchored_id, moved, both, all_reanchored, reanchored_list}
use Rattle.asset_lists.specs.Units.{Unit, unit_of, amount_of, unit_cmp}
use Rattle.asset_lists.specs.Listed.{listed_of}
use Rattle.asset_bundles.specs.Bundles.{Bundle, bundle_of, rows_of}
use Rattle.asset_bundles.proofs.Lemmas.Bundles.{unit_keys}
use Rattle.asset_bundles.proofs.Lemmas.BundleLaws.{same_bundles, amount-bundle_of, total-bundle_of}
use Rattle.asset_bundles.specs.Books.{AreListed}
use Rattle.asset_bundles.specs.Landing.{new_id, renamed, Renamed}
use Rattle.chain_ids.specs.declared.chain.ChainId.{ChainId}
use Rattle.trust_tables.specs.declared.chains.Site.{Site}
use Rattle.trust_tables.specs.Chains.{path_of_site, location_of}
use Rattle.trust_tables.specs.Trust.{listing}
use Rattle.exec_base.specs.Arrivals.{arrived_list, is_this_list}
use Rattle.law_coherence.specs.UniversalAssets.{UniversalAsset, Choice, is_unit_at, IsPlaced}
use Rattle.law_coherence.specs.Networks.{Table, context_of, IsIn, Agrees}
use Rattle.law_coherence.proofs.Lemmas.Receiving.{landed_amount}
use Rattle.law_runs.proofs.Lemmas.Shipping.{IsNamedList, named_list}
use Rattle.law_steps.proofs.Lemmas.Rooms.{listed_found, unit_of_row}

-- ---- sums over a list
list_sum : (t : Unit → Bool) (xs : List Asset) → sum_where t (rows_of xs) ≡ sum_by (λ (a : Asset). amount_if (t (unit_of a)) (amount_of a)) xs
list_sum t [] = refl
list_sum t (a ∷ xs) =
    let rest = list_sum t xs in
    let one = sum_by-cons (λ (a : Asset). amount_if (t (unit_of a)) (amount_of a)) a xs in
    omega (arith, rest, one)

ordered_sum : (t : Unit → Bool) (xs : List Asset) → sum_where t (rows_of (in_order xs)) ≡ sum_where t (rows_of xs)
ordered_sum t xs =
    let a = list_sum t xs in
    let b = list_sum t (in_order xs) in
    let same = sum_by-IsPermutation (λ (a : Asset). amount_if (t (unit_of a)) (amount_of a)) xs (in_order xs) (in_order_moves xs) in
    omega (arith, a, b, same)

same_list : (x y : List Asset) → Some x ≡ Some y → x ≡ y
same_list x y e = cc

same_asset : (x y : Asset) → Some x ≡ Some y → x ≡ y
same_asset x y e = cc

-- ---- under the receiver's names
moved_by : (target : Location) (context : List Junction) (a b : Asset) (o : Option AssetId) → reanchored_id target context a.id ≡ o → option_map (λ id. record { id = id; fun = a.fun }) o ≡ Some b
    → (unit_of b ≡ renamed target context (unit_of a)) × (amount_of b ≡ amount_of a)
moved_by target context a b None at e = absurd cc
moved_by target context a b (Some id) at e =
    let made : Asset = record { id = id; fun = a.fun } in
    let same : made ≡ b = same_asset made b e in
    let named : new_id target context a.id ≡ id = ap (λ (o : Option AssetId). unwrap_or o a.id) at in
    (sym (ap unit_of same) ∙ (λ i. (sym named i, (unit_of a).1)), sym (ap amount_of same))

by_both : (target : Location) (context : List Junction) (a : Asset) (xs all : List Asset) (o : Option Asset) (q : Option (List Asset)) (v : Unit) → moved target context a ≡ o → both o q ≡ Some all
    → ((ys : List Asset) → q ≡ Some ys → sum_where (eq_by_cmp unit_cmp v) (rows_of ys) ≡ sum_where (λ (u : Unit). eq_by_cmp unit_cmp v (renamed target context u)) (rows_of xs))
    → sum_where (eq_by_cmp unit_cmp v) (rows_of all) ≡ sum_where (λ (u : Unit). eq_by_cmp unit_cmp v (renamed target context u)) (rows_of (a ∷ xs))
by_both target context a xs all None q v at e rest = absurd cc
by_both target context a xs all (Some b) None v at e rest = absurd cc
by_both target context a xs all (Some b) (Some ys) v at e rest =
    let same : b ∷ ys ≡ all = same_list (b ∷ ys) all e in
    let tail = rest ys refl in
    let head = moved_by target context a b (reanchored_id target context a.id) refl at in
    let first : amount_if (eq_by_cmp unit_cmp v (unit_of b)) (amount_of b) ≡ amount_if (eq_by_cmp unit_cmp v (renamed target context (unit_of a))) (amount_of a) =
    (λ i. amount_if (eq_by_cmp unit_cmp v (head.0 i)) (head.1 i)) in
    subst (λ (zs : List Asset). sum_where (eq_by_cmp unit_cmp v) (rows_of zs) ≡ sum_where (λ (u : Unit). eq_by_cmp unit_cmp v (renamed target context u)) (rows_of (a ∷ xs))) same (omega (arith, first, tail))

renamed_sum : (target : Location) (context : List Junction) (xs all : List Asset) (v : Unit) → all_reanchored target context xs ≡ Some all
    → sum_where (eq_by_cmp unit_cmp v) (rows_of all) ≡ sum_where (λ (u : Unit). eq_by_cmp unit_cmp v (renamed target context u)) (rows_of xs)
renamed_sum target context [] all v e = ap (λ (zs : List Asset). sum_where (eq_by_cmp unit_cmp v) (rows_of zs)) (sym (same_list [] all e))
renamed_sum target context (a ∷ xs) all v e = by_both target context a xs all (moved target context a) (all_reanchored target context xs) v refl e (λ ys rest. renamed_sum target context xs ys v rest)

pub lands : (target : Location) (context : List Junction) (xs new : List Asset) (named : IsNamedList target context xs new) → bundle_of new ≡ Renamed target context (bundle_of xs)
unfolding Renamed
lands target context xs new named = same_bundles _ _ (λ v.
    let there = amount-bundle_of new v in
    let ordered : sum_where (eq_by_cmp unit_cmp v) (rows_of new) ≡ sum_where (eq_by_cmp unit_cmp v) (rows_of named.all) = ap (λ (zs : List Asset). sum_where (eq_by_cmp unit_cmp v) (rows_of zs)) named.is ∙ ordered_sum (eq_by_cmp unit_cmp v) named.all in
    let names = renamed_sum target context xs named.all v named.moved in
    let here = amount-map_keys {S = unit_cmp} unit_keys (renamed target context) (bundle_of xs) v in
    let sum = total-bundle_of (λ (u : Unit). eq_by_cmp unit_cmp v (renamed target context u)) xs in
    omega (arith, there, ordered, names, here, sum))

-- ---- the list of a message that arrives
arrived_by : (here : Site) (sender : ChainId) (o : Option Location) (l : Location) (xs : List Asset) → o ≡ Some l
    → option_and_then (λ (target : Location). reanchored_list target (path_of_site (record { network = here.network; chain = sender })) xs) o ≡ reanchored_list l (path_of_site (record { network = here.network; chain = sender })) xs
arrived_by here sender o l xs e = ap (λ (o : Option Location). option_and_then (λ (target : Location). reanchored_list target (path_of_site (record { network = here.network; chain = sender })) xs) o) e

module _ (n : List Table) (agrees : Agrees n) (s t : Table) (s_in : IsIn n s) (t_in : IsIn n t) (l m : Location) (leads : location_of s.site.chain t.site.chain ≡ Some l) (back : location_of t.site.chain s.site.chain ≡ Some m) (xs new : List Asset)
    (named : arrived_list (record { network = s.site.network; chain = t.site.chain }) s.site.chain xs ≡ Some new) where
  pub reanchors_to : reanchored_list l (context_of s) xs ≡ Some new
  unfolding arrived_list
  reanchors_to = sym (arrived_by (record { network = s.site.network; chain = t.site.chain }) s.site.chain (location_of s.site.chain t.site.chain) l xs leads) ∙ named

  pub names : IsNamedList l (context_of s) xs new
  names = named_list l (context_of s) xs new reanchors_to

  -- the receiver finds the same list
  pub found_there : is_this_list new (arrived_list t.site s.site.chain xs) ≡ true
  found_there =
      let same : arrived_list t.site s.site.chain xs ≡ Some new =
      ap (λ (network : NetworkId). arrived_list (record { network = network; chain = t.site.chain }) s.site.chain xs) (agrees.network.one_network t s t_in s_in) ∙ named in
      ap (is_this_list new) same ∙ (assets_decide new new).1 refl

  -- of each asset and each instance
  pub same_amounts_there : ((u : Unit) → 0 < amount (bundle_of xs) u → IsPlaced (context_of s) u.0) → (a : UniversalAsset) (choice : Choice)
      → total (is_unit_at (context_of t) a choice) (bundle_of new) ≡ total (is_unit_at (context_of s) a choice) (bundle_of xs)
  same_amounts_there placed a choice =
      landed_amount n agrees s t s_in t_in l m leads back xs new names.all names.moved (lands l (context_of s) xs new names) placed a choice

-- what is listed has a path
pub listed_placed : (n : List Table) → Agrees n → (s : Table) → IsIn n s → (b : Bundle) → AreListed (listing s.rows) b → (u : Unit) → 0 < amount b u → IsPlaced (context_of s) u.0
listed_placed n agrees s s_in b listed u held =
    let found = listed_found s.rows (listed_of u) (listed u held) in
    let of = unit_of_row found.0 u found.2 in
    subst (IsPlaced (context_of s)) (sym of.id) (agrees.normal s found.0 s_in found.1).inside
