-- The assets of the holding as another chain names them, those that it can't name left out.
use Rattle.std.proofs.Common.{◌≡◌, ℕ, suc, ◌+◌, ◌<◌, Bool, true, false, not, ◌||◌, List, [], ◌∷◌, ◌++◌, length, get_or, drop, Option, Some, None, refl, sym, ap, ◌∙◌, subst, append_assoc, drop-cons, add-one, arith, inl, inr}
use Rattle.std.specs.Prelude.{Result, Ok, Err}
use Rattle.std.specs.List.{list_any}
use Rattle.std.specs.Option.{option_map}
use Rattle.std.specs.List.Sorted.{IsPermutation, IsSorted}
use Rattle.std.proofs.lemmas.Bool.{and_from, cases_Bool}
use Rattle.std.proofs.lemmas.Bool.Decides.{nat_tests}
use Rattle.std.proofs.lemmas.List.Sorted.{IsPermutation-sym, IsPermutation-trans, list_any-IsPermutation}
use Rattle.amounts.specs.Rows.{IsPositive}
use Rattle.amounts.specs.Amounts.{rows}
use Rattle.amounts.proofs.Lemmas.AmountLaws.{rows_positive}
use Rattle.locations.specs.declared.grammar.Junction.{Junction}
use Rattle.locations.specs.declared.relative.Location.{Location}
use Rattle.locations.specs.declared.faults.LocationFault.{LocationFault}
use Rattle.locations.specs.Reanchoring.{reanchored}
use Rattle.asset_lists.specs.declared.units.Asset.{Asset}
use Rattle.asset_lists.specs.declared.units.AssetId.{AssetId}
use Rattle.asset_lists.specs.declared.units.AssetId.TheVariants.{Concrete, Abstract}
use Rattle.asset_lists.specs.declared.units.Instance.{Instance}
use Rattle.asset_lists.specs.Units.{Unit, asset_cmp, is_zero}
use Rattle.asset_lists.specs.Lists.{has_zero, is_rising, in_order}
use Rattle.asset_lists.specs.Moves.{id_of_result, reanchored_id, moved, list_if}
use Rattle.asset_lists.proofs.Lemmas.{once_in, twice_in, one_in_order, in_order_moves, in_order_rises}
use Rattle.asset_bundles.specs.Bundles.{Bundle, fun_of, assets_of_rows, held_assets}
use Rattle.xcm_program.specs.Conversions.{is_concrete_id, have_concrete_ids}
use Rattle.exec_rules.specs.Reports.{with_named, named_assets, named_list}
use Rattle.exec_transfers.specs.Naming.{IsTellable}
use Rattle.plain_lists.proofs.Lemmas.Facts.{first_false, not_false_true as place_of_not}

-- ---- one after the other
behind_named : (target : Location) (context : List Junction) (a : Asset) (rest named : List Asset) (o : Option Asset) → moved target context a ≡ o
    → named ++ named_assets target context (a ∷ rest) ≡ named ++ with_named o (named_assets target context rest)
behind_named target context a rest named o is = ap (λ (x : Option Asset). named ++ with_named x (named_assets target context rest)) is

pub one_named : (target : Location) (context : List Junction) (items named : List Asset) (i : ℕ) (a b : Asset) → i < length items → a ≡ get_or items i a → moved target context a ≡ Some b
    → named_assets target context items ≡ named ++ named_assets target context (drop i items)
    → named_assets target context items ≡ (named ++ (b ∷ [])) ++ named_assets target context (drop (i + 1) items)
one_named target context items named i a b inside at is so_far =
    so_far
    ∙ ap (λ (xs : List Asset). named ++ named_assets target context xs) (drop-cons items i a inside)
    ∙ ap (λ (x : Asset). named ++ named_assets target context (x ∷ drop (suc i) items)) (sym at)
    ∙ behind_named target context a (drop (suc i) items) named (Some b) is
    ∙ sym (append_assoc named (b ∷ []) (named_assets target context (drop (suc i) items)))
    ∙ ap (λ (n : ℕ). (named ++ (b ∷ [])) ++ named_assets target context (drop n items)) (sym (add-one i))

pub none_named : (target : Location) (context : List Junction) (items named : List Asset) (i : ℕ) (a : Asset) → i < length items → a ≡ get_or items i a → moved target context a ≡ None
    → named_assets target context items ≡ named ++ named_assets target context (drop i items)
    → named_assets target context items ≡ named ++ named_assets target context (drop (i + 1) items)
none_named target context items named i a inside at is so_far =
    so_far
    ∙ ap (λ (xs : List Asset). named ++ named_assets target context xs) (drop-cons items i a inside)
    ∙ ap (λ (x : Asset). named ++ named_assets target context (x ∷ drop (suc i) items)) (sym at)
    ∙ behind_named target context a (drop (suc i) items) named None is
    ∙ ap (λ (n : ℕ). named ++ named_assets target context (drop n items)) (sym (add-one i))

-- ---- in their order
pub sorted_list : (all new : List Asset) → IsPermutation all new → is_rising new ≡ true → list_if (is_rising (in_order all)) (in_order all) ≡ Some new
sorted_list all new moves rising =
    let rises = in_order_rises all (once_in all new moves rising) in
    let same : in_order all ≡ new = one_in_order (in_order all) new rises rising (IsPermutation-trans (in_order all) all new (IsPermutation-sym all (in_order all) (in_order_moves all)) moves) in
    ap (λ (t : Bool). list_if t (in_order all)) rises ∙ ap Some same

pub no_sorted_list : (all new : List Asset) → IsPermutation all new → IsSorted asset_cmp new → is_rising new ≡ false → list_if (is_rising (in_order all)) (in_order all) ≡ None
no_sorted_list all new moves sorted falls =
    let twice = twice_in all new moves sorted falls in
    elim (cases_Bool (is_rising (in_order all))) [
      | inl rises ↦ absurd (let once = once_in all (in_order all) (in_order_moves all) rises twice.0 in let more = twice.1 in omega (arith, once, more))
      | inr not_rising ↦ ap (λ (t : Bool). list_if t (in_order all)) not_rising
    ]

-- ---- no amount is 0, and no id is bytes
some_at : (x : Option Instance) (n : ℕ) (id : AssetId) → 0 < n → is_zero (record { id = id; fun = fun_of x n }) ≡ false
some_at None n id some = grind (arith, nat_tests, some)
some_at (Some instance) n id some = refl

or_false : (a b : Bool) → a ≡ false → b ≡ false → (a || b) ≡ false
or_false true b h k = absurd cc
or_false false b h k = k

no_zero_at : (es : List (Unit × ℕ)) → IsPositive es → has_zero (assets_of_rows es) ≡ false
no_zero_at [] positive = refl
no_zero_at (e ∷ es) positive = or_false _ _ (some_at e.0.1 e.1 e.0.0 positive.0) (no_zero_at es positive.1)

pub no_zero_held : (b : Bundle) → has_zero (held_assets b) ≡ false
unfolding held_assets
no_zero_held b = no_zero_at (rows b) (rows_positive b)

-- what a target names, with a test of ids instead of the rest
not_zero_by : (a : Asset) (o : Option AssetId) (others : List Asset) → is_zero a ≡ false → has_zero others ≡ false → has_zero (with_named (option_map (λ (id : AssetId). record { id = id; fun = a.fun }) o) others) ≡ false
not_zero_by a None others h k = k
not_zero_by a (Some id) others h k = or_false _ _ h k

second_false : (a b : Bool) → (a || b) ≡ false → b ≡ false
second_false true b h = absurd cc
second_false false b h = h

pub no_zero_named : (target : Location) (context : List Junction) (xs : List Asset) → has_zero xs ≡ false → has_zero (named_assets target context xs) ≡ false
no_zero_named target context [] h = refl
no_zero_named target context (a ∷ rest) h = not_zero_by a (reanchored_id target context a.id) (named_assets target context rest) (first_false _ _ h) (no_zero_named target context rest (second_false (is_zero a) _ h))

pub no_zero_moves : (all new : List Asset) → IsPermutation all new → has_zero all ≡ false → has_zero new ≡ false
no_zero_moves all new moves h = sym (list_any-IsPermutation is_zero all new moves) ∙ h

abbrev is_bytes : Asset → Bool
is_bytes a = not (is_concrete_id a.id)

seen_place : (r : Result Location LocationFault) (new : AssetId) → id_of_result r ≡ Some new → is_concrete_id new ≡ true
seen_place r (Concrete l) e = refl
seen_place (Ok l) (Abstract b) e = absurd cc
seen_place (Err f) (Abstract b) e = absurd cc

named_place : (target : Location) (context : List Junction) (id new : AssetId) → reanchored_id target context id ≡ Some new → is_concrete_id new ≡ true
named_place target context (Concrete l) new e = seen_place (reanchored l target context) new e
named_place target context (Abstract b) new e = absurd cc

place_by : (a : Asset) (o : Option AssetId) (others : List Asset) → ((new : AssetId) → o ≡ Some new → is_concrete_id new ≡ true) → list_any is_bytes others ≡ false
    → list_any is_bytes (with_named (option_map (λ (id : AssetId). record { id = id; fun = a.fun }) o) others) ≡ false
place_by a None others h k = k
place_by a (Some id) others h k = or_false _ _ (ap not (h id refl)) k

pub no_bytes_named : (target : Location) (context : List Junction) (xs : List Asset) → list_any is_bytes (named_assets target context xs) ≡ false
no_bytes_named target context [] = refl
no_bytes_named target context (a ∷ rest) = place_by a (reanchored_id target context a.id) (named_assets target context rest) (λ new e. named_place target context a.id new e) (no_bytes_named target context rest)

all_places : (xs : List Asset) → list_any is_bytes xs ≡ false → have_concrete_ids xs ≡ true
all_places [] h = refl
all_places (a ∷ rest) h = and_from (is_concrete_id a.id) (have_concrete_ids rest) (place_of_not _ (first_false _ _ h)) (all_places rest (second_false (is_bytes a) _ h))

pub places_moved : (target : Location) (context : List Junction) (xs new : List Asset) → IsPermutation (named_assets target context xs) new → have_concrete_ids new ≡ true
places_moved target context xs new moves = all_places new (sym (list_any-IsPermutation is_bytes (named_assets target context xs) new moves) ∙ no_bytes_named target context xs)

-- ---- the list that is told, or none
pub tellable_list : (target : Location) (context : List Junction) (xs all new : List Asset) → all ≡ named_assets target context xs → has_zero xs ≡ false → IsPermutation all new → is_rising new ≡ true
    → (named_list target context xs ≡ Some new) × IsTellable new
tellable_list target context xs all new is some moves rising =
    let moves_named = subst (λ (ys : List Asset). IsPermutation ys new) is moves in (
      sorted_list (named_assets target context xs) new moves_named rising,
      record { rising = rising; some = no_zero_moves (named_assets target context xs) new moves_named (no_zero_named target context xs some); places = places_moved target context xs new moves_named },
    )

pub untold_list : (target : Location) (context : List Junction) (xs all new : List Asset) → all ≡ named_assets target context xs → IsPermutation all new → IsSorted asset_cmp new → is_rising new ≡ false
    → named_list target context xs ≡ None
untold_list target context xs all new is moves sorted falls =
    no_sorted_list (named_assets target context xs) new (subst (λ (ys : List Asset). IsPermutation ys new) is moves) sorted falls
