-- Programs around assets, and lists that are named.
use Rattle.std.proofs.Common.{◌≡◌, ℕ, ◌+◌, ◌<◌, Bool, true, false, not, ◌&&◌, ◌||◌, suc, List, [], ◌∷◌, length, refl, sym, ap, ◌∙◌, subst, arith, true≢false}
use Rattle.std.specs.Prelude.{Option, None, Some, Ok, Err, option_and_then}
use Rattle.std.specs.List.{list_any}
use Rattle.std.specs.List.Sorted.{IsStrictlySortedBy}
use Rattle.std.specs.Map.{keys_of}
use Rattle.std.specs.Option.{option_map}
use Rattle.std.proofs.lemmas.Bool.{and_from}
use Rattle.std.proofs.lemmas.List.Edits.{length-insert}
use Rattle.std.proofs.lemmas.List.Sums.{prefix_len-le-length}
use Rattle.std.proofs.lemmas.List.Sorted.{list_any-IsPermutation}
use Rattle.std.specs.Ordering.{is_lt}
use Rattle.amounts.specs.Rows.{IsPositive}
use Rattle.amounts.proofs.Lemmas.Rows.{keys_rising}
use Rattle.amounts.specs.Amounts.{rows}
use Rattle.amounts.proofs.Lemmas.AmountLaws.{rows_sorted, rows_positive}
use Rattle.locations.specs.declared.relative.Location.{Location}
use Rattle.locations.specs.declared.grammar.Junction.{Junction}
use Rattle.locations.specs.Reanchoring.{reanchored}
use Rattle.asset_lists.specs.declared.units.AssetId.{AssetId}
use Rattle.asset_lists.specs.declared.units.Asset.{Asset}
use Rattle.asset_lists.specs.declared.units.Instance.{Instance}
use Rattle.asset_lists.specs.Units.{Unit, unit_of, unit_cmp, is_zero, is_before, instance_in}
use Rattle.asset_lists.specs.Lists.{has_zero, is_rising, in_order, place_in}
use Rattle.asset_lists.specs.Moves.{id_of_result, reanchored_id, moved, both, all_reanchored, list_if, reanchored_list}
use Rattle.asset_lists.proofs.Lemmas.{both_parts, in_order_moves}
use Rattle.asset_bundles.specs.Bundles.{Bundle, fun_of, assets_of_rows, held_assets}
use Rattle.operands.specs.declared.version.Version.{Version}
use Rattle.xcm_program.specs.declared.instruction.Instruction.{Instruction, ClearOrigin, roll-Instruction, out-Instruction, out-roll-Instruction, roll-out-Instruction}
use Rattle.xcm_program.specs.declared.instruction.Instruction.TheOpen.{Instruction-F}
use Rattle.xcm_program.specs.Everywhere.{AllInside}
use Rattle.xcm_format.specs.Writable.{IsWritable}
use Rattle.xcm_format.proofs.Lemmas.{named_in}
use Rattle.xcm_program.specs.Measure.{inner, deep_count_one}
use Rattle.xcm_program.specs.Conversions.{names_concrete_ids, is_concrete_id, have_concrete_ids, is_convertible_one, is_convertible, HasAmount, HasAmounts}
use Rattle.xcm_program.proofs.Lemmas.{deep_count_inside, deep_count_one-is, convertible_inside, is_convertible_one-is, amounts_here}
use Rattle.versioned_xcm.specs.Message.{forwarded}
use Rattle.versioned_xcm.proofs.Lemmas.{clear-out}
use Rattle.exec_base.specs.Sending.{IsForwardable}
use Rattle.chain_state.specs.declared.send.arrivals.ArrivalKind.{ArrivalKind}
use Rattle.chain_state.specs.Sends.{first_by, program_by}
use Rattle.plain_lists.proofs.Lemmas.Facts.{and_true}

out_rolled : (l : Instruction-F Instruction) → out-Instruction (roll-Instruction l) ≡ l
out_rolled l = out-roll-Instruction l

one_count : (l : Instruction-F Instruction) → deep_count_one (roll-Instruction l) ≡ 1 + deep_count_inside (inner l)
one_count l = deep_count_one-is (roll-Instruction l) ∙ ap (λ (x : Instruction-F Instruction). 1 + deep_count_inside (inner x)) (out_rolled l)

one_convertible : (l : Instruction-F Instruction) → is_convertible_one (roll-Instruction l) ≡ (names_concrete_ids l && convertible_inside (inner l))
one_convertible l = is_convertible_one-is (roll-Instruction l) ∙ ap (λ (x : Instruction-F Instruction). names_concrete_ids x && convertible_inside (inner x)) (out_rolled l)

clear_rolled : ClearOrigin ≡ roll-Instruction Instruction-F.ClearOrigin
clear_rolled = sym (roll-out-Instruction ClearOrigin) ∙ ap roll-Instruction clear-out

-- what is sent on, as a program around assets
pub around_is : (call : ArrivalKind) (xcm : List Instruction) (list : List Asset) → program_by call xcm list ≡ forwarded (roll-Instruction (first_by call list)) xcm
around_is call xcm list = λ i. roll-Instruction (first_by call list) ∷ sym clear_rolled i ∷ xcm

-- ---- a program around assets
one_first : (call : ArrivalKind) (list : List Asset) → deep_count_one (roll-Instruction (first_by call list)) ≡ 1
one_first ArrivalKind.Withdrawal list = one_count (Instruction-F.WithdrawAsset list)
one_first ArrivalKind.Deposit list = one_count (Instruction-F.ReserveAssetDeposited list)
one_first ArrivalKind.Teleport list = one_count (Instruction-F.ReceiveTeleportedAsset list)

first_convertible : (call : ArrivalKind) (list : List Asset) → is_convertible_one (roll-Instruction (first_by call list)) ≡ have_concrete_ids list
first_convertible ArrivalKind.Withdrawal list = one_convertible (Instruction-F.WithdrawAsset list) ∙ and_true (have_concrete_ids list)
first_convertible ArrivalKind.Deposit list = one_convertible (Instruction-F.ReserveAssetDeposited list) ∙ and_true (have_concrete_ids list)
first_convertible ArrivalKind.Teleport list = one_convertible (Instruction-F.ReceiveTeleportedAsset list) ∙ and_true (have_concrete_ids list)

amounts_rolled : (l : Instruction-F Instruction) → HasAmount Instruction l → AllInside HasAmounts (inner l) → HasAmounts (roll-Instruction l)
amounts_rolled l here inside = amounts_here (roll-Instruction l) (subst (HasAmount Instruction) (sym (out_rolled l)) here) (subst (λ (x : Instruction-F Instruction). AllInside HasAmounts (inner x)) (sym (out_rolled l)) inside)

first_amounts : (call : ArrivalKind) (list : List Asset) → HasAmounts (roll-Instruction (first_by call list))
first_amounts ArrivalKind.Withdrawal list = amounts_rolled (Instruction-F.WithdrawAsset list) tt tt
first_amounts ArrivalKind.Deposit list = amounts_rolled (Instruction-F.ReserveAssetDeposited list) tt tt
first_amounts ArrivalKind.Teleport list = amounts_rolled (Instruction-F.ReceiveTeleportedAsset list) tt tt

pub around_convertible : (call : ArrivalKind) (xcm : List Instruction) (list : List Asset) → IsForwardable xcm → have_concrete_ids list ≡ true → is_convertible (program_by call xcm list) ≡ true
around_convertible call xcm list f places =
    ap (λ b. b && (is_convertible_one (roll-Instruction Instruction-F.ClearOrigin) && is_convertible xcm)) (first_convertible call list ∙ places)
    ∙ ap (λ b. b && is_convertible xcm) (one_convertible Instruction-F.ClearOrigin) ∙ f.named

pub around_writable : (v : Version) (call : ArrivalKind) (xcm : List Instruction) (list : List Asset) → IsForwardable xcm → have_concrete_ids list ≡ true → IsWritable v (program_by call xcm list)
around_writable v call xcm list f places = record {
  few = (let few = f.few in let a = one_first call list in let b = one_count Instruction-F.ClearOrigin in omega (arith, few, a, b));
  named = named_in v (program_by call xcm list) (around_convertible call xcm list f places);
  amounts = (first_amounts call list, (amounts_rolled Instruction-F.ClearOrigin tt tt, f.amounts));
}

-- ---- what a bundle holds, as a list
pub same_instance : (x : Option Instance) (n : ℕ) → instance_in (fun_of x n) ≡ x
same_instance None n = refl
same_instance (Some i) n = refl

asset_at : Unit × ℕ → Asset
asset_at e = record { id = e.0.0; fun = fun_of e.0.1 e.1 }

same_unit : (e : Unit × ℕ) → unit_of (asset_at e) ≡ e.0
unfolding asset_at
same_unit e = λ i. (e.0.0, same_instance e.0.1 e.1 i)

rising_rows : (es : List (Unit × ℕ)) → IsStrictlySortedBy unit_cmp (keys_of es) → is_rising (assets_of_rows es) ≡ true
unfolding IsStrictlySortedBy asset_at
rising_rows [] rising = refl
rising_rows (e ∷ []) rising = refl
rising_rows (e ∷ f ∷ es) rising =
    and_from _ _ ((λ i. is_lt (unit_cmp (same_unit e i) (same_unit f i))) ∙ ap is_lt rising.0.0) (rising_rows (f ∷ es) rising.1)

pub goods_rising : (goods : Bundle) → is_rising (held_assets goods) ≡ true
unfolding held_assets
goods_rising goods = rising_rows (rows goods) (keys_rising unit_cmp (rows goods) (rows_sorted goods))

not_zero : (x : Option Instance) (n : ℕ) (id : AssetId) → 0 < n → is_zero (record { id = id; fun = fun_of x n }) ≡ false
not_zero None n id some = grind (arith, some)
not_zero (Some i) n id some = refl

some_rows : (es : List (Unit × ℕ)) → IsPositive es → has_zero (assets_of_rows es) ≡ false
some_rows [] positive = refl
some_rows (e ∷ es) positive = ap (λ b. b || has_zero (assets_of_rows es)) (not_zero e.0.1 e.1 e.0.0 positive.0) ∙ some_rows es positive.1

pub goods_some : (goods : Bundle) → has_zero (held_assets goods) ≡ false
unfolding held_assets
goods_some goods = some_rows (rows goods) (rows_positive goods)

-- ---- a list as another chain names it
some_told : {A : Type 0} → A → Option A → A
some_told d None = d
some_told d (Some x) = x

some_same : {A : Type 0} {x y : A} → Some x ≡ Some y → x ≡ y
unfolding some_told
some_same {A} {x} {y} e = ap (some_told x) e

length_in_order : (xs : List Asset) → length (in_order xs) ≡ length xs
length_in_order [] = refl
length_in_order (a ∷ xs) =
    let more = length-insert (in_order xs) (place_in a (in_order xs)) a (prefix_len-le-length (λ b. is_before b a) (in_order xs)) in
    let rest = length_in_order xs in
    omega (arith, more, rest)

has_bytes : List Asset → Bool
has_bytes xs = list_any (λ (a : Asset). not (is_concrete_id a.id)) xs

no_bytes : (xs : List Asset) → has_bytes xs ≡ false → have_concrete_ids xs ≡ true
unfolding has_bytes
no_bytes [] h = refl
no_bytes (a ∷ xs) h =
    elim (is_concrete_id a.id) as (λ b. (not b || has_bytes xs) ≡ false → (b && have_concrete_ids xs) ≡ true) [
      | true ↦ λ g. no_bytes xs g
      | false ↦ λ g. absurd (true≢false g)
    ] h

pub moved_place : (target : Location) (context : List Junction) (id new : AssetId) → reanchored_id target context id ≡ Some new → is_concrete_id new ≡ true
moved_place target context (AssetId.Concrete l) new is =
    elim (reanchored l target context) as (λ r. id_of_result r ≡ Some new → is_concrete_id new ≡ true) [
      | Ok m ↦ λ e. ap is_concrete_id (some_same (sym e))
      | Err fault ↦ λ e. absurd (cc)
    ] is
moved_place target context (AssetId.Abstract bytes) new is = absurd (cc)

moved_by : (a : Asset) (id : Option AssetId) (b : Asset) → option_map (λ (new : AssetId). record { id = new; fun = a.fun }) id ≡ Some b → (new : AssetId) × (id ≡ Some new) × (b ≡ record { id = new; fun = a.fun })
moved_by a None b e = absurd (cc)
moved_by a (Some new) b e = (new, refl, some_same (sym e))

-- what naming keeps of each asset
named_so : (target : Location) (context : List Junction) (xs all : List Asset) → all_reanchored target context xs ≡ Some all → (has_bytes all ≡ false) × (has_zero all ≡ has_zero xs) × (length all ≡ length xs)
unfolding has_bytes
named_so target context [] all is = (let same : [] ≡ all = some_same is in (ap has_bytes (sym same), ap has_zero (sym same), ap length (sym same)))
named_so target context (x ∷ xs) all is =
    let parts = both_parts (moved target context x) (all_reanchored target context xs) all is in
    let same : parts.0 ∷ parts.1 ≡ all = some_same ((λ i. both (sym parts.2 i) (sym parts.3 i)) ∙ is) in
    let here = moved_by x (reanchored_id target context x.id) parts.0 parts.2 in
    let rest = named_so target context xs parts.1 parts.3 in
    let place : is_concrete_id parts.0.id ≡ true = ap (λ (b : Asset). is_concrete_id b.id) here.2 ∙ moved_place target context x.id here.0 here.1 in
    let amount : is_zero parts.0 ≡ is_zero x = ap (λ (b : Asset). is_zero b) here.2 in (
      ap has_bytes (sym same) ∙ ap (λ b. not b || has_bytes parts.1) place ∙ rest.0,
      ap has_zero (sym same) ∙ (λ i. amount i || rest.1 i),
      ap length (sym same) ∙ ap suc rest.2,
    )

list_if_is : (b : Bool) (xs ys : List Asset) → list_if b xs ≡ Some ys → (b ≡ true) × (xs ≡ ys)
list_if_is true xs ys is = (refl, some_same is)
list_if_is false xs ys is = absurd (cc)

all_there : (o : Option (List Asset)) (ys : List Asset) → option_and_then (λ (all : List Asset). list_if (is_rising (in_order all)) (in_order all)) o ≡ Some ys
    → (all : List Asset) × (o ≡ Some all) × (is_rising (in_order all) ≡ true) × (in_order all ≡ ys)
all_there None ys is = absurd (cc)
all_there (Some all) ys is = (let e = list_if_is (is_rising (in_order all)) (in_order all) ys is in (all, refl, e.0, e.1))

pub record IsSendList (xs ys : List Asset) : Type 0 where
  pub places : have_concrete_ids ys ≡ true
  pub some : has_zero ys ≡ has_zero xs
  pub rising : is_rising ys ≡ true
  pub many : length ys ≡ length xs

pub send_list : (target : Location) (context : List Junction) (xs ys : List Asset) → reanchored_list target context xs ≡ Some ys → IsSendList xs ys
unfolding reanchored_list has_bytes
send_list target context xs ys is =
    let there = all_there (all_reanchored target context xs) ys is in
    let all = there.0 in
    let so = named_so target context xs all there.1 in
    let moves = in_order_moves all in
    record {
      places = no_bytes ys (ap has_bytes (sym there.3) ∙ sym (list_any-IsPermutation (λ (a : Asset). not (is_concrete_id a.id)) all (in_order all) moves) ∙ so.0);
      some = ap has_zero (sym there.3) ∙ sym (list_any-IsPermutation is_zero all (in_order all) moves) ∙ so.1;
      rising = ap is_rising (sym there.3) ∙ there.2;
      many = ap length (sym there.3) ∙ length_in_order all ∙ so.2;
    }
