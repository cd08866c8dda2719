-- Lemmas that proofs cite, in this crate and above it: one layer of a fold over instructions, one layer of a fact of all instructions,
-- and an induction over programs. A reader of the contracts may skip this file.
pub mod NamesFit
-- ---- parts of a layer, with f of each instruction in it
use Rattle.std.proofs.Common.{◌≡◌, ℕ, zero, suc, ◌+◌, ◌<◌, ◌≤◌, max, Bool, true, ◌&&◌, List, [], ◌∷◌, length, map, get_or, drop, Option, Some, None, refl, sym, ap, subst, ◌∙◌, add-one, arith, drop-cons}
use Rattle.std.specs.Option.{option_map}
use Rattle.std.specs.List.{AllByRecursion}
use Rattle.operands.specs.declared.weight.Weight.{Weight}
use Rattle.xcm_program.specs.declared.instruction.Instruction.{Instruction, out-Instruction, roll-Instruction, roll-out-Instruction, fold-Instruction, fold_out-Instruction, map-Instruction, rec-roll-Instruction}
use Rattle.xcm_program.specs.declared.instruction.Instruction.TheOpen.{Instruction-F}
use Rattle.xcm_program.specs.Measure.{inner, with_inner, inner_of, sum_of_list, sum_inside, greatest, greatest_inside, deep_count_one, deep_count, depth_one, depth, sending, sends_one}
use Rattle.xcm_program.specs.Everywhere.{AllInside, Everywhere}
use Rattle.xcm_program.specs.Weights.{kept, required, kept_one, weight_one}
use Rattle.xcm_program.specs.Conversions.{names_concrete_ids, all_true_inside, is_convertible_one, is_convertible, HasAmount, HasAmounts}

pub inner-map : {X Y : Type 0} (f : X → Y) (l : Instruction-F X) → inner (map-Instruction X Y f l) ≡ option_map (map f) (inner l)
inner-map f (Instruction-F.TransferReserveAsset list place xcm) = refl
inner-map f (Instruction-F.DepositReserveAsset taken place xcm) = refl
inner-map f (Instruction-F.InitiateReserveWithdraw taken place xcm) = refl
inner-map f (Instruction-F.InitiateTeleport taken place xcm) = refl
inner-map f (Instruction-F.SetErrorHandler xcm) = refl
inner-map f (Instruction-F.SetAppendix xcm) = refl
inner-map f (Instruction-F.ExportMessage net path xcm) = refl
inner-map f _ = refl

pub kept-map : {X Y : Type 0} (f : X → Y) (l : Instruction-F X) → kept (map-Instruction X Y f l) ≡ option_map (map f) (kept l)
kept-map f (Instruction-F.SetErrorHandler xcm) = refl
kept-map f (Instruction-F.SetAppendix xcm) = refl
kept-map f _ = refl

pub required-map : {X Y : Type 0} (f : X → Y) (l : Instruction-F X) → required (map-Instruction X Y f l) ≡ required l
required-map f (Instruction-F.Transact kind w call) = refl
required-map f _ = refl

pub sending-map : {X Y : Type 0} (f : X → Y) (l : Instruction-F X) → sending (map-Instruction X Y f l) ≡ sending l
sending-map f (Instruction-F.WithdrawAsset list) = refl
sending-map f _ = refl

pub names_places-map : {X Y : Type 0} (f : X → Y) (l : Instruction-F X) → names_concrete_ids (map-Instruction X Y f l) ≡ names_concrete_ids l
names_places-map f (Instruction-F.WithdrawAsset list) = refl
names_places-map f _ = refl

-- ---- sums over the layers of an instruction

abbrev pub total_of : (Instruction → ℕ) → List Instruction → ℕ
total_of one program = sum_of_list (map one program)

abbrev pub total_inside : (Instruction → ℕ) → Option (List Instruction) → ℕ
total_inside one None = 0
total_inside one (Some program) = total_of one program

total_inside-map : (one : Instruction → ℕ) (o : Option (List Instruction)) → sum_inside (option_map (map one) o) ≡ total_inside one o
total_inside-map one None = refl
total_inside-map one (Some program) = refl

pub total-drop : (one : Instruction → ℕ) (p : List Instruction) (k : ℕ) (i : Instruction) → k < length p → i ≡ get_or p k i → total_of one (drop k p) ≡ one i + total_of one (drop (k + 1) p)
total-drop one p k i lt at = rw (add-one, drop-cons p k i lt) (ap (λ (j : Instruction). one j + total_of one (drop (suc k) p)) (sym at))

-- what each layer has of its own, and what a program in it has
module _ (own : (X : Type 0) → Instruction-F X → ℕ) (part : (X : Type 0) → Instruction-F X → Option (List X))
    (own-map : (X Y : Type 0) (f : X → Y) (l : Instruction-F X) → own Y (map-Instruction X Y f l) ≡ own X l)
    (part-map : (X Y : Type 0) (f : X → Y) (l : Instruction-F X) → part Y (map-Instruction X Y f l) ≡ option_map (map f) (part X l)) where
  abbrev one : Instruction → ℕ
  one = fold-Instruction ℕ (λ l. own ℕ l + sum_inside (part ℕ l))

  sum_one-is : (i : Instruction) → one i ≡ own Instruction (out-Instruction i) + total_inside one (part Instruction (out-Instruction i))
  sum_one-is i =
      fold_out-Instruction ℕ (λ l. own ℕ l + sum_inside (part ℕ l)) i
      ∙ ap (λ (n : ℕ). n + sum_inside (part ℕ (map-Instruction Instruction ℕ one (out-Instruction i)))) (own-map Instruction ℕ one (out-Instruction i))
      ∙ ap (λ (o : Option (List ℕ)). own Instruction (out-Instruction i) + sum_inside o) (part-map Instruction ℕ one (out-Instruction i))
      ∙ ap (λ (n : ℕ). own Instruction (out-Instruction i) + n) (total_inside-map one (part Instruction (out-Instruction i)))

abbrev pub deep_count_inside : Option (List Instruction) → ℕ
deep_count_inside o = total_inside deep_count_one o

pub deep_count_one-is : (i : Instruction) → deep_count_one i ≡ 1 + deep_count_inside (inner_of i)
deep_count_one-is = sum_one-is (λ X l. 1) (λ X l. inner l) (λ X Y f l. refl) (λ X Y f l. inner-map f l)

-- by the program that was found inside
pub counted_inside : (i : Instruction) (nested : Option (List Instruction)) → inner_of i ≡ nested
    → deep_count_one i ≡ 1 + deep_count_inside nested
counted_inside i nested inside =
    deep_count_one-is i ∙ ap (λ (o : Option (List Instruction)). 1 + deep_count_inside o) inside

abbrev pub sends_inside : Option (List Instruction) → ℕ
sends_inside o = total_inside sends_one o

pub sends_one-is : (i : Instruction) → sends_one i ≡ sending (out-Instruction i) + sends_inside (inner_of i)
sends_one-is = sum_one-is (λ X l. sending l) (λ X l. inner l) (λ X Y f l. sending-map f l) (λ X Y f l. inner-map f l)

pub kept_one-is : (i : Instruction) → kept_one i ≡ 1 + total_inside kept_one (kept (out-Instruction i))
kept_one-is = sum_one-is (λ X l. 1) (λ X l. kept l) (λ X Y f l. refl) (λ X Y f l. kept-map f l)

pub weight_one-is : (dimension : Weight → ℕ) (unit : ℕ) (i : Instruction)
    → weight_one dimension unit i ≡ unit + dimension (required (out-Instruction i)) + total_inside (weight_one dimension unit) (kept (out-Instruction i))
weight_one-is dimension unit =
    sum_one-is (λ X l. unit + dimension (required l)) (λ X l. kept l) (λ X Y f l. ap (λ (w : Weight). unit + dimension w) (required-map f l)) (λ X Y f l. kept-map f l)

-- what is kept is inside
kept_within : (l : Instruction-F Instruction) → deep_count_inside (kept l) ≤ deep_count_inside (inner l)
kept_within (Instruction-F.SetErrorHandler xcm) = omega arith
kept_within (Instruction-F.SetAppendix xcm) = omega arith
kept_within _ = omega arith

pub deep_count_one-kept : (i : Instruction) → 1 + deep_count_inside (kept (out-Instruction i)) ≤ deep_count_one i
deep_count_one-kept i = omega (arith, deep_count_one-is i, kept_within (out-Instruction i))

-- no program has more instructions than it holds with those inside
pub length-deep_count : (p : List Instruction) → length p ≤ deep_count p
length-deep_count [] = omega arith
length-deep_count (i ∷ p) = omega (arith, deep_count_one-is i, length-deep_count p)

-- ---- depths

abbrev pub depth_inside : Option (List Instruction) → ℕ
depth_inside None = 0
depth_inside (Some program) = depth program

greatest_inside-map : (o : Option (List Instruction)) → greatest_inside (option_map (map depth_one) o) ≡ depth_inside o
greatest_inside-map None = refl
greatest_inside-map (Some program) = refl

pub depth_one-is : (i : Instruction) → depth_one i ≡ depth_inside (inner_of i)
depth_one-is i =
    fold_out-Instruction ℕ (λ l. greatest_inside (inner l)) i
    ∙ ap greatest_inside (inner-map depth_one (out-Instruction i))
    ∙ greatest_inside-map (inner_of i)

pub greatest-drop : (p : List Instruction) (k : ℕ) (i : Instruction) → k < length p → i ≡ get_or p k i → greatest (map depth_one (drop k p)) ≡ max (depth_one i) (greatest (map depth_one (drop (k + 1) p)))
greatest-drop p k i lt at = rw (add-one, drop-cons p k i lt) (ap (λ (j : Instruction). max (depth_one j) (greatest (map depth_one (drop (suc k) p)))) (sym at))

-- ---- conversions

abbrev pub convertible_inside : Option (List Instruction) → Bool
convertible_inside None = true
convertible_inside (Some program) = is_convertible program

convertible_inside-map : (o : Option (List Instruction)) → all_true_inside (option_map (map is_convertible_one) o) ≡ convertible_inside o
convertible_inside-map None = refl
convertible_inside-map (Some program) = refl

pub is_convertible_one-is : (i : Instruction) → is_convertible_one i ≡ names_concrete_ids (out-Instruction i) && convertible_inside (inner_of i)
is_convertible_one-is i =
    fold_out-Instruction Bool (λ l. names_concrete_ids l && all_true_inside (inner l)) i
    ∙ ap (λ (b : Bool). b && all_true_inside (inner (map-Instruction Instruction Bool is_convertible_one (out-Instruction i)))) (names_places-map is_convertible_one (out-Instruction i))
    ∙ ap (λ (o : Option (List Bool)). names_concrete_ids (out-Instruction i) && all_true_inside o) (inner-map is_convertible_one (out-Instruction i))
    ∙ ap (λ (b : Bool). names_concrete_ids (out-Instruction i) && b) (convertible_inside-map (inner_of i))

-- ---- another program inside

pub inner-with : {X : Type 0} (l : Instruction-F X) (q p : List X) → inner l ≡ Some q → inner (with_inner l p) ≡ Some p
inner-with (Instruction-F.TransferReserveAsset list place _) q p e = refl
inner-with (Instruction-F.DepositReserveAsset taken place _) q p e = refl
inner-with (Instruction-F.InitiateReserveWithdraw taken place _) q p e = refl
inner-with (Instruction-F.InitiateTeleport taken place _) q p e = refl
inner-with (Instruction-F.SetErrorHandler _) q p e = refl
inner-with (Instruction-F.SetAppendix _) q p e = refl
inner-with (Instruction-F.ExportMessage net path _) q p e = refl
inner-with _ q p e = absurd cc

-- putting back what was there
pub with-back : {X : Type 0} (l : Instruction-F X) (q p : List X) → inner l ≡ Some p → with_inner (with_inner l q) p ≡ l
with-back (Instruction-F.TransferReserveAsset list place _) q p e = ap (Instruction-F.TransferReserveAsset list place) (cc)
with-back (Instruction-F.DepositReserveAsset taken place _) q p e = ap (Instruction-F.DepositReserveAsset taken place) (cc)
with-back (Instruction-F.InitiateReserveWithdraw taken place _) q p e = ap (Instruction-F.InitiateReserveWithdraw taken place) (cc)
with-back (Instruction-F.InitiateTeleport taken place _) q p e = ap (Instruction-F.InitiateTeleport taken place) (cc)
with-back (Instruction-F.SetErrorHandler _) q p e = ap Instruction-F.SetErrorHandler (cc)
with-back (Instruction-F.SetAppendix _) q p e = ap Instruction-F.SetAppendix (cc)
with-back (Instruction-F.ExportMessage net path _) q p e = ap (Instruction-F.ExportMessage net path) (cc)
with-back _ q p e = absurd cc

pub with-none : {X : Type 0} (l : Instruction-F X) (q : List X) → inner l ≡ None → with_inner l q ≡ l
with-none (Instruction-F.TransferReserveAsset list place _) q e = absurd cc
with-none (Instruction-F.DepositReserveAsset taken place _) q e = absurd cc
with-none (Instruction-F.InitiateReserveWithdraw taken place _) q e = absurd cc
with-none (Instruction-F.InitiateTeleport taken place _) q e = absurd cc
with-none (Instruction-F.SetErrorHandler _) q e = absurd cc
with-none (Instruction-F.SetAppendix _) q e = absurd cc
with-none (Instruction-F.ExportMessage net path _) q e = absurd cc
with-none _ q e = refl

-- ---- a fact of each layer, at one layer

each-map : {X Y : Type 0} (v : X → Y) (P : Y → Type 0) (p : List X) → AllByRecursion (λ x. P (v x)) p ≡ AllByRecursion P (map v p)
each-map v P [] = refl
each-map v P (x ∷ p) = ap (λ (T : Type 0). P (v x) × T) (each-map v P p)

inside-map : {X Y : Type 0} (v : X → Y) (P : Y → Type 0) (o : Option (List X)) → AllInside (λ x. P (v x)) o ≡ AllInside P (option_map (map v) o)
inside-map v P None = refl
inside-map v P (Some p) = each-map v P p

-- Q says the same of a layer whatever is in it
abbrev pub IsOfLayer : ((X : Type 0) → Instruction-F X → Type 0) → Type 1
IsOfLayer Q = (X Y : Type 0) (v : X → Y) (l : Instruction-F X) → Q X l ≡ Q Y (map-Instruction X Y v l)

module _ (Q : (X : Type 0) → Instruction-F X → Type 0) (same : IsOfLayer Q) where
  natural : (X : Type 0) (v : X → Instruction) (k : Instruction → Type 0) (l : Instruction-F X)
      → (Q X l × AllInside (λ x. k (v x)) (inner l)) ≡ (Q Instruction (map-Instruction X Instruction v l) × AllInside k (inner (map-Instruction X Instruction v l)))
  natural X v k l =
      ap (λ (T : Type 0). T × AllInside (λ x. k (v x)) (inner l)) (same X Instruction v l)
      ∙ ap (λ (T : Type 0). Q Instruction (map-Instruction X Instruction v l) × T) (inside-map v k (inner l) ∙ ap (λ (o : Option (List Instruction)). AllInside k o) (sym (inner-map v l)))

  everywhere-roll : (l : Instruction-F Instruction) → Everywhere Q (roll-Instruction l) ≡ (Q Instruction l × AllInside (Everywhere Q) (inner l))
  everywhere-roll l = rec-roll-Instruction (Type 0) (λ X v k l. Q X l × AllInside k (inner l)) natural l

  pub everywhere_open : (i : Instruction) → Everywhere Q i → Q Instruction (out-Instruction i) × AllInside (Everywhere Q) (inner_of i)
  everywhere_open i h = subst (λ (T : Type 0). T) (ap (Everywhere Q) (sym (roll-out-Instruction i)) ∙ everywhere-roll (out-Instruction i)) h

  pub everywhere_made : (l : Instruction-F Instruction) → Q Instruction l → AllInside (Everywhere Q) (inner l) → Everywhere Q (roll-Instruction l)
  everywhere_made l h k = subst (λ (T : Type 0). T) (sym (everywhere-roll l)) (h, k)

  pub everywhere_here : (i : Instruction) → Q Instruction (out-Instruction i) → AllInside (Everywhere Q) (inner_of i) → Everywhere Q i
  everywhere_here i h k = subst (Everywhere Q) (roll-out-Instruction i) (everywhere_made (out-Instruction i) h k)

pub HasAmount-IsOfLayer : IsOfLayer HasAmount
HasAmount-IsOfLayer X Y f (Instruction-F.WithdrawAsset list) = refl
HasAmount-IsOfLayer X Y f _ = refl

pub amounts_open : (i : Instruction) → HasAmounts i → HasAmount Instruction (out-Instruction i) × AllInside HasAmounts (inner_of i)
amounts_open = everywhere_open HasAmount HasAmount-IsOfLayer

pub amounts_here : (i : Instruction) → HasAmount Instruction (out-Instruction i) → AllInside HasAmounts (inner_of i) → HasAmounts i
amounts_here = everywhere_here HasAmount HasAmount-IsOfLayer

-- ---- what a fact of programs says of the first head, where it goes over to what is inside and after, holds everywhere

pub behind_less : (n : ℕ) (i : Instruction) (rest : List Instruction) → deep_count (i ∷ rest) ≤ suc n → (deep_count_inside (inner_of i) ≤ n) × (deep_count rest ≤ n)
behind_less n i rest few = let c = deep_count_one-is i in (omega (arith, c, few), omega (arith, c, few))

pub some_count : (i : Instruction) (rest : List Instruction) → deep_count (i ∷ rest) ≤ 0 → ⊥
some_count i rest few = omega (arith, deep_count_one-is i, few)

module _ (Q : (X : Type 0) → Instruction-F X → Type 0) (same : IsOfLayer Q) (Holds : List Instruction → Type 0) (head : (i : Instruction) (rest : List Instruction) → Holds (i ∷ rest) → Q Instruction (out-Instruction i))
    (inside : (i : Instruction) (rest p : List Instruction) → inner_of i ≡ Some p → Holds (i ∷ rest) → Holds p) (behind : (i : Instruction) (rest : List Instruction) → Holds (i ∷ rest) → Holds rest) where
  inside_by : (n : ℕ) → ((p : List Instruction) → deep_count p ≤ n → Holds p → AllByRecursion (Everywhere Q) p) → (i : Instruction) (rest : List Instruction) (o : Option (List Instruction))
      → inner_of i ≡ o → deep_count_inside o ≤ n → Holds (i ∷ rest) → AllInside (Everywhere Q) o
  inside_by n h i rest None is few holds = tt
  inside_by n h i rest (Some p) is few holds = h p few (inside i rest p is holds)

  -- of at most n instructions
  by_count : (n : ℕ) (p : List Instruction) → deep_count p ≤ n → Holds p → AllByRecursion (Everywhere Q) p
  by_count n [] few holds = tt
  by_count zero (i ∷ rest) few holds = absurd (some_count i rest few)
  by_count (suc n) (i ∷ rest) few holds =
      let b = behind_less n i rest few in
      (everywhere_here Q same i (head i rest holds) (inside_by n (by_count n) i rest (inner_of i) refl b.0 holds), by_count n rest b.1 (behind i rest holds))

  pub everywhere_by : (p : List Instruction) → Holds p → AllByRecursion (Everywhere Q) p
  everywhere_by p = by_count (deep_count p) p (omega arith)
