-- Lemmas that the crates above cite: a whole instruction by one layer of it, its spelling, what fits, what can be written; and that a
-- program is convertible just where version 4 can say each id of it. A reader of the contracts may skip this file.
-- ---- the head is that of the layer alone
pub mod OperandLaws
use Rattle.std.proofs.Common.{◌≡◌, ℕ, ◌<◌, ◌^◌, List, ◌++◌, map, Option, Some, None, refl, sym, ap, ◌∙◌, zero, suc, ◌≤◌, true, [], ◌∷◌, arith}
use Rattle.std.proofs.lemmas.List.{length-map}
use Rattle.std.specs.Option.{option_map}
use Rattle.operands.specs.declared.version.Version.{Version}
use Rattle.xcm_program.specs.declared.instruction.Instruction.{Instruction, out-Instruction, roll-Instruction, fold_out-Instruction, map-Instruction}
use Rattle.xcm_program.specs.declared.instruction.Instruction.TheOpen.{Instruction-F}
use Rattle.xcm_program.specs.Measure.{inner, with_inner, inner_of, deep_count}
use Rattle.xcm_program.specs.Everywhere.{AllInside}
use Rattle.xcm_program.proofs.Lemmas.{inner-map, IsOfLayer, everywhere_open, everywhere_made, everywhere_here, deep_count_inside, convertible_inside, is_convertible_one-is, behind_less, some_count, everywhere_by}
use Rattle.xcm_format.specs.Programs.{head, FitsHead, IsCountable, FitsLayer, behind, instruction_spelling, FitsInstruction, FitsProgram}
use Rattle.xcm_format.specs.Writable.{IsNamedHead, IsNamedOne, IsResponseNamed}
use Rattle.std.specs.Cmp.Derive.{both_true}
use Rattle.std.specs.List.{AllByRecursion}
use Rattle.asset_lists.specs.declared.units.AssetId.{AssetId}
use Rattle.asset_lists.specs.declared.units.AssetId.TheVariants.{Concrete, Abstract}
use Rattle.asset_lists.specs.declared.units.Asset.{Asset}
use Rattle.asset_lists.specs.declared.filters.Wild.{Wild}
use Rattle.asset_lists.specs.declared.filters.Wild.TheVariants.{All, AllOf, AllCounted, AllOfCounted}
use Rattle.asset_lists.specs.declared.filters.Filter.{Filter}
use Rattle.asset_lists.specs.declared.filters.Filter.TheVariants as filters
use Rattle.operands.specs.declared.version.Version.TheVariants.{V3, V4}
use Rattle.asset_wire.specs.Spelling.{IsNamed, AreNamed, IsWildNamed, IsFilterNamed}
use Rattle.operands.specs.declared.query.Response.{Response}
use Rattle.operands.specs.declared.query.Response.TheVariants as responses
use Rattle.xcm_program.specs.Conversions.{is_concrete_id, have_concrete_ids, wild_is_concrete, filter_is_concrete, response_is_concrete, names_concrete_ids, is_convertible_one, is_convertible}
use Rattle.plain_lists.proofs.Lemmas.Facts.{both_true as split}

pub head-map : {X Y : Type 0} (v : Version) (f : X → Y) (l : Instruction-F X) → head v (map-Instruction X Y f l) ≡ head v l
unfolding head
head-map v f (Instruction-F.WithdrawAsset list) = refl
head-map v f _ = refl

pub head-with : {X : Type 0} (v : Version) (l : Instruction-F X) (p : List X) → head v (with_inner l p) ≡ head v l
unfolding head
head-with v (Instruction-F.WithdrawAsset list) p = refl
head-with v _ p = refl

pub FitsHead-with : {X : Type 0} (v : Version) (l : Instruction-F X) (p : List X) → FitsHead v l → FitsHead v (with_inner l p)
FitsHead-with v (Instruction-F.WithdrawAsset list) p h = h
FitsHead-with v _ p h = h

FitsHead-map : {X Y : Type 0} (v : Version) (f : X → Y) (l : Instruction-F X) → FitsHead v l ≡ FitsHead v (map-Instruction X Y f l)
FitsHead-map v f (Instruction-F.WithdrawAsset list) = refl
FitsHead-map v f _ = refl

-- ---- the spelling

abbrev pub texts : Version → Option (List Instruction) → Option (List (List ℕ))
texts v o = option_map (map (instruction_spelling v)) o

pub spelling-is : (v : Version) (i : Instruction) → instruction_spelling v i ≡ head v (out-Instruction i) ++ behind (texts v (inner_of i))
unfolding instruction_spelling
spelling-is v i =
    fold_out-Instruction (List ℕ) (λ l. head v l ++ behind (inner l)) i
    ∙ ap (λ (t : List ℕ). t ++ behind (inner (map-Instruction Instruction (List ℕ) (instruction_spelling v) (out-Instruction i)))) (head-map v (instruction_spelling v) (out-Instruction i))
    ∙ ap (λ (o : Option (List (List ℕ))). head v (out-Instruction i) ++ behind o) (inner-map (instruction_spelling v) (out-Instruction i))

-- ---- what fits

countable-map : {X Y : Type 0} (f : X → Y) (o : Option (List X)) → IsCountable o ≡ IsCountable (option_map (map f) o)
countable-map f None = refl
countable-map f (Some p) = ap (λ (n : ℕ). n < 2 ^ 32) (sym (length-map p f))

FitsLayer-IsOfLayer : (v : Version) → IsOfLayer (FitsLayer v)
FitsLayer-IsOfLayer v X Y f l =
    ap (λ (T : Type 0). T × IsCountable (inner l)) (FitsHead-map v f l)
    ∙ ap (λ (T : Type 0). FitsHead v (map-Instruction X Y f l) × T) (countable-map f (inner l) ∙ ap (λ (o : Option (List Y)). IsCountable o) (sym (inner-map f l)))

-- the program inside fits
abbrev pub Inside : Version → Option (List Instruction) → Type 0
Inside v None = Unit {0}
Inside v (Some p) = FitsProgram v p

inside_of : (v : Version) (o : Option (List Instruction)) → IsCountable o → AllInside (FitsInstruction v) o → Inside v o
inside_of v None h k = tt
inside_of v (Some p) h k = (h, k)

counted_of : (v : Version) (o : Option (List Instruction)) → Inside v o → IsCountable o × AllInside (FitsInstruction v) o
counted_of v None h = (tt, tt)
counted_of v (Some p) h = (h.0, h.1)

pub fits_open : (v : Version) (i : Instruction) → FitsInstruction v i → FitsHead v (out-Instruction i) × Inside v (inner_of i)
fits_open v i h =
    let e = everywhere_open (FitsLayer v) (FitsLayer-IsOfLayer v) i h in
    (e.0.0, inside_of v (inner_of i) e.0.1 e.1)

pub fits_made : (v : Version) (l : Instruction-F Instruction) → FitsHead v l → Inside v (inner l) → FitsInstruction v (roll-Instruction l)
fits_made v l h k =
    let c = counted_of v (inner l) k in
    everywhere_made (FitsLayer v) (FitsLayer-IsOfLayer v) l (h, c.0) c.1

pub fits_here : (v : Version) (i : Instruction) → FitsHead v (out-Instruction i) → Inside v (inner_of i) → FitsInstruction v i
fits_here v i h k =
    let c = counted_of v (inner_of i) k in
    everywhere_here (FitsLayer v) (FitsLayer-IsOfLayer v) i (h, c.0) c.1

-- ---- what can be written

pub IsNamedHead-IsOfLayer : (v : Version) → IsOfLayer (IsNamedHead v)
IsNamedHead-IsOfLayer v X Y f (Instruction-F.WithdrawAsset list) = refl
IsNamedHead-IsOfLayer v X Y f _ = refl

pub named_open : (v : Version) (i : Instruction) → IsNamedOne v i → IsNamedHead v Instruction (out-Instruction i) × AllInside (IsNamedOne v) (inner_of i)
named_open v = everywhere_open (IsNamedHead v) (IsNamedHead-IsOfLayer v)

pub named_here : (v : Version) (i : Instruction) → IsNamedHead v Instruction (out-Instruction i) → AllInside (IsNamedOne v) (inner_of i) → IsNamedOne v i
named_here v = everywhere_here (IsNamedHead v) (IsNamedHead-IsOfLayer v)

-- ---- what is named

id_named : (id : AssetId) → is_concrete_id id ≡ true → IsNamed V4 id
id_named (Concrete place) h = tt
id_named (Abstract bytes) h = absurd cc

id_placed : (id : AssetId) → IsNamed V4 id → is_concrete_id id ≡ true
id_placed (Concrete place) h = refl
id_placed (Abstract bytes) h = absurd h

list_named : (list : List Asset) → have_concrete_ids list ≡ true → AreNamed V4 list
list_named [] h = tt
list_named (a ∷ list) h = let b = split (is_concrete_id a.id) (have_concrete_ids list) h in (id_named a.id b.0, list_named list b.1)

list_placed : (list : List Asset) → AreNamed V4 list → have_concrete_ids list ≡ true
list_placed [] h = refl
list_placed (a ∷ list) h = both_true (id_placed a.id h.0) (list_placed list h.1)

wild_named : (w : Wild) → wild_is_concrete w ≡ true → IsWildNamed V4 w
wild_named All h = tt
wild_named (AllOf id fun) h = id_named id h
wild_named (AllCounted count) h = tt
wild_named (AllOfCounted id fun count) h = id_named id h

wild_placed : (w : Wild) → IsWildNamed V4 w → wild_is_concrete w ≡ true
wild_placed All h = refl
wild_placed (AllOf id fun) h = id_placed id h
wild_placed (AllCounted count) h = refl
wild_placed (AllOfCounted id fun count) h = id_placed id h

filter_named : (f : Filter) → filter_is_concrete f ≡ true → IsFilterNamed V4 f
filter_named (filters.Definite list) h = list_named list h
filter_named (filters.Wild which) h = wild_named which h

filter_placed : (f : Filter) → IsFilterNamed V4 f → filter_is_concrete f ≡ true
filter_placed (filters.Definite list) h = list_placed list h
filter_placed (filters.Wild which) h = wild_placed which h

response_named : (r : Response) → response_is_concrete r ≡ true → IsResponseNamed V4 r
response_named (responses.Assets list) h = list_named list h
response_named _ h = tt

response_placed : (r : Response) → IsResponseNamed V4 r → response_is_concrete r ≡ true
response_placed (responses.Assets list) h = list_placed list h
response_placed _ h = refl

head_named : {X : Type 0} (l : Instruction-F X) → names_concrete_ids l ≡ true → IsNamedHead V4 X l
head_named (Instruction-F.WithdrawAsset list) h = list_named list h
head_named (Instruction-F.ReserveAssetDeposited list) h = list_named list h
head_named (Instruction-F.ReceiveTeleportedAsset list) h = list_named list h
head_named (Instruction-F.QueryResponse _ answer _ _) h = response_named answer h
head_named (Instruction-F.TransferAsset list _) h = list_named list h
head_named (Instruction-F.TransferReserveAsset list _ _) h = list_named list h
head_named (Instruction-F.DepositAsset taken _) h = filter_named taken h
head_named (Instruction-F.DepositReserveAsset taken _ _) h = filter_named taken h
head_named (Instruction-F.ExchangeAsset taken list _) h = let b = split (filter_is_concrete taken) (have_concrete_ids list) h in (filter_named taken b.0, list_named list b.1)
head_named (Instruction-F.InitiateReserveWithdraw taken _ _) h = filter_named taken h
head_named (Instruction-F.InitiateTeleport taken _ _) h = filter_named taken h
head_named (Instruction-F.ReportHolding _ taken) h = filter_named taken h
head_named (Instruction-F.BuyExecution fees _) h = id_named fees.id h
head_named (Instruction-F.ClaimAsset list _) h = list_named list h
head_named (Instruction-F.BurnAsset list) h = list_named list h
head_named (Instruction-F.ExpectAsset list) h = list_named list h
head_named (Instruction-F.LockAsset goods _) h = id_named goods.id h
head_named (Instruction-F.UnlockAsset goods _) h = id_named goods.id h
head_named (Instruction-F.NoteUnlockable goods _) h = id_named goods.id h
head_named (Instruction-F.RequestUnlock goods _) h = id_named goods.id h
head_named _ h = tt

head_placed : {X : Type 0} (l : Instruction-F X) → IsNamedHead V4 X l → names_concrete_ids l ≡ true
head_placed (Instruction-F.WithdrawAsset list) h = list_placed list h
head_placed (Instruction-F.ReserveAssetDeposited list) h = list_placed list h
head_placed (Instruction-F.ReceiveTeleportedAsset list) h = list_placed list h
head_placed (Instruction-F.QueryResponse _ answer _ _) h = response_placed answer h
head_placed (Instruction-F.TransferAsset list _) h = list_placed list h
head_placed (Instruction-F.TransferReserveAsset list _ _) h = list_placed list h
head_placed (Instruction-F.DepositAsset taken _) h = filter_placed taken h
head_placed (Instruction-F.DepositReserveAsset taken _ _) h = filter_placed taken h
head_placed (Instruction-F.ExchangeAsset taken list _) h = both_true (filter_placed taken h.0) (list_placed list h.1)
head_placed (Instruction-F.InitiateReserveWithdraw taken _ _) h = filter_placed taken h
head_placed (Instruction-F.InitiateTeleport taken _ _) h = filter_placed taken h
head_placed (Instruction-F.ReportHolding _ taken) h = filter_placed taken h
head_placed (Instruction-F.BuyExecution fees _) h = id_placed fees.id h
head_placed (Instruction-F.ClaimAsset list _) h = list_placed list h
head_placed (Instruction-F.BurnAsset list) h = list_placed list h
head_placed (Instruction-F.ExpectAsset list) h = list_placed list h
head_placed (Instruction-F.LockAsset goods _) h = id_placed goods.id h
head_placed (Instruction-F.UnlockAsset goods _) h = id_placed goods.id h
head_placed (Instruction-F.NoteUnlockable goods _) h = id_placed goods.id h
head_placed (Instruction-F.RequestUnlock goods _) h = id_placed goods.id h
head_placed _ h = refl

-- ---- version 3 can say every id

list_named3 : (list : List Asset) → AreNamed V3 list
list_named3 [] = tt
list_named3 (a ∷ list) = (tt, list_named3 list)

wild_named3 : (w : Wild) → IsWildNamed V3 w
wild_named3 All = tt
wild_named3 (AllOf id fun) = tt
wild_named3 (AllCounted count) = tt
wild_named3 (AllOfCounted id fun count) = tt

filter_named3 : (f : Filter) → IsFilterNamed V3 f
filter_named3 (filters.Definite list) = list_named3 list
filter_named3 (filters.Wild which) = wild_named3 which

response_named3 : (r : Response) → IsResponseNamed V3 r
response_named3 (responses.Assets list) = list_named3 list
response_named3 _ = tt

head_named3 : {X : Type 0} (l : Instruction-F X) → IsNamedHead V3 X l
head_named3 (Instruction-F.WithdrawAsset list) = list_named3 list
head_named3 (Instruction-F.ReserveAssetDeposited list) = list_named3 list
head_named3 (Instruction-F.ReceiveTeleportedAsset list) = list_named3 list
head_named3 (Instruction-F.QueryResponse _ answer _ _) = response_named3 answer
head_named3 (Instruction-F.TransferAsset list _) = list_named3 list
head_named3 (Instruction-F.TransferReserveAsset list _ _) = list_named3 list
head_named3 (Instruction-F.DepositAsset taken _) = filter_named3 taken
head_named3 (Instruction-F.DepositReserveAsset taken _ _) = filter_named3 taken
head_named3 (Instruction-F.ExchangeAsset taken list _) = (filter_named3 taken, list_named3 list)
head_named3 (Instruction-F.InitiateReserveWithdraw taken _ _) = filter_named3 taken
head_named3 (Instruction-F.InitiateTeleport taken _ _) = filter_named3 taken
head_named3 (Instruction-F.ReportHolding _ taken) = filter_named3 taken
head_named3 (Instruction-F.BuyExecution _ _) = tt
head_named3 (Instruction-F.ClaimAsset list _) = list_named3 list
head_named3 (Instruction-F.BurnAsset list) = list_named3 list
head_named3 (Instruction-F.ExpectAsset list) = list_named3 list
head_named3 (Instruction-F.LockAsset _ _) = tt
head_named3 (Instruction-F.UnlockAsset _ _) = tt
head_named3 (Instruction-F.NoteUnlockable _ _) = tt
head_named3 (Instruction-F.RequestUnlock _ _) = tt
head_named3 _ = tt

-- ---- whole programs, of at most n instructions

head_true : (i : Instruction) (rest : List Instruction) → is_convertible (i ∷ rest) ≡ true → (names_concrete_ids (out-Instruction i) ≡ true) × (convertible_inside (inner_of i) ≡ true)
head_true i rest ok = split (names_concrete_ids (out-Instruction i)) (convertible_inside (inner_of i)) (sym (is_convertible_one-is i) ∙ (split (is_convertible_one i) (is_convertible rest) ok).0)

pub named_from : (p : List Instruction) → is_convertible p ≡ true → AllByRecursion (IsNamedOne V4) p
named_from p =
    everywhere_by (IsNamedHead V4) (IsNamedHead-IsOfLayer V4) (λ q. is_convertible q ≡ true)
    (λ i rest ok. head_named (out-Instruction i) (head_true i rest ok).0)
    (λ i rest q is ok. ap convertible_inside (sym is) ∙ (head_true i rest ok).1)
    (λ i rest ok. (split (is_convertible_one i) (is_convertible rest) ok).1)
    p

pub named3 : (p : List Instruction) → AllByRecursion (IsNamedOne V3) p
named3 p = everywhere_by (IsNamedHead V3) (IsNamedHead-IsOfLayer V3) (λ q. Unit {0}) (λ i rest ok. head_named3 (out-Instruction i)) (λ i rest q is ok. tt) (λ i rest ok. tt) p tt

placed_inside : (n : ℕ) → ((p : List Instruction) → deep_count p ≤ n → AllByRecursion (IsNamedOne V4) p → is_convertible p ≡ true) → (o : Option (List Instruction)) → deep_count_inside o ≤ n → AllInside (IsNamedOne V4) o → convertible_inside o ≡ true
placed_inside n h None few all = refl
placed_inside n h (Some p) few all = h p few all

placed_by : (n : ℕ) (p : List Instruction) → deep_count p ≤ n → AllByRecursion (IsNamedOne V4) p → is_convertible p ≡ true
placed_by n [] few all = refl
placed_by zero (i ∷ rest) few all = absurd (some_count i rest few)
placed_by (suc n) (i ∷ rest) few all =
    let b = behind_less n i rest few in
    let o = named_open V4 i all.0 in
    both_true (is_convertible_one-is i ∙ both_true (head_placed (out-Instruction i) o.0) (placed_inside n (placed_by n) (inner_of i) b.0 o.1)) (placed_by n rest b.1 all.1)

pub named_to : (p : List Instruction) → AllByRecursion (IsNamedOne V4) p → is_convertible p ≡ true
named_to p = placed_by (deep_count p) p (omega arith)

-- ---- a convertible program in either version

pub named_in : (v : Version) (p : List Instruction) → is_convertible p ≡ true → AllByRecursion (IsNamedOne v) p
named_in V3 p convertible = named3 p
named_in V4 p convertible = named_from p convertible
