-- The tests of barriers in words, and what an answer leaves of the program.
use Rattle.std.proofs.Common.{◌≡◌, ◌≢◌, ℕ, zero, suc, ◌<◌, ◌≤◌, ◌⊎◌, inl, inr, Bool, true, false, cond, ◌||◌, IsTrue, IsFalse, Decides, List, [], ◌∷◌, ◌++◌, length, get_or, Option, Some, None, refl, sym, ap, subst, ◌∙◌, leb, arith, length-set, get_or-set_same}
use Rattle.std.proofs.Math.ListN.{set}
use Rattle.std.proofs.lemmas.Bool.{leb-true, le-leb}
use Rattle.std.proofs.lemmas.Bool.Decides.{Decides-and, Decides-eqb}
use Rattle.std.proofs.lemmas.List.Folds.{Any-from_list_any, list_any-from_Any}
use Rattle.std.proofs.lemmas.List.Sums.{prefix_len_is, prefix_len_passes, prefix_len-le-length}
use Rattle.std.proofs.lemmas.Option.{same_Some, slice_get_within, slice_get-get_or, get_or_from_slice_get}
use Rattle.std.specs.List.{All, Any, Contains, find, list_any, prefix_len, slice_get}
use Rattle.std.specs.Option.{IsSomeAnd, is_some, option_map_or}
use Rattle.std.specs.Ordering.{eq_by_cmp}
use Rattle.locations.specs.declared.relative.Location.{Location}
use Rattle.locations.specs.Order.{location_cmp}
use Rattle.locations.proofs.Lemmas.OrderLaws.{location_decides}
use Rattle.operands.specs.declared.query.OpenQuery.{OpenQuery}
use Rattle.operands.specs.declared.weight.Weight.{Weight}
use Rattle.operands.specs.declared.weight.WeightLimit.{WeightLimit}
use Rattle.operands.specs.declared.weight.WeightLimit.TheVariants.{Unlimited, Limited}
use Rattle.xcm_program.specs.declared.instruction.Instruction.{Instruction, out-Instruction, out-roll-Instruction}
use Rattle.xcm_program.specs.declared.instruction.Instruction.TheOpen.{Instruction-F}
use Rattle.barriers.specs.declared.barrier.Barrier.{Barrier}
use Rattle.barriers.specs.declared.barrier.Barrier.TheVariants.{Credit, Paid, Explicit, Unpaid, Responses}
use Rattle.operands.specs.Weights.{is_within}
use Rattle.barriers.specs.Barriers.{is_within_limit, is_listed_origin, brings_few, clears_origin, buys, purchase_index, is_paid_execution, with_limit, limited, with_limit_at, asks_unpaid, is_query_of_origin, responds, is_response, allows, left_by, decided, admission}
use Rattle.barriers.specs.Meaning.{IsWeightWithin, IsWithinLimit, HoldsAt, BringsFew, ClearsOrigin, Buys, PaysAt, AsksUnpaid, IsQuery, Responds, Allows, IsLimited, SetsLimit, Leaves}

-- ---- tests in words

le_says : (a b : ℕ) → Decides (leb a b) (a ≤ b)
le_says a b = (leb-true a b, le-leb a b)

never : Decides false ⊥
never = (λ e. absurd cc, λ e. absurd e)

within_says : (weight most : Weight) → Decides (is_within weight most) (IsWeightWithin weight most)
within_says weight most = Decides-and _ _ (le_says weight.ref_time most.ref_time) (le_says weight.proof_size most.proof_size)

fits_says : (weight : Weight) (limit : WeightLimit) → Decides (is_within_limit weight limit) (IsWithinLimit weight limit)
fits_says weight Unlimited = (λ e. tt, λ e. refl)
fits_says weight (Limited most) = within_says weight most

any_says : {X : Type 0} (p : X → Bool) (P : X → Type 0) → ((x : X) → Decides (p x) (P x)) → (xs : List X) → Decides (list_any p xs) (Any P xs)
any_says p P says xs = (
  λ e. let some = Any-from_list_any p xs e in (some.0, some.1, some.2, some.3, (says some.1).0 some.4),
  λ some. list_any-from_Any p xs (some.0, some.1, some.2, some.3, (says some.1).1 some.4),
)

listed_says : (origins : List Location) (origin : Location) → Decides (is_listed_origin origins origin) (Contains origins origin)
listed_says origins origin =
    let some = any_says (λ listed. eq_by_cmp location_cmp listed origin) (λ listed. listed ≡ origin) (λ listed. location_decides listed origin) origins in (
      λ e. let h = some.0 e in (h.0, h.2, subst (λ listed. get_or origins h.0 listed ≡ listed) h.4 h.3),
      λ h. some.1 (h.0, origin, h.1, h.2, refl),
    )

at_says : (test : Instruction-F Instruction → Bool) (P : Instruction-F Instruction → Type 0) → ((l : Instruction-F Instruction) → Decides (test l) (P l))
    → (found : Option Instruction) → Decides (option_map_or (λ i. test (out-Instruction i)) found false) (IsSomeAnd found (λ i. P (out-Instruction i)))
at_says test P says None = never
at_says test P says (Some i) = says (out-Instruction i)

brings_says : {X : Type 0} (l : Instruction-F X) → Decides (brings_few l) (BringsFew l)
brings_says (Instruction-F.WithdrawAsset list) = le_says (length list) 2
brings_says (Instruction-F.ReserveAssetDeposited list) = le_says (length list) 2
brings_says (Instruction-F.ReceiveTeleportedAsset list) = le_says (length list) 2
brings_says (Instruction-F.ClaimAsset list _) = le_says (length list) 2
brings_says _ = never

clears_says : {X : Type 0} (l : Instruction-F X) → Decides (clears_origin l) (ClearsOrigin l)
clears_says Instruction-F.ClearOrigin = (λ e. tt, λ e. refl)
clears_says _ = never

buys_says : {X : Type 0} (weight : Weight) (l : Instruction-F X) → Decides (buys weight l) (Buys weight l)
buys_says weight (Instruction-F.BuyExecution _ limit) = fits_says weight limit
buys_says weight _ = never

asks_says : {X : Type 0} (weight : Weight) (l : Instruction-F X) → Decides (asks_unpaid weight l) (AsksUnpaid weight l)
asks_says weight (Instruction-F.UnpaidExecution limit _) = fits_says weight limit
asks_says weight _ = never

query_says : (id : ℕ) (origin : Location) (query : OpenQuery) → Decides (is_query_of_origin id origin query) (IsQuery id origin query)
query_says id origin query = Decides-and _ _ (Decides-eqb query.id id) (location_decides query.from origin)

responds_says : {X : Type 0} (queries : List OpenQuery) (origin : Location) (l : Instruction-F X) → Decides (responds queries origin l) (Responds queries origin l)
responds_says queries origin (Instruction-F.QueryResponse id _ _ _) = any_says (is_query_of_origin id origin) (IsQuery id origin) (query_says id origin) queries
responds_says queries origin _ = never

response_says : (queries : List OpenQuery) (origin : Location) (program : List Instruction) → Decides (is_response queries origin program) ((length program ≡ 1) × HoldsAt (Responds queries origin) program 0)
response_says queries origin [] = (λ e. absurd cc, λ h. absurd h.1)
response_says queries origin (i ∷ []) = let says = responds_says queries origin (out-Instruction i) in (λ e. (refl, says.0 e), λ h. says.1 h.1)
response_says queries origin (i ∷ j ∷ rest) = (λ e. absurd cc, λ h. absurd (omega (arith, h.0)))

-- ---- the paid barrier

some_of : {X : Type 0} (P : X → Type 0) (found : Option X) → IsSomeAnd found P → (x : X) × (found ≡ Some x) × P x
some_of P None h = absurd h
some_of P (Some x) h = (x, refl, h)

some_and : {X : Type 0} (P : X → Type 0) (found : Option X) (x : X) → found ≡ Some x → P x → IsSomeAnd found P
some_and P found x is h = subst (λ o. IsSomeAnd o P) (sym is) h

abbrev clears : Instruction → Bool
clears i = clears_origin (out-Instruction i)

cleared : (program : List Instruction) (k : ℕ) → 0 < k → k < purchase_index program → HoldsAt ClearsOrigin program k
cleared [] k after lt = absurd (omega arith)
cleared (i ∷ rest) zero after lt = absurd (omega arith)
cleared (i ∷ rest) (suc j) after lt =
    let within : j < prefix_len clears rest = omega arith in
    let bound : j < length rest = omega (arith, prefix_len-le-length clears rest) in
    some_and (λ x. ClearsOrigin (out-Instruction x)) (slice_get rest j) (get_or rest j i) (slice_get-get_or rest j i bound) ((clears_says (out-Instruction (get_or rest j i))).0 (prefix_len_passes clears rest j i within))

keeps-origin : {X : Type 0} (weight : Weight) (l : Instruction-F X) → Buys weight l → clears_origin l ≡ false
keeps-origin weight Instruction-F.ClearOrigin h = absurd h
keeps-origin weight _ h = refl

-- no other instruction can be the purchase
purchase_index-is : (weight : Weight) (program : List Instruction) (index : ℕ) → PaysAt weight program index → purchase_index program ≡ index
purchase_index-is weight [] index pays = absurd pays.buys
purchase_index-is weight (i ∷ rest) zero pays = absurd (omega (arith, pays.behind))
purchase_index-is weight (i ∷ rest) (suc m) pays =
    let buyer = some_of (λ x. Buys weight (out-Instruction x)) (slice_get rest m) pays.buys in
    let within = slice_get_within rest m buyer.0 buyer.1 in
    let before : (k : ℕ) → k < m → clears (get_or rest k i) ≡ true = λ k lt.
    let clear = some_of (λ x. ClearsOrigin (out-Instruction x)) (slice_get rest k) (pays.cleared (suc k) (omega arith) (omega arith)) in
    ap clears (get_or_from_slice_get rest k clear.0 i clear.1) ∙ (clears_says (out-Instruction clear.0)).1 clear.2 in
    let here : m < length rest → clears (get_or rest m i) ≡ false = λ lt. ap clears (get_or_from_slice_get rest m buyer.0 i buyer.1) ∙ keeps-origin weight (out-Instruction buyer.0) buyer.2 in
    let count = prefix_len_is clears rest m i (omega arith) before here in
    omega arith

paid_parts : (weight : Weight) (program : List Instruction) → Decides (is_paid_execution weight program) ((HoldsAt BringsFew program 0 × (purchase_index program ≤ 4)) × HoldsAt (Buys weight) program (purchase_index program))
paid_parts weight program =
    Decides-and _ _ (Decides-and _ _ (at_says brings_few BringsFew brings_says (slice_get program 0)) (le_says (purchase_index program) 4))
    (at_says (buys weight) (Buys weight) (buys_says weight) (slice_get program (purchase_index program)))

pub pays_at : (weight : Weight) (program : List Instruction) → is_paid_execution weight program ≡ true → PaysAt weight program (purchase_index program)
pays_at weight program e =
    let parts = (paid_parts weight program).0 e in
    record { brings = parts.0.0; cleared = cleared program; behind = omega arith; near = parts.0.1; buys = parts.1 }

paid_says : (weight : Weight) (program : List Instruction) → Decides (is_paid_execution weight program) ((index : ℕ) × PaysAt weight program index)
paid_says weight program = (
  λ e. (purchase_index program, pays_at weight program e),
  λ some.
      let at = purchase_index-is weight program some.0 some.1 in
      (paid_parts weight program).1 ((some.1.brings, subst (λ index. index ≤ 4) (sym at) some.1.near), subst (HoldsAt (Buys weight) program) (sym at) some.1.buys),
)

pub allows_says : (origin : Location) (weight credit : Weight) (queries : List OpenQuery) (program : List Instruction) (barrier : Barrier)
    → Decides (allows origin weight credit queries program barrier) (Allows origin weight credit queries program barrier)
allows_says origin weight credit queries program Credit = within_says weight credit
allows_says origin weight credit queries program Paid = paid_says weight program
allows_says origin weight credit queries program (Explicit origins) =
    Decides-and _ _ (listed_says origins origin) (at_says (asks_unpaid weight) (AsksUnpaid weight) (asks_says weight) (slice_get program 0))
allows_says origin weight credit queries program (Unpaid origins) = listed_says origins origin
allows_says origin weight credit queries program Responses = response_says queries origin program

-- ---- what is left of the program

get-set_same : {X : Type 0} (xs : List X) (k : ℕ) (y : X) → k < length xs → slice_get (set xs k y) k ≡ Some y
get-set_same xs k y lt = slice_get-get_or (set xs k y) k y (omega (arith, length-set xs k y)) ∙ ap Some (get_or-set_same xs k y y lt)

get-set_other : {X : Type 0} (xs : List X) (k j : ℕ) (y : X) → j ≢ k → slice_get (set xs k y) j ≡ slice_get xs j
get-set_other [] k j y ne = refl
get-set_other (x ∷ xs) zero zero y ne = absurd (ne refl)
get-set_other (x ∷ xs) zero (suc j) y ne = refl
get-set_other (x ∷ xs) (suc k) zero y ne = refl
get-set_other (x ∷ xs) (suc k) (suc j) y ne = get-set_other xs k j y (λ e. ne (ap suc e))

limited_is : {X : Type 0} (weight : Weight) (l : Instruction-F X) → Buys weight l → IsLimited weight l (with_limit (Limited weight) l)
limited_is weight (Instruction-F.BuyExecution fees limit) h = (fees, limit, refl, refl)
limited_is weight _ h = absurd h

sets_limit : (weight : Weight) (program : List Instruction) (index : ℕ) → HoldsAt (Buys weight) program index → SetsLimit weight index program (with_limit_at (Limited weight) index program)
sets_limit weight program index buys =
    let buyer = some_of (λ x. Buys weight (out-Instruction x)) (slice_get program index) buys in
    let new = limited (Limited weight) buyer.0 in
    let after : with_limit_at (Limited weight) index program ≡ set program index new = ap (λ o. option_map_or (λ i. set program index (limited (Limited weight) i)) o program) buyer.1 in
    let there = ap (λ p. slice_get p index) after ∙ get-set_same program index new (slice_get_within program index buyer.0 buyer.1) in
    let layer = subst (IsLimited weight (out-Instruction buyer.0)) (sym (out-roll-Instruction (with_limit (Limited weight) (out-Instruction buyer.0)))) (limited_is weight (out-Instruction buyer.0) buyer.2) in
    record {
      limit = some_and (λ i. HoldsAt (IsLimited weight (out-Instruction i)) (with_limit_at (Limited weight) index program) index) (slice_get program index) buyer.0 buyer.1
          (some_and (λ j. IsLimited weight (out-Instruction buyer.0) (out-Instruction j)) (slice_get (with_limit_at (Limited weight) index program) index) new there layer);
      others = λ k ne. ap (λ p. slice_get p k) after ∙ get-set_other program index k new ne;
    }

pub leaves : (origin : Location) (weight credit : Weight) (queries : List OpenQuery) (program : List Instruction) (barrier : Barrier)
    → Allows origin weight credit queries program barrier → Leaves weight program barrier (left_by weight program barrier)
leaves origin weight credit queries program Credit h = refl
leaves origin weight credit queries program Paid h =
    let pays = pays_at weight program ((paid_says weight program).1 h) in
    (purchase_index program, pays, sets_limit weight program (purchase_index program) pays.buys)
leaves origin weight credit queries program (Explicit origins) h = refl
leaves origin weight credit queries program (Unpaid origins) h = refl
leaves origin weight credit queries program Responses h = refl

-- ---- the first that allows

module _ {X : Type 0} (p : X → Bool) where
  find-passes : (xs : List X) (x : X) → find p xs ≡ Some x → p x ≡ true
  find-passes [] x is = absurd cc
  find-passes (y ∷ ys) x is = passes_by (p y) refl (find-passes ys x) is where
    passes_by : (b : Bool) → p y ≡ b → (find p ys ≡ Some x → p x ≡ true) → cond b (Some y) (find p ys) ≡ Some x → p x ≡ true
    passes_by true e behind is = ap p (sym (same_Some y x is)) ∙ e
    passes_by false e behind is = behind is

  is_some-find : (xs : List X) → is_some (find p xs) ≡ list_any p xs
  is_some-find [] = refl
  is_some-find (x ∷ xs) = some_by (p x) (is_some-find xs) where
    some_by : (b : Bool) → is_some (find p xs) ≡ list_any p xs → is_some (cond b (Some x) (find p xs)) ≡ (b || list_any p xs)
    some_by true behind = refl
    some_by false behind = behind

  find-first : (front back : List X) (x : X) → All (λ other. p other ≡ false) front → p x ≡ true → find p (front ++ x ∷ back) ≡ Some x
  find-first [] back x none passes = ap (λ b. cond b (Some x) (find p back)) passes
  find-first (y ∷ front) back x none passes =
      ap (λ b. cond b (Some y) (find p (front ++ x ∷ back))) (none 0 y (omega arith)) ∙ find-first front back x (λ k d lt. none (suc k) d (omega arith)) passes

answer-decided : (weight : Weight) (program : List Instruction) (found : Option Barrier) → (decided weight program found).0 ≡ is_some found
answer-decided weight program None = refl
answer-decided weight program (Some barrier) = refl

module _ (origin : Location) (weight credit : Weight) (queries : List OpenQuery) where
  pub admitted : (list : List Barrier) (program : List Instruction) → Decides (admission origin weight credit queries list program).0 (Any (Allows origin weight credit queries program) list)
  admitted list program =
      let answer = answer-decided weight program (find (allows origin weight credit queries program) list) ∙ is_some-find (allows origin weight credit queries program) list in
      let any = any_says (allows origin weight credit queries program) (Allows origin weight credit queries program) (allows_says origin weight credit queries program) list in
      (λ e. any.0 (sym answer ∙ e), λ some. answer ∙ any.1 some)

  pub first : (front back : List Barrier) (barrier : Barrier) (program : List Instruction) → All (λ other. IsFalse (allows origin weight credit queries program other)) front
      → IsTrue (allows origin weight credit queries program barrier) → admission origin weight credit queries (front ++ barrier ∷ back) program ≡ (true, left_by weight program barrier)
  first front back barrier program none passes =
      ap (decided weight program) (find-first (allows origin weight credit queries program) front back barrier none passes)

  changes : (program : List Instruction) (barrier : Barrier) (after : List Instruction) → Leaves weight program barrier after → (after ≡ program) ⊎ ((index : ℕ) × SetsLimit weight index program after)
  changes program Paid after left = inr (left.0, left.2)
  changes program Credit after left = inl left
  changes program (Explicit origins) after left = inl left
  changes program (Unpaid origins) after left = inl left
  changes program Responses after left = inl left

  change_by : (program : List Instruction) (found : Option Barrier) → ((b : Barrier) → found ≡ Some b → allows origin weight credit queries program b ≡ true)
      → ((decided weight program found).1 ≡ program) ⊎ ((index : ℕ) × SetsLimit weight index program (decided weight program found).1)
  change_by program None passes = inl refl
  change_by program (Some b) passes =
      changes program b (left_by weight program b) (leaves origin weight credit queries program b ((allows_says origin weight credit queries program b).0 (passes b refl)))

  pub change : (list : List Barrier) (program : List Instruction)
      → ((admission origin weight credit queries list program).1 ≡ program)
      ⊎ ((index : ℕ) × SetsLimit weight index program (admission origin weight credit queries list program).1)
  change list program = change_by program (find (allows origin weight credit queries program) list) (find-passes (allows origin weight credit queries program) list)
