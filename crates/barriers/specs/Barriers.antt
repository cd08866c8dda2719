-- Which programs a chain's barriers let in. Sources: xcm-executor's documentation of barriers, and xcm-builder's of TakeWeightCredit,
-- AllowTopLevelPaidExecutionFrom (with its two assets and five instructions), AllowExplicitUnpaidExecutionFrom, AllowUnpaidExecutionFrom
-- and AllowKnownQueryResponses. That the credit is compared and not used up, and that a response's querier plays no part, are this
-- project's own rules.
use Rattle.std.specs.Prelude.{ℕ, ◌+◌, nat_le, ◌==◌, Bool, true, false, ◌&&◌, List, [], ◌∷◌, length, drop, find, slice_get, slice_set, Option, Some, None}
use Rattle.std.specs.List.{list_any, prefix_len}
use Rattle.std.specs.Option.{option_map_or}
use Rattle.std.specs.Ordering.{eq_by_cmp}
use Rattle.locations.specs.declared.relative.Location.{Location}
use Rattle.locations.specs.Order.{location_cmp}
use Rattle.operands.specs.declared.query.OpenQuery.{OpenQuery}
use Rattle.operands.specs.Weights.{is_within}
use Rattle.operands.specs.declared.weight.Weight.{Weight}
use Rattle.operands.specs.declared.weight.WeightLimit.{WeightLimit}
use Rattle.operands.specs.declared.weight.WeightLimit.TheVariants.{Unlimited, Limited}
use Rattle.xcm_program.specs.declared.instruction.Instruction.{Instruction, out-Instruction, roll-Instruction}
use Rattle.xcm_program.specs.declared.instruction.Instruction.TheOpen.{Instruction-F}
use Rattle.barriers.specs.declared.barrier.Barrier.{Barrier}
use Rattle.barriers.specs.declared.barrier.Barrier.TheVariants.{Credit, Paid, Explicit, Unpaid, Responses}

abbrev pub is_within_limit : Weight → WeightLimit → Bool
is_within_limit weight Unlimited = true
is_within_limit weight (Limited most) = is_within weight most

abbrev pub is_listed_origin : List Location → Location → Bool
is_listed_origin origins origin = list_any (λ listed. eq_by_cmp location_cmp listed origin) origins

-- there is an instruction at the index, and it passes
abbrev pub holds_at : (Instruction-F Instruction → Bool) → List Instruction → ℕ → Bool
holds_at test program index = option_map_or (λ i. test (out-Instruction i)) (slice_get program index) false

-- ---- paid: the program brings assets, and buys its weight

-- brings assets into the holding register, at most two
abbrev pub brings_few : {X : Type 0} → Instruction-F X → Bool
brings_few (Instruction-F.WithdrawAsset list) = nat_le (length list) 2
brings_few (Instruction-F.ReserveAssetDeposited list) = nat_le (length list) 2
brings_few (Instruction-F.ReceiveTeleportedAsset list) = nat_le (length list) 2
brings_few (Instruction-F.ClaimAsset list _) = nat_le (length list) 2
brings_few _ = false

abbrev pub clears_origin : {X : Type 0} → Instruction-F X → Bool
clears_origin Instruction-F.ClearOrigin = true
clears_origin _ = false

-- buys as much weight, or more
abbrev pub buys : {X : Type 0} → Weight → Instruction-F X → Bool
buys weight (Instruction-F.BuyExecution _ limit) = is_within_limit weight limit
buys weight _ = false

-- how many ClearOrigins come first
abbrev pub leading_clears : List Instruction → ℕ
leading_clears program = prefix_len (λ i. clears_origin (out-Instruction i)) program

-- where the purchase has to be: right after the ClearOrigins that follow instruction 0, of which there may be none
abbrev pub purchase_index : List Instruction → ℕ
purchase_index program = 1 + leading_clears (drop 1 program)

abbrev pub is_paid_execution : Weight → List Instruction → Bool
is_paid_execution weight program =
    holds_at brings_few program 0 && nat_le (purchase_index program) 4 && holds_at (buys weight) program (purchase_index program)

-- a BuyExecution with this limit instead of its own
abbrev pub with_limit : {X : Type 0} → WeightLimit → Instruction-F X → Instruction-F X
with_limit limit (Instruction-F.BuyExecution fees _) = Instruction-F.BuyExecution fees limit
with_limit limit layer = layer

abbrev pub limited : WeightLimit → Instruction → Instruction
limited limit i = roll-Instruction (with_limit limit (out-Instruction i))

-- the same of the instruction at an index, where there is one
abbrev pub with_limit_at : WeightLimit → ℕ → List Instruction → List Instruction
with_limit_at limit index program = option_map_or (λ i. slice_set program index (limited limit i)) (slice_get program index) program

-- the purchase buys this weight and no more
abbrev pub with_exact_purchase : Weight → List Instruction → List Instruction
with_exact_purchase weight program = with_limit_at (Limited weight) (purchase_index program) program

-- ---- explicit: the program asks to be executed without paying

abbrev pub asks_unpaid : {X : Type 0} → Weight → Instruction-F X → Bool
asks_unpaid weight (Instruction-F.UnpaidExecution limit _) = is_within_limit weight limit
asks_unpaid weight _ = false

-- ---- responses: the program is one response to an open query, from where it was asked

abbrev pub is_query_of_origin : ℕ → Location → OpenQuery → Bool
is_query_of_origin id origin query = query.id == id && eq_by_cmp location_cmp query.from origin

abbrev pub is_open : ℕ → Location → List OpenQuery → Bool
is_open id origin queries = list_any (is_query_of_origin id origin) queries

-- the querier that the response names plays no part
abbrev pub responds : {X : Type 0} → List OpenQuery → Location → Instruction-F X → Bool
responds queries origin (Instruction-F.QueryResponse id _ _ _) = is_open id origin queries
responds queries origin _ = false

abbrev pub is_response : List OpenQuery → Location → List Instruction → Bool
is_response queries origin (i ∷ []) = responds queries origin (out-Instruction i)
is_response queries origin _ = false

-- ---- the barriers of a chain

module _ (origin : Location) (weight credit : Weight) (queries : List OpenQuery) where
  -- whether a barrier allows a program of this weight from this origin
  abbrev pub allows : List Instruction → Barrier → Bool
  allows program Credit = is_within weight credit
  allows program Paid = is_paid_execution weight program
  allows program (Explicit origins) = is_listed_origin origins origin && holds_at (asks_unpaid weight) program 0
  allows program (Unpaid origins) = is_listed_origin origins origin
  allows program Responses = is_response queries origin program

-- what a barrier that allows a program leaves of it
abbrev pub left_by : Weight → List Instruction → Barrier → List Instruction
left_by weight program Paid = with_exact_purchase weight program
left_by weight program _ = program

-- the answer by the barrier that decides, where there is one, and the program after it
abbrev pub decided : Weight → List Instruction → Option Barrier → Bool × List Instruction
decided weight program None = (false, program)
decided weight program (Some barrier) = (true, left_by weight program barrier)

-- the first barrier of the chain that allows decides
abbrev pub admission : Location → Weight → Weight → List OpenQuery → List Barrier → List Instruction → Bool × List Instruction
admission origin weight credit queries list program = decided weight program (find (allows origin weight credit queries program) list)
