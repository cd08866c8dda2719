-- What the tests of `Barriers` say, in words.
use Rattle.std.specs.Prelude.{◌≡◌, ◌≢◌, ◌<◌, ◌≤◌, ℕ, ⊤, List, length, slice_get, IsSomeAnd, Any, Contains}
use Rattle.locations.specs.declared.relative.Location.{Location}
use Rattle.asset_lists.specs.declared.units.Asset.{Asset}
use Rattle.operands.specs.declared.query.OpenQuery.{OpenQuery}
use Rattle.operands.specs.declared.weight.Weight.{Weight}
use Rattle.operands.specs.declared.weight.WeightLimit.{WeightLimit}
use Rattle.operands.specs.declared.weight.WeightLimit.TheVariants.{Unlimited, Limited}
use Rattle.xcm_program.specs.declared.instruction.Instruction.{Instruction, out-Instruction}
use Rattle.xcm_program.specs.declared.instruction.Instruction.TheOpen.{Instruction-F}
use Rattle.barriers.specs.declared.barrier.Barrier.{Barrier}
use Rattle.barriers.specs.declared.barrier.Barrier.TheVariants.{Credit, Paid, Explicit, Unpaid, Responses}

abbrev pub IsWeightWithin : Weight → Weight → Type 0
IsWeightWithin weight most = (weight.ref_time ≤ most.ref_time) × (weight.proof_size ≤ most.proof_size)

abbrev pub IsWithinLimit : Weight → WeightLimit → Type 0
IsWithinLimit weight Unlimited = ⊤
IsWithinLimit weight (Limited most) = IsWeightWithin weight most

-- at the index is an instruction of which this holds
abbrev pub HoldsAt : (Instruction-F Instruction → Type 0) → List Instruction → ℕ → Type 0
HoldsAt P program index = IsSomeAnd (slice_get program index) (λ i. P (out-Instruction i))

abbrev pub BringsFew : {X : Type 0} → Instruction-F X → Type 0
BringsFew (Instruction-F.WithdrawAsset list) = length list ≤ 2
BringsFew (Instruction-F.ReserveAssetDeposited list) = length list ≤ 2
BringsFew (Instruction-F.ReceiveTeleportedAsset list) = length list ≤ 2
BringsFew (Instruction-F.ClaimAsset list _) = length list ≤ 2
BringsFew _ = ⊥

abbrev pub ClearsOrigin : {X : Type 0} → Instruction-F X → Type 0
ClearsOrigin Instruction-F.ClearOrigin = ⊤
ClearsOrigin _ = ⊥

abbrev pub Buys : {X : Type 0} → Weight → Instruction-F X → Type 0
Buys weight (Instruction-F.BuyExecution _ limit) = IsWithinLimit weight limit
Buys weight _ = ⊥

-- the program pays for its weight by the BuyExecution at this index
pub record PaysAt (weight : Weight) (program : List Instruction) (index : ℕ) : Type 0 where
  pub brings : HoldsAt BringsFew program 0
  pub cleared : (k : ℕ) → 0 < k → k < index → HoldsAt ClearsOrigin program k
  pub behind : 0 < index
  pub near : index ≤ 4
  pub buys : HoldsAt (Buys weight) program index

abbrev pub AsksUnpaid : {X : Type 0} → Weight → Instruction-F X → Type 0
AsksUnpaid weight (Instruction-F.UnpaidExecution limit _) = IsWithinLimit weight limit
AsksUnpaid weight _ = ⊥

abbrev pub IsQuery : ℕ → Location → OpenQuery → Type 0
IsQuery id origin query = (query.id ≡ id) × (query.from ≡ origin)

abbrev pub Responds : {X : Type 0} → List OpenQuery → Location → Instruction-F X → Type 0
Responds queries origin (Instruction-F.QueryResponse id _ _ _) = Any (IsQuery id origin) queries
Responds queries origin _ = ⊥

-- the barrier allows the program
abbrev pub Allows : Location → Weight → Weight → List OpenQuery → List Instruction → Barrier → Type 0
Allows origin weight credit queries program Credit = IsWeightWithin weight credit
Allows origin weight credit queries program Paid = (index : ℕ) × PaysAt weight program index
Allows origin weight credit queries program (Explicit origins) = Contains origins origin × HoldsAt (AsksUnpaid weight) program 0
Allows origin weight credit queries program (Unpaid origins) = Contains origins origin
Allows origin weight credit queries program Responses = (length program ≡ 1) × HoldsAt (Responds queries origin) program 0

-- a BuyExecution, and the same with the weight as its limit
abbrev pub IsLimited : {X : Type 0} → Weight → Instruction-F X → Instruction-F X → Type 0
IsLimited {X} weight before after =
    (fees : Asset) × (limit : WeightLimit) × (before ≡ Instruction-F.BuyExecution fees limit) × (after ≡ Instruction-F.BuyExecution fees (Limited weight))

-- the instruction at the index is a BuyExecution whose limit was set to the weight; all else is as before
pub record SetsLimit (weight : Weight) (index : ℕ) (before after : List Instruction) : Type 0 where
  pub limit : HoldsAt (λ old. HoldsAt (λ new. IsLimited weight old new) after index) before index
  pub others : (k : ℕ) → k ≢ index → slice_get after k ≡ slice_get before k

-- what a barrier that allows does to the program
abbrev pub Leaves : Weight → List Instruction → Barrier → List Instruction → Type 0
Leaves weight before Paid after = (index : ℕ) × PaysAt weight before index × SetsLimit weight index before after
Leaves weight before _ after = after ≡ before
