-- Which programs both versions can say, and what no type keeps of one. Source: the XCM format: an asset id of version 4 is a location,
-- one of version 3 may be 32 bytes; a fungible asset has an amount above 0.
use Rattle.std.specs.Prelude.{Bool, true, false, ◌&&◌, List, [], ◌∷◌, map, Option, Some, None, IsFalse, ⊤}
use Rattle.std.specs.List.{list_all}
use Rattle.asset_lists.specs.declared.units.AssetId.{AssetId}
use Rattle.asset_lists.specs.declared.units.AssetId.TheVariants.{Concrete, Abstract}
use Rattle.asset_lists.specs.declared.units.Asset.{Asset}
use Rattle.asset_lists.specs.declared.filters.Wild.{Wild}
use Rattle.asset_lists.specs.declared.filters.Wild.TheVariants.{AllOf, AllOfCounted}
use Rattle.asset_lists.specs.declared.filters.Filter.{Filter}
use Rattle.asset_lists.specs.declared.filters.Filter.TheVariants as filters
use Rattle.asset_lists.specs.Units.{is_zero}
use Rattle.operands.specs.declared.query.Response.{Response}
use Rattle.operands.specs.declared.query.Response.TheVariants as responses
use Rattle.xcm_program.specs.declared.instruction.Instruction.{Instruction, fold-Instruction}
use Rattle.xcm_program.specs.declared.instruction.Instruction.TheOpen.{Instruction-F}
use Rattle.xcm_program.specs.Measure.{inner}
use Rattle.xcm_program.specs.Everywhere.{Everywhere}

-- ---- no asset id is bytes

abbrev pub is_concrete_id : AssetId → Bool
is_concrete_id (Concrete place) = true
is_concrete_id (Abstract bytes) = false

abbrev pub have_concrete_ids : List Asset → Bool
have_concrete_ids list = list_all (λ (a : Asset). is_concrete_id a.id) list

abbrev pub wild_is_concrete : Wild → Bool
wild_is_concrete (AllOf id fun) = is_concrete_id id
wild_is_concrete (AllOfCounted id fun count) = is_concrete_id id
wild_is_concrete _ = true

abbrev pub filter_is_concrete : Filter → Bool
filter_is_concrete (filters.Definite list) = have_concrete_ids list
filter_is_concrete (filters.Wild which) = wild_is_concrete which

abbrev pub response_is_concrete : Response → Bool
response_is_concrete (responses.Assets list) = have_concrete_ids list
response_is_concrete _ = true

-- in an instruction, the program inside left out
abbrev pub names_concrete_ids : {X : Type 0} → Instruction-F X → Bool
names_concrete_ids (Instruction-F.WithdrawAsset list) = have_concrete_ids list
names_concrete_ids (Instruction-F.ReserveAssetDeposited list) = have_concrete_ids list
names_concrete_ids (Instruction-F.ReceiveTeleportedAsset list) = have_concrete_ids list
names_concrete_ids (Instruction-F.QueryResponse _ answer _ _) = response_is_concrete answer
names_concrete_ids (Instruction-F.TransferAsset list _) = have_concrete_ids list
names_concrete_ids (Instruction-F.TransferReserveAsset list _ _) = have_concrete_ids list
names_concrete_ids (Instruction-F.DepositAsset taken _) = filter_is_concrete taken
names_concrete_ids (Instruction-F.DepositReserveAsset taken _ _) = filter_is_concrete taken
names_concrete_ids (Instruction-F.ExchangeAsset taken list _) = filter_is_concrete taken && have_concrete_ids list
names_concrete_ids (Instruction-F.InitiateReserveWithdraw taken _ _) = filter_is_concrete taken
names_concrete_ids (Instruction-F.InitiateTeleport taken _ _) = filter_is_concrete taken
names_concrete_ids (Instruction-F.ReportHolding _ taken) = filter_is_concrete taken
names_concrete_ids (Instruction-F.BuyExecution fees _) = is_concrete_id fees.id
names_concrete_ids (Instruction-F.ClaimAsset list _) = have_concrete_ids list
names_concrete_ids (Instruction-F.BurnAsset list) = have_concrete_ids list
names_concrete_ids (Instruction-F.ExpectAsset list) = have_concrete_ids list
names_concrete_ids (Instruction-F.LockAsset goods _) = is_concrete_id goods.id
names_concrete_ids (Instruction-F.UnlockAsset goods _) = is_concrete_id goods.id
names_concrete_ids (Instruction-F.NoteUnlockable goods _) = is_concrete_id goods.id
names_concrete_ids (Instruction-F.RequestUnlock goods _) = is_concrete_id goods.id
names_concrete_ids _ = true

abbrev pub all_true : List Bool → Bool
all_true [] = true
all_true (b ∷ bs) = b && all_true bs

abbrev pub all_true_inside : Option (List Bool) → Bool
all_true_inside None = true
all_true_inside (Some bs) = all_true bs

abbrev pub is_convertible_one : Instruction → Bool
is_convertible_one = fold-Instruction Bool (λ l. names_concrete_ids l && all_true_inside (inner l))

-- no id is bytes, at any depth
abbrev pub is_convertible : List Instruction → Bool
is_convertible program = all_true (map is_convertible_one program)

-- ---- what no type keeps of a program that can be written

-- no amount is 0
abbrev pub HasAmount : (X : Type 0) → Instruction-F X → Type 0
HasAmount X (Instruction-F.BuyExecution fees _) = IsFalse (is_zero fees)
HasAmount X (Instruction-F.LockAsset goods _) = IsFalse (is_zero goods)
HasAmount X (Instruction-F.UnlockAsset goods _) = IsFalse (is_zero goods)
HasAmount X (Instruction-F.NoteUnlockable goods _) = IsFalse (is_zero goods)
HasAmount X (Instruction-F.RequestUnlock goods _) = IsFalse (is_zero goods)
HasAmount X _ = ⊤

-- no amount is 0, at any depth
abbrev pub HasAmounts : Instruction → Type 0
HasAmounts = Everywhere HasAmount
