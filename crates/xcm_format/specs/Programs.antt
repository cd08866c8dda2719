-- The one spelling of each program in each version, and which programs have one. Source: the XCM format, versions 3 and 4, in the SCALE
-- codec: an instruction is its index and then its fields in order, a program is how many instructions, and these. This project's own
-- profile of the two versions: both have the same 48 instructions, with the fields and their orders below; they differ in the asset ids
-- alone, and version 4 has none that are bytes.
use Rattle.std.specs.Prelude.{◌≡◌, ℕ, ◌<◌, ◌^◌, List, [], ◌∷◌, ◌++◌, length, map, Option, Some, None, IfSome, ⊤}
use Rattle.std.specs.List.{AllByRecursion}
use Rattle.scale_codec.specs.Spelling.{compact, flag, optional, joined}
use Rattle.location_wire.specs.Spelling.{network, FitsNetwork, junction, FitsJunction, junctions, FitsJunctions, location, FitsLocation}
use Rattle.operands.specs.declared.version.Version.{Version}
use Rattle.asset_wire.specs.Spelling.{asset, FitsAsset, assets, FitsAssets, filter, FitsFilter}
use Rattle.xcm_format.specs.Parts.{weight, FitsWeight, weight_limit, FitsLimit, origin_kind, failure, FitsFailure, bytes, FitsBytes, maybe_error, FitsMaybeError, query_info, FitsInfo, response, FitsResponse}
use Rattle.xcm_program.specs.declared.instruction.Instruction.{Instruction, fold-Instruction}
use Rattle.xcm_program.specs.declared.instruction.Instruction.TheOpen.{Instruction-F}
use Rattle.xcm_program.specs.Measure.{inner}
use Rattle.xcm_program.specs.Everywhere.{Everywhere}

-- ---- an instruction without the program inside, which comes last

-- the index, and the fields in order
unfoldable pub head : {X : Type 0} → Version → Instruction-F X → List ℕ
head v (Instruction-F.WithdrawAsset list) = 0 ∷ assets v list
head v (Instruction-F.ReserveAssetDeposited list) = 1 ∷ assets v list
head v (Instruction-F.ReceiveTeleportedAsset list) = 2 ∷ assets v list
head v (Instruction-F.QueryResponse id answer w asker) = 3 ∷ (compact id ++ response v answer ++ weight w ++ optional location asker)
head v (Instruction-F.TransferAsset list place) = 4 ∷ (assets v list ++ location place)
head v (Instruction-F.TransferReserveAsset list place _) = 5 ∷ (assets v list ++ location place)
head v (Instruction-F.Transact kind w call) = 6 ∷ (origin_kind kind ++ weight w ++ bytes call)
head v (Instruction-F.HrmpNewChannelOpenRequest sender size capacity) = 7 ∷ (compact sender ++ compact size ++ compact capacity)
head v (Instruction-F.HrmpChannelAccepted recipient) = 8 ∷ compact recipient
head v (Instruction-F.HrmpChannelClosing initiator sender recipient) = 9 ∷ (compact initiator ++ compact sender ++ compact recipient)
head v Instruction-F.ClearOrigin = 10 ∷ []
head v (Instruction-F.DescendOrigin path) = 11 ∷ junctions path
head v (Instruction-F.ReportError query) = 12 ∷ query_info query
head v (Instruction-F.DepositAsset taken place) = 13 ∷ (filter v taken ++ location place)
head v (Instruction-F.DepositReserveAsset taken place _) = 14 ∷ (filter v taken ++ location place)
head v (Instruction-F.ExchangeAsset taken list maximal) = 15 ∷ (filter v taken ++ assets v list ++ flag maximal)
head v (Instruction-F.InitiateReserveWithdraw taken place _) = 16 ∷ (filter v taken ++ location place)
head v (Instruction-F.InitiateTeleport taken place _) = 17 ∷ (filter v taken ++ location place)
head v (Instruction-F.ReportHolding query taken) = 18 ∷ (query_info query ++ filter v taken)
head v (Instruction-F.BuyExecution fees most) = 19 ∷ (asset v fees ++ weight_limit most)
head v Instruction-F.RefundSurplus = 20 ∷ []
head v (Instruction-F.SetErrorHandler _) = 21 ∷ []
head v (Instruction-F.SetAppendix _) = 22 ∷ []
head v Instruction-F.ClearError = 23 ∷ []
head v (Instruction-F.ClaimAsset list place) = 24 ∷ (assets v list ++ location place)
head v (Instruction-F.Trap code) = 25 ∷ compact code
head v (Instruction-F.SubscribeVersion id w) = 26 ∷ (compact id ++ weight w)
head v Instruction-F.UnsubscribeVersion = 27 ∷ []
head v (Instruction-F.BurnAsset list) = 28 ∷ assets v list
head v (Instruction-F.ExpectAsset list) = 29 ∷ assets v list
head v (Instruction-F.ExpectOrigin place) = 30 ∷ optional location place
head v (Instruction-F.ExpectError failed) = 31 ∷ optional failure failed
head v (Instruction-F.ExpectTransactStatus status) = 32 ∷ maybe_error status
head v (Instruction-F.QueryPallet text query) = 33 ∷ (bytes text ++ query_info query)
head v (Instruction-F.ExpectPallet place text module_text major minor) = 34 ∷ (compact place ++ bytes text ++ bytes module_text ++ compact major ++ compact minor)
head v (Instruction-F.ReportTransactStatus query) = 35 ∷ query_info query
head v Instruction-F.ClearTransactStatus = 36 ∷ []
head v (Instruction-F.UniversalOrigin step) = 37 ∷ junction step
head v (Instruction-F.ExportMessage net path _) = 38 ∷ (network net ++ junctions path)
head v (Instruction-F.LockAsset goods place) = 39 ∷ (asset v goods ++ location place)
head v (Instruction-F.UnlockAsset goods place) = 40 ∷ (asset v goods ++ location place)
head v (Instruction-F.NoteUnlockable goods place) = 41 ∷ (asset v goods ++ location place)
head v (Instruction-F.RequestUnlock goods place) = 42 ∷ (asset v goods ++ location place)
head v (Instruction-F.SetFeesMode jit_withdraw) = 43 ∷ flag jit_withdraw
head v (Instruction-F.SetTopic topic) = 44 ∷ topic
head v Instruction-F.ClearTopic = 45 ∷ []
head v (Instruction-F.AliasOrigin place) = 46 ∷ location place
head v (Instruction-F.UnpaidExecution most place) = 47 ∷ (weight_limit most ++ optional location place)

-- the fields are in their ranges, and the version can say them
abbrev pub FitsHead : {X : Type 0} → Version → Instruction-F X → Type 0
FitsHead v (Instruction-F.WithdrawAsset list) = FitsAssets v list
FitsHead v (Instruction-F.ReserveAssetDeposited list) = FitsAssets v list
FitsHead v (Instruction-F.ReceiveTeleportedAsset list) = FitsAssets v list
FitsHead v (Instruction-F.QueryResponse id answer w asker) = (id < 2 ^ 64) × FitsResponse v answer × FitsWeight w × IfSome asker FitsLocation
FitsHead v (Instruction-F.TransferAsset list place) = FitsAssets v list × FitsLocation place
FitsHead v (Instruction-F.TransferReserveAsset list place _) = FitsAssets v list × FitsLocation place
FitsHead v (Instruction-F.Transact _ w call) = FitsWeight w × FitsBytes 4294967295 call
FitsHead v (Instruction-F.HrmpNewChannelOpenRequest sender size capacity) = (sender < 2 ^ 32) × (size < 2 ^ 32) × (capacity < 2 ^ 32)
FitsHead v (Instruction-F.HrmpChannelAccepted recipient) = recipient < 2 ^ 32
FitsHead v (Instruction-F.HrmpChannelClosing initiator sender recipient) = (initiator < 2 ^ 32) × (sender < 2 ^ 32) × (recipient < 2 ^ 32)
FitsHead v (Instruction-F.DescendOrigin path) = FitsJunctions path
FitsHead v (Instruction-F.ReportError query) = FitsInfo query
FitsHead v (Instruction-F.DepositAsset taken place) = FitsFilter v taken × FitsLocation place
FitsHead v (Instruction-F.DepositReserveAsset taken place _) = FitsFilter v taken × FitsLocation place
FitsHead v (Instruction-F.ExchangeAsset taken list _) = FitsFilter v taken × FitsAssets v list
FitsHead v (Instruction-F.InitiateReserveWithdraw taken place _) = FitsFilter v taken × FitsLocation place
FitsHead v (Instruction-F.InitiateTeleport taken place _) = FitsFilter v taken × FitsLocation place
FitsHead v (Instruction-F.ReportHolding query taken) = FitsInfo query × FitsFilter v taken
FitsHead v (Instruction-F.BuyExecution fees most) = FitsAsset v fees × FitsLimit most
FitsHead v (Instruction-F.ClaimAsset list place) = FitsAssets v list × FitsLocation place
FitsHead v (Instruction-F.Trap code) = code < 2 ^ 64
FitsHead v (Instruction-F.SubscribeVersion id w) = (id < 2 ^ 64) × FitsWeight w
FitsHead v (Instruction-F.BurnAsset list) = FitsAssets v list
FitsHead v (Instruction-F.ExpectAsset list) = FitsAssets v list
FitsHead v (Instruction-F.ExpectOrigin place) = IfSome place FitsLocation
FitsHead v (Instruction-F.ExpectError failed) = IfSome failed FitsFailure
FitsHead v (Instruction-F.ExpectTransactStatus status) = FitsMaybeError status
FitsHead v (Instruction-F.QueryPallet text query) = FitsBytes 4294967295 text × FitsInfo query
FitsHead v (Instruction-F.ExpectPallet place text module_text major minor) = (place < 2 ^ 32) × FitsBytes 4294967295 text × FitsBytes 4294967295 module_text × (major < 2 ^ 32) × (minor < 2 ^ 32)
FitsHead v (Instruction-F.ReportTransactStatus query) = FitsInfo query
FitsHead v (Instruction-F.UniversalOrigin step) = FitsJunction step
FitsHead v (Instruction-F.ExportMessage net path _) = FitsNetwork net × FitsJunctions path
FitsHead v (Instruction-F.LockAsset goods place) = FitsAsset v goods × FitsLocation place
FitsHead v (Instruction-F.UnlockAsset goods place) = FitsAsset v goods × FitsLocation place
FitsHead v (Instruction-F.NoteUnlockable goods place) = FitsAsset v goods × FitsLocation place
FitsHead v (Instruction-F.RequestUnlock goods place) = FitsAsset v goods × FitsLocation place
FitsHead v (Instruction-F.SetTopic topic) = length topic ≡ 32
FitsHead v (Instruction-F.AliasOrigin place) = FitsLocation place
FitsHead v (Instruction-F.UnpaidExecution most place) = FitsLimit most × IfSome place FitsLocation
FitsHead _ _ = ⊤

-- ---- a program: how many instructions, and these

abbrev pub counted_texts : List (List ℕ) → List ℕ
counted_texts texts = compact (length texts) ++ joined texts

-- what follows the head
abbrev pub behind : Option (List (List ℕ)) → List ℕ
behind None = []
behind (Some texts) = counted_texts texts

unfoldable pub instruction_spelling : Version → Instruction → List ℕ
instruction_spelling v = fold-Instruction (List ℕ) (λ l. head v l ++ behind (inner l))

-- the one spelling
abbrev pub program_spelling : Version → List Instruction → List ℕ
program_spelling v program = counted_texts (map (instruction_spelling v) program)

abbrev pub IsCountable : {X : Type 0} → Option (List X) → Type 0
IsCountable None = ⊤
IsCountable (Some program) = length program < 2 ^ 32

abbrev pub FitsLayer : Version → (X : Type 0) → Instruction-F X → Type 0
FitsLayer v X l = FitsHead v l × IsCountable (inner l)

abbrev pub FitsInstruction : Version → Instruction → Type 0
FitsInstruction v = Everywhere (FitsLayer v)

-- what has a spelling
abbrev pub FitsProgram : Version → List Instruction → Type 0
FitsProgram v program = (length program < 2 ^ 32) × AllByRecursion (FitsInstruction v) program
