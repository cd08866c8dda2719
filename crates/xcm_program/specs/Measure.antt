-- How large programs are, by what is inside one layer of an instruction. This project's own rule; "deep" counts through all
-- nested programs.
use Rattle.std.specs.Prelude.{ℕ, ◌+◌, max, List, [], ◌∷◌, map, Option, Some, None}
use Rattle.xcm_program.specs.declared.instruction.Instruction.{Instruction, out-Instruction, fold-Instruction}
use Rattle.xcm_program.specs.declared.instruction.Instruction.TheOpen.{Instruction-F}

-- the program inside, which is the last field of each instruction that has one
abbrev pub inner : {X : Type 0} → Instruction-F X → Option (List X)
inner (Instruction-F.TransferReserveAsset list place xcm) = Some xcm
inner (Instruction-F.DepositReserveAsset taken place xcm) = Some xcm
inner (Instruction-F.InitiateReserveWithdraw taken place xcm) = Some xcm
inner (Instruction-F.InitiateTeleport taken place xcm) = Some xcm
inner (Instruction-F.SetErrorHandler xcm) = Some xcm
inner (Instruction-F.SetAppendix xcm) = Some xcm
inner (Instruction-F.ExportMessage net path xcm) = Some xcm
inner _ = None

-- the same with another program inside
abbrev pub with_inner : {X : Type 0} → Instruction-F X → List X → Instruction-F X
with_inner (Instruction-F.TransferReserveAsset list place _) program = Instruction-F.TransferReserveAsset list place program
with_inner (Instruction-F.DepositReserveAsset taken place _) program = Instruction-F.DepositReserveAsset taken place program
with_inner (Instruction-F.InitiateReserveWithdraw taken place _) program = Instruction-F.InitiateReserveWithdraw taken place program
with_inner (Instruction-F.InitiateTeleport taken place _) program = Instruction-F.InitiateTeleport taken place program
with_inner (Instruction-F.SetErrorHandler _) program = Instruction-F.SetErrorHandler program
with_inner (Instruction-F.SetAppendix _) program = Instruction-F.SetAppendix program
with_inner (Instruction-F.ExportMessage net path _) program = Instruction-F.ExportMessage net path program
with_inner layer program = layer

abbrev pub inner_of : Instruction → Option (List Instruction)
inner_of i = inner (out-Instruction i)

-- ---- sums and greatest of what is inside

abbrev pub sum_of_list : List ℕ → ℕ
sum_of_list [] = 0
sum_of_list (n ∷ ns) = n + sum_of_list ns

abbrev pub sum_inside : Option (List ℕ) → ℕ
sum_inside None = 0
sum_inside (Some ns) = sum_of_list ns

abbrev pub greatest : List ℕ → ℕ
greatest [] = 0
greatest (n ∷ ns) = max n (greatest ns)

abbrev pub greatest_inside : Option (List ℕ) → ℕ
greatest_inside None = 0
greatest_inside (Some ns) = 1 + greatest ns

-- ---- instructions, levels, sent messages

-- an instruction, with those of the program inside
abbrev pub deep_count_one : Instruction → ℕ
deep_count_one = fold-Instruction ℕ (λ l. 1 + sum_inside (inner l))

-- the deep count
abbrev pub deep_count : List Instruction → ℕ
deep_count program = sum_of_list (map deep_count_one program)

-- the depth of the program inside
abbrev pub depth_one : Instruction → ℕ
depth_one = fold-Instruction ℕ (λ l. greatest_inside (inner l))

abbrev pub depth : List Instruction → ℕ
depth program = 1 + greatest (map depth_one program)

-- 1 for the instructions that send a message where they succeed
abbrev pub sending : {X : Type 0} → Instruction-F X → ℕ
sending (Instruction-F.TransferReserveAsset _ _ _) = 1
sending (Instruction-F.ReportError _) = 1
sending (Instruction-F.DepositReserveAsset _ _ _) = 1
sending (Instruction-F.InitiateReserveWithdraw _ _ _) = 1
sending (Instruction-F.InitiateTeleport _ _ _) = 1
sending (Instruction-F.ReportHolding _ _) = 1
sending (Instruction-F.QueryPallet _ _) = 1
sending (Instruction-F.ReportTransactStatus _) = 1
sending _ = 0

abbrev pub sends_one : Instruction → ℕ
sends_one = fold-Instruction ℕ (λ l. sending l + sum_inside (inner l))

-- the deep count of sending instructions
abbrev pub sends : List Instruction → ℕ
sends program = sum_of_list (map sends_one program)
