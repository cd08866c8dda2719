-- The messages of the steps, byte by byte; a number in brackets is how the word before it is spelled. Source: the XCM format, version 4,
-- in the SCALE codec.
use Rattle.std.specs.Prelude.{ℕ, List, [], ◌∷◌, ◌++◌, replicate}
use Rattle.scale_codec.specs.Spelling.{compact}

-- an asset with the id of so many parents and no junctions (0), fungible (0), of this amount
abbrev pub fungible_bytes : ℕ → ℕ → List ℕ
fungible_bytes parents amount = (parents ∷ 0 ∷ 0 ∷ []) ++ compact amount

-- BuyExecution (19) of 100 of that asset, Unlimited (0)
abbrev pub purchase_bytes : ℕ → List ℕ
purchase_bytes parents = (19 ∷ []) ++ (fungible_bytes parents 100 ++ (0 ∷ []))

-- DepositAsset (13) of Wild (1), AllCounted (2), 1 (4), to the location of no parents (0) and one junction (1): AccountId32 (1) without a
-- network (0), its 32 bytes all the same
abbrev pub deposit_bytes : ℕ → List ℕ
deposit_bytes who = (13 ∷ 1 ∷ 2 ∷ 4 ∷ 0 ∷ 1 ∷ 1 ∷ 0 ∷ []) ++ replicate 32 who

-- a program of these two instructions (8)
abbrev pub paid_deposit : ℕ → ℕ → List ℕ
paid_deposit parents who = (8 ∷ []) ++ (purchase_bytes parents ++ deposit_bytes who)

-- version 4 (4), one instruction (4): TransferReserveAsset (5) of a list of one asset (4), `0/Here`, to the location of no parents (0) and one
-- junction (1): Parachain (0) of this number; there it pays as `1/Here`, and is deposited to the account of twos
abbrev pub send_message : ℕ → ℕ → List ℕ
send_message value para =
    (4 ∷ 4 ∷ 5 ∷ 4 ∷ []) ++ (fungible_bytes 0 value ++ ((0 ∷ 1 ∷ 0 ∷ []) ++ (compact para ++ paid_deposit 1 2)))

-- version 4 (4), two instructions (8): WithdrawAsset (0) of a list of one asset (4), `1/Here`; InitiateReserveWithdraw (16) of Wild (1), All (0),
-- to the location of one parent (1) and no junctions (0); there it pays as `0/Here`, and is deposited to the account of threes
abbrev pub return_message : ℕ → List ℕ
return_message value =
    (4 ∷ 8 ∷ 0 ∷ 4 ∷ []) ++ (fungible_bytes 1 value ++ ((16 ∷ 1 ∷ 0 ∷ 1 ∷ 0 ∷ []) ++ paid_deposit 0 3))
