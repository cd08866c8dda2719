-- Lines and steps in words: the one cut into lines, and the texts of steps. Source: this project's own rule.
use Rattle.std.specs.Prelude.{◌≡◌, ◌<◌, ◌^◌, ◌⊎◌, ℕ, List, [], ◌∷◌, ◌++◌, length, codes}
use Rattle.hex.specs.Hex.{encode_lower}
use Rattle.input_lines.specs.Lines.{HasNoFeed}
use Rattle.chain_ids.specs.Texts.{chain_text}
use Rattle.chain_ids.specs.declared.chain.ChainId.{ChainId}
use Rattle.chain_ids.specs.declared.chain.ChainId.TheVariants.{Relay, Para}

-- a line feed is at the end, and none before
abbrev pub IsEnded : List ℕ → Type 0
IsEnded line = (text : List ℕ) × (line ≡ text ++ 10 ∷ []) × HasNoFeed text

-- each line is ended; the last may lack its feed, and then has a byte
abbrev pub AreLines : List (List ℕ) → Type 0
AreLines [] = Unit {0}
AreLines (line ∷ []) = IsEnded line ⊎ ((0 < length line) × HasNoFeed line)
AreLines (line ∷ next ∷ lines) = IsEnded line × AreLines (next ∷ lines)

-- the number is in its range
abbrev pub ChainFits : ChainId → Type 0
ChainFits Relay = Unit {0}
ChainFits (Para number) = number < 2 ^ 32

-- the text of an execution
abbrev pub exec_line : ChainId → List ℕ → List ℕ → List ℕ
exec_line chain account message =
    codes "exec " ++ (chain_text chain ++ (codes " 0x" ++ (encode_lower account ++ (codes " 0x" ++ encode_lower message))))

-- the text of a delivery
abbrev pub deliver_line : ChainId → ChainId → List ℕ
deliver_line from to = codes "deliver " ++ (chain_text from ++ (codes " " ++ chain_text to))

-- the text of a claim
abbrev pub claim_line : ChainId → ChainId → List ℕ → List ℕ
claim_line from to message = codes "claim " ++ (chain_text from ++ (codes " " ++ (chain_text to ++ (codes " 0x" ++ encode_lower message))))
