-- What a call did that reads rows and writes what they say. Source: this project's own rule.
use Rattle.std.specs.Prelude.{◌≡◌, ℕ, List, ◌++◌, length, map, Result, MatchResult}
use Rattle.std.specs.List.{AllByRecursion}
use Rattle.scale_codec.specs.Spelling.{compact, joined}
use Rattle.operands.specs.declared.version.Version.{Version}
use Rattle.message_text.specs.Lines.{line}
use Rattle.tree_reading.specs.declared.kinds.Words.{Words}
use Rattle.tree_reading.specs.declared.expected.TreeFault.{TreeFault}
use Rattle.tree_reading.specs.declared.expected.TreeFault.TheVariants.{Memory}
use Rattle.tree_reading.specs.Rows.{IsWords}
use Rattle.tree_reading.specs.Kinds.{Says}

-- this is left of the rows, and this was appended; unless memory ran out
abbrev pub Took : {A : Type 0} → List ℕ → List ℕ → Result A TreeFault → List ℕ → List ℕ → List ℕ → Type 0
Took rest said result new_rows old_out new_out =
    MatchResult result (λ _. (new_rows ≡ rest) × (new_out ≡ old_out ++ said)) (λ stop. stop ≡ Memory)

-- ---- lists, a row for each item: its words, and what they say

abbrev pub AreItems : Version → Words → List (List ℕ × List ℕ) → Type 0
AreItems v kind items = AllByRecursion (λ (x : List ℕ × List ℕ). IsWords x.0 × Says v kind x.0 x.1) items

abbrev pub rows_text : ℕ → List (List ℕ × List ℕ) → List ℕ
rows_text level items = joined (map (λ (x : List ℕ × List ℕ). line level x.0) items)

abbrev pub items_said : List (List ℕ × List ℕ) → List ℕ
items_said items = joined (map (λ (x : List ℕ × List ℕ). x.1) items)

abbrev pub list_said : List (List ℕ × List ℕ) → List ℕ
list_said items = compact (length items) ++ items_said items

-- the items were read: how many, what is left of the rows, and what was appended; unless memory ran out
abbrev pub TookItems : List ℕ → List (List ℕ × List ℕ) → Result ℕ TreeFault → List ℕ → List ℕ → List ℕ → Type 0
TookItems rest items result new_rows old_out new_out =
    MatchResult result (λ n. (n ≡ length items) × (new_rows ≡ rest) × (new_out ≡ old_out ++ items_said items)) (λ stop. stop ≡ Memory)
