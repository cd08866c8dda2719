-- Where reading stops in bytes that are no message, and what was expected there: the version, or the first number of instructions or instruction
-- that can't be read, or the end. Source: this project's own rule, over the readers of the XCM format.
use Rattle.std.specs.Prelude.{◌≡◌, ℕ, zero, suc, ◌+◌, ◌-◌, ◌^◌, ◌==◌, nat_eq, List, [], ◌∷◌, ◌++◌, length, Option, Some, None, codes, decimal, if◌then◌else◌}
use Rattle.scale_codec.specs.Reading.{below_at}
use Rattle.operands.specs.declared.version.Version.{Version}
use Rattle.operands.specs.declared.version.Version.TheVariants.{V3, V4}
use Rattle.xcm_program.specs.declared.instruction.Instruction.{Instruction}
use Rattle.xcm_program.specs.Measure.{inner}
use Rattle.instruction_reading.specs.Reading.{Layer, head_at}
use Rattle.xcm_explain.specs.declared.stop.Expected.{Expected}
use Rattle.xcm_explain.specs.declared.stop.Expected.TheVariants as expected
use Rattle.xcm_explain.specs.declared.stop.Walked.{Walked}
use Rattle.xcm_explain.specs.declared.stop.Walked.TheVariants.{Past, Stopped}
use Rattle.xcm_explain.specs.declared.stop.ReadingStop.{ReadingStop}

abbrev pub expected_text : Expected → List ℕ
expected_text expected.Version = codes "version 3 or 4"
expected_text expected.Count = codes "a number of instructions"
expected_text expected.Instruction = codes "an instruction"
expected_text expected.NoMore = codes "at most 100 instructions"
expected_text expected.NoDeeper = codes "at most 8 levels"
expected_text expected.End = codes "the end"

-- from how many instructions there may be, and the bytes: how far reading comes, and the bytes from there on
abbrev pub Walk : Type 0
Walk = ℕ → List ℕ → Walked × List ℕ

abbrev pub walk_past : Walk → Walked × List ℕ → Walked × List ℕ
walk_past next (Past left, bytes) = next left bytes
walk_past next (Stopped what, bytes) = (Stopped what, bytes)

-- past the program inside, where there is one
abbrev pub walk_inner : Walk → ℕ → List ℕ → Option (List Instruction) → Walked × List ℕ
walk_inner inside left bytes None = (Past left, bytes)
walk_inner inside left bytes (Some _) = inside left bytes

abbrev pub walk_head : Walk → ℕ → List ℕ → Option (Layer × List ℕ) → Walked × List ℕ
walk_head inside left bytes None = (Stopped expected.Instruction, bytes)
walk_head inside left bytes (Some h) = walk_inner inside left h.1 (inner h.0)

unfoldable pub walk_instruction : Version → Walk → Walk
walk_instruction v inside left bytes =
    if nat_eq left 0 then (Stopped expected.NoMore, bytes)
    else walk_head inside (left - 1) bytes (head_at v bytes)

-- so many
unfoldable pub walk_instructions : Version → Walk → ℕ → Walk
walk_instructions v inside zero left bytes = (Past left, bytes)
walk_instructions v inside (suc n) left bytes =
    walk_past (walk_instructions v inside n) (walk_instruction v inside left bytes)

abbrev pub walk_counted : Version → Walk → ℕ → List ℕ → Option (ℕ × List ℕ) → Walked × List ℕ
walk_counted v inside left bytes None = (Stopped expected.Count, bytes)
walk_counted v inside left bytes (Some n) = walk_instructions v inside n.0 left n.1

-- to a depth
unfoldable pub walk_program : Version → ℕ → Walk
walk_program v zero left bytes = (Stopped expected.NoDeeper, bytes)
walk_program v (suc d) left bytes =
    walk_counted v (walk_program v d) left bytes (below_at (2 ^ 32) bytes)

-- past all of it just where something is read, with as many instructions that may still be and the same bytes after
abbrev pub WalksAsRead : {X : Type 0} → Option (X × (ℕ × List ℕ)) → Walked × List ℕ → Type 0
WalksAsRead (Some read) walked = walked ≡ (Past read.1.0, read.1.1)
WalksAsRead None walked = (what : Expected) × ((rest : List ℕ) × (walked ≡ (Stopped what, rest)))

abbrev pub stop_at : ℕ → Expected → ReadingStop
stop_at at what = record { at = at; expected = what }

-- after a version and the part of these bytes that was read
abbrev pub walked_to : List ℕ → Walked × List ℕ → ReadingStop
walked_to bytes (Past left, rest) = stop_at (length bytes + 1 - length rest) expected.End
walked_to bytes (Stopped what, rest) = stop_at (length bytes + 1 - length rest) what

-- at most 100 instructions and 8 levels
unfoldable pub reading_stop : List ℕ → ReadingStop
reading_stop [] = stop_at 0 expected.Version
reading_stop (version ∷ bytes) =
    if version == 3 then walked_to bytes (walk_program V3 8 100 bytes)
    else (if version == 4 then walked_to bytes (walk_program V4 8 100 bytes)
    else stop_at 0 expected.Version)

-- what an explanation says of it
abbrev pub stop_text : ReadingStop → List ℕ
stop_text stop =
    codes " at " ++ (decimal stop.at ++ (codes ", expected " ++ expected_text stop.expected))
