-- What is written for an input, and how the run ends. Source: this project's own rule.
use Rattle.std.specs.Prelude.{ℕ, ◌+◌, ◌≤◌, ◌||◌, nat_le, List, [], ◌∷◌, length, Bool, true, false, Result, Ok, Err, codes, String, if◌then◌else◌}
use Rattle.std.specs.declared.alloc.Global.{Global}
use Rattle.input_lines.specs.Lines.{lines_of, text_of, has_mark, network_part, later_lines, lines_through, bytes_through}
use Rattle.input_lines.specs.Step.{read_line}
use Rattle.document_entries.specs.declared.fault.NetworkFault.{NetworkFault}
use Rattle.network_config.specs.Network.{network_of}
use Rattle.network_spec.specs.declared.network.NetworkSpec.{NetworkSpec}
use Rattle.network_steps.specs.Worlds.{World}
use Rattle.network_steps.specs.Steps.{Step, next_world}
use Rattle.network_steps.specs.Genesis.{order_of, first_world}
use Rattle.step_text.specs.Lines.{network_refused_line, line_refused_line}
use Rattle.report_blocks.specs.Asked.{asked_of, Nothing, Asks, Unknown}
use Rattle.report_blocks.specs.Blocks.{opening_text, step_block}
use Rattle.generator.specs.Generated.{generated}
use Rattle.xcm_cli.specs.declared.words.Task.{Task}
use Rattle.xcm_cli.specs.declared.words.Task.TheVariants.{Run, Generate}
use Rattle.xcm_cli.specs.declared.words.Task.TheVariants as tasks
use Rattle.xcm_cli.specs.Words.{task_of}
use Rattle.std.specs.List.{concat}
use Rattle.line_serving.specs.Replies.{Reply, ends, then_on, max_input, max_line, fits_limits, bytes_reply}
use Rattle.line_serving.specs.declared.status.Status.{Status}
use Rattle.line_serving.specs.declared.status.Status.TheVariants.{Done, Usage, NetworkRefused, LineRefused, TooLong}

-- ---- texts

abbrev pub usage_text : List ℕ
usage_text = codes "usage: run | run --audit | gen NUMBER STEPS\n"

-- ---- limits, in bytes

-- of the network part
abbrev pub max_network : ℕ
max_network = 1048576

-- So many bytes of an input, the last of which begin a line, are within the limits so far. While the network part is read, that
-- line may be the one that ends it, of which at most four bytes can have come: `---` and a carriage return.
abbrev pub IsWithinInputLimits : Bool → ℕ → ℕ → Type 0
IsWithinInputLimits false size begun = size ≤ max_network + 4
IsWithinInputLimits true size begun = (begun ≤ max_line) × (size ≤ max_input)

-- ---- the run

-- the lines after the network, in a world, with this many steps, lines and bytes before them
unfoldable pub steps_reply : Bool → NetworkSpec → World → ℕ → ℕ → ℕ → List (List ℕ) → Reply
steps_reply audit spec w steps before taken [] = ends [] Done
steps_reply audit spec w steps before taken (line ∷ lines) =
    if fits_limits taken line
    then elim (asked_of (read_line (text_of line))) [
      | Nothing ↦ steps_reply audit spec w steps (before + 1) (taken + length line) lines
      | Asks step ↦ then_on (step_block audit spec w (steps + 1) step)
          (steps_reply audit spec (next_world (order_of spec) w step)
          (steps + 1) (before + 1) (taken + length line) lines)
      | Unknown ↦ ends (line_refused_line (before + 1)) LineRefused
    ]
    else ends [] TooLong

-- the lines after a network, with this many lines and bytes before them
abbrev pub network_reply : Bool → Result NetworkSpec NetworkFault → ℕ → ℕ → List (List ℕ) → Reply
network_reply audit (Ok spec) before taken lines =
    then_on (opening_text spec) (steps_reply audit spec (first_world spec) 0 before taken lines)
network_reply audit (Err fault) before taken lines =
    ends (network_refused_line fault) NetworkRefused

-- a network part, and the lines after it; the part is read once it is closed, by the line `---` or the end of the input
abbrev pub part_reply : Bool → Bool → List ℕ → ℕ → ℕ → List (List ℕ) → Reply
part_reply audit closed part before taken lines =
    if nat_le (length part) max_network
    then (if closed then network_reply audit (network_of part) before taken lines else ends [] Done)
    else ends [] TooLong

-- These lines, at whose end the input ends or not, with the audit after each step or without. Where the input doesn't end, the
-- text is what is reported of them whatever lines come after, and Done says that so far no limit is passed and nothing is refused.
unfoldable pub lines_reply : Bool → Bool → List (List ℕ) → Reply
lines_reply audit at_end lines =
    part_reply audit (has_mark lines || at_end) (network_part lines) (lines_through lines)
    (bytes_through lines) (later_lines lines)

-- where a line of so many bytes is begun after these lines: there may be more of it
abbrev pub lines_room : List (List ℕ) → ℕ → Type 0
lines_room lines begun = IsWithinInputLimits (has_mark lines) (length (concat lines) + begun) begun

abbrev pub usage_reply : Reply
usage_reply = ends usage_text Usage

-- the report of generated steps
abbrev pub generated_reply : ℕ → ℕ → Reply
generated_reply number steps = ends (generated number steps) Done

-- what is written for an input where this is asked for, and the answer
abbrev pub task_reply : Task → List ℕ → Reply
task_reply (Run audit) bytes = bytes_reply (lines_reply audit) bytes
task_reply (Generate number steps) bytes = generated_reply number steps
task_reply tasks.Usage bytes = usage_reply

-- what is written for these words and this input, and the answer
unfoldable pub reply : List (String Global) → List ℕ → Reply
reply words bytes = task_reply (task_of words) bytes

-- the report
abbrev pub report : List (String Global) → List ℕ → List ℕ
report words bytes = (reply words bytes).text

-- the fate, decided by the first position in the input
abbrev pub fate : List (String Global) → List ℕ → Status
fate words bytes = (reply words bytes).status

-- ---- the steps of an input

-- what the lines after the network ask for, with this many bytes before them, up to the first that is refused or past a limit
unfoldable pub steps_in : ℕ → List (List ℕ) → List Step
steps_in taken [] = []
steps_in taken (line ∷ lines) =
    if fits_limits taken line
    then elim (asked_of (read_line (text_of line))) [
      | Nothing ↦ steps_in (taken + length line) lines
      | Asks step ↦ step ∷ steps_in (taken + length line) lines
      | Unknown ↦ []
    ]
    else []

-- the steps of an input
abbrev pub steps_of : List ℕ → List Step
steps_of bytes = steps_in (bytes_through (lines_of bytes)) (later_lines (lines_of bytes))

-- the network part of an input
abbrev pub network_bytes : List ℕ → List ℕ
network_bytes bytes = network_part (lines_of bytes)
