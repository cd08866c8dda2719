-- What the program's words ask for. Source: this project's own rule.
use Rattle.std.specs.Prelude.{ℕ, ◌^◌, List, [], ◌∷◌, Bool, true, false, ◌&&◌, nat_lt, nat_le, Option, Some, None, if◌then◌else◌, codes, decimal, String, string_bytes, bytes_eq}
use Rattle.std.specs.declared.alloc.Global.{Global}
use Rattle.std.specs.Str.Parse.{digits_value}
use Rattle.xcm_cli.specs.declared.words.Task.{Task}
use Rattle.xcm_cli.specs.declared.words.Task.TheVariants.{Run, Generate, Usage}

-- the words are just `run`
abbrev pub is_run : List (String Global) → Bool
is_run [] = false
is_run (word ∷ []) = bytes_eq (string_bytes word) (codes "run")
is_run (word ∷ other ∷ words) = false

-- the words are `run --audit`
abbrev pub is_audit : List (String Global) → Bool
is_audit [] = false
is_audit (word ∷ []) = false
is_audit (word ∷ other ∷ []) =
    bytes_eq (string_bytes word) (codes "run") && bytes_eq (string_bytes other) (codes "--audit")
is_audit (word ∷ other ∷ more ∷ words) = false

-- the words are `gen` and two more
abbrev pub is_generation : List (String Global) → Bool
is_generation [] = false
is_generation (word ∷ []) = false
is_generation (word ∷ number ∷ []) = false
is_generation (word ∷ number ∷ steps ∷ []) = bytes_eq (string_bytes word) (codes "gen")
is_generation (word ∷ number ∷ steps ∷ more ∷ words) = false

-- the number below 2 ^ 64 that the word is in decimal, without leading zeros
unfoldable pub number_of_word : List ℕ → Option ℕ
number_of_word word =
    if bytes_eq word (decimal (digits_value 10 word)) && nat_lt (digits_value 10 word) (2 ^ 64)
    then Some (digits_value 10 word)
    else None

-- at most 100,000 steps, drawn from a number
abbrev pub generation_of : Option ℕ → Option ℕ → Task
generation_of (Some number) (Some steps) =
    if nat_le steps 100000 then Generate number steps else Usage
generation_of (Some number) None = Usage
generation_of None steps = Usage

-- the second and the third word as numbers
abbrev pub generation : List (String Global) → Task
generation [] = Usage
generation (word ∷ []) = Usage
generation (word ∷ number ∷ []) = Usage
generation (word ∷ number ∷ steps ∷ words) =
    generation_of (number_of_word (string_bytes number)) (number_of_word (string_bytes steps))

-- the run of an input, with the audit or without; the run of steps that are drawn; or nothing that the program does
abbrev pub task_of : List (String Global) → Task
task_of words =
    if is_run words then Run false
    else (if is_audit words then Run true
    else (if is_generation words then generation words else Usage))

-- the input is read
abbrev pub reads : Task → Bool
reads (Run audit) = true
reads (Generate number steps) = false
reads Usage = false
