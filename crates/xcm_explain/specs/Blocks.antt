-- What is said of a message. Source: this project's own rule; the tree is that of `program_text`.
use Rattle.std.specs.Prelude.{ℕ, List, [], ◌++◌, slice_index, Result, Ok, Err, codes, decimal}
use Rattle.xcm_program.specs.declared.instruction.Instruction.{Instruction}
use Rattle.message_text.specs.Messages.{program_text}
use Rattle.versioned_xcm.specs.declared.faults.MessageFault.{MessageFault}
use Rattle.versioned_xcm.specs.declared.faults.MessageFault.TheVariants.{TooLong, UnknownVersion, NotAMessage, NotConvertible, Memory}
use Rattle.versioned_xcm.specs.Message.{message_fault_text}
use Rattle.versioned_xcm.specs.Reading.{message_of}
use Rattle.xcm_explain.specs.Stops.{reading_stop, stop_text}

-- a tree below its heading: the number of the message's line, which counts from 1, and the version, which is the first byte
abbrev pub message_tree : ℕ → ℕ → List ℕ → List ℕ
message_tree line version tree =
    codes "message " ++ (decimal line ++ (codes " version " ++ (decimal version
    ++ (codes "\n" ++ tree))))

-- where reading stopped, unless the message is too long or all of it was read
abbrev pub refusal_place : List ℕ → MessageFault → List ℕ
refusal_place bytes TooLong = []
refusal_place bytes UnknownVersion = stop_text (reading_stop bytes)
refusal_place bytes NotAMessage = stop_text (reading_stop bytes)
refusal_place bytes NotConvertible = []
refusal_place bytes Memory = []

-- the line instead of a tree: the cause, and where reading stopped
abbrev pub message_refused_line : ℕ → List ℕ → MessageFault → List ℕ
message_refused_line line bytes fault =
    codes "message " ++ (decimal line ++ (codes " refused: " ++ (message_fault_text fault
    ++ (refusal_place bytes fault ++ codes "\n"))))

-- a program, or why there is none
abbrev pub decoded_block : ℕ → List ℕ → Result (List Instruction) MessageFault → List ℕ
decoded_block line bytes (Ok program) =
    message_tree line (slice_index bytes 0) (program_text 1 program)
decoded_block line bytes (Err fault) = message_refused_line line bytes fault

-- what is said of these bytes, which are in this line
abbrev pub message_block : ℕ → List ℕ → List ℕ
message_block line bytes = decoded_block line bytes (message_of bytes)

-- the line after which nothing is said: it is no hex
abbrev pub not_hex_line : ℕ → List ℕ
not_hex_line line = codes "line " ++ decimal line ++ codes " refused\n"
