-- Decoding from left to right. That it accepts just the messages, each refusal with its cause, is the law of messages.
use Rattle.std.specs.Prelude.{ℕ, ◌==◌, nat_lt, List, [], ◌∷◌, length, Option, Some, None, Result, Ok, Err, if◌then◌else◌}
use Rattle.operands.specs.declared.version.Version.{Version}
use Rattle.operands.specs.declared.version.Version.TheVariants.{V3, V4}
use Rattle.xcm_program.specs.declared.instruction.Instruction.{Instruction}
use Rattle.xcm_program.specs.Conversions.{is_convertible}
use Rattle.versioned_xcm.specs.Programs.{readable_at}
use Rattle.versioned_xcm.specs.declared.faults.MessageFault.{MessageFault}
use Rattle.versioned_xcm.specs.declared.faults.MessageFault.TheVariants.{TooLong, UnknownVersion, NotAMessage, NotConvertible}

-- nothing follows, and both versions can say it
abbrev pub program_at_end : Option (List Instruction × List ℕ) → Result (List Instruction) MessageFault
program_at_end None = Err NotAMessage
program_at_end (Some (program, [])) = if is_convertible program then Ok program else Err NotConvertible
program_at_end (Some (program, byte ∷ bytes)) = Err NotAMessage

-- a program, to the end of the bytes
abbrev pub program_in : Version → List ℕ → Result (List Instruction) MessageFault
program_in v bytes = program_at_end (readable_at v bytes)

-- the version
abbrev pub versioned_at : List ℕ → Result (List Instruction) MessageFault
versioned_at [] = Err NotAMessage
versioned_at (version ∷ bytes) = if version == 3 then program_in V3 bytes else (if version == 4 then program_in V4 bytes else Err UnknownVersion)

-- what the bytes decode to
unfoldable pub message_of : List ℕ → Result (List Instruction) MessageFault
message_of bytes = if nat_lt 65536 (length bytes) then Err TooLong else versioned_at bytes
