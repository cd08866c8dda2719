-- What the bytes of a message that waits mean. Source: the XCM format (versioned programs).
use Rattle.std.specs.Prelude.{ℕ, ◌==◌, List, [], ◌∷◌, Bool, false, is_ok, Result, Ok, Err}
use Rattle.operands.specs.declared.version.Version.{Version}
use Rattle.xcm_program.specs.declared.instruction.Instruction.{Instruction}
use Rattle.xcm_format.specs.Messages.{version_byte}
use Rattle.versioned_xcm.specs.declared.faults.MessageFault.{MessageFault}
use Rattle.versioned_xcm.specs.Reading.{message_of}

-- whether the bytes are a message whose program both versions can say
abbrev pub decodes : List ℕ → Bool
decodes bytes = is_ok (message_of bytes)

-- the program that was read; no message that waits is refused
abbrev pub program_read : Result (List Instruction) MessageFault → List Instruction
program_read (Ok program) = program
program_read (Err fault) = []

-- whether the bytes begin with the byte of the version
abbrev pub is_spelled_in : Version → List ℕ → Bool
is_spelled_in v [] = false
is_spelled_in v (byte ∷ bytes) = byte == version_byte v
