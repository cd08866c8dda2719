-- What is decoded has a first byte, and is small.
use Rattle.std.proofs.Common.{ℕ, ◌<◌, ◌≤◌, List, length, arith}
use Rattle.operands.specs.declared.version.Version.{Version}
use Rattle.xcm_program.specs.declared.instruction.Instruction.{Instruction}
use Rattle.xcm_program.specs.Measure.{deep_count}
use Rattle.xcm_format.specs.Messages.{message}
use Rattle.versioned_xcm.specs.Message.{IsDecoded}

message_begins : (v : Version) (program : List Instruction) → 0 < length (message v program)
unfolding message
message_begins v program = omega arith

pub decoded_begins : (bytes : List ℕ) (program : List Instruction) → IsDecoded bytes program → 0 < length bytes
decoded_begins bytes program d = rw d.message.1.text (message_begins d.message.0 program)

pub decoded_few : (bytes : List ℕ) (program : List Instruction) → IsDecoded bytes program → deep_count program ≤ 100
decoded_few bytes program d = d.message.1.readable.small.few
