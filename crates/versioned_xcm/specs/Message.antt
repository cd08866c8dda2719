-- What decoding and encoding answer. Source: the XCM format (versioned programs). The limits, and the order of the causes, are this
-- project's own rule.
use Rattle.std.specs.Prelude.{◌≡◌, ◌<◌, ◌≤◌, ◌⊎◌, ℕ, true, false, List, [], ◌∷◌, length, codes, ⊤}
use Rattle.operands.specs.declared.version.Version.{Version}
use Rattle.xcm_program.specs.declared.instruction.Instruction.{Instruction, ClearOrigin}
use Rattle.xcm_program.specs.Measure.{deep_count, depth}
use Rattle.xcm_format.specs.Messages.{message, IsMessage}
use Rattle.xcm_program.specs.Conversions.{is_convertible}
use Rattle.versioned_xcm.specs.declared.faults.MessageFault.{MessageFault}
use Rattle.versioned_xcm.specs.declared.faults.MessageFault.TheVariants.{TooLong, UnknownVersion, NotAMessage, NotConvertible, Memory}
use Rattle.versioned_xcm.specs.declared.faults.EncodeFault.{EncodeFault}
use Rattle.versioned_xcm.specs.declared.faults.EncodeFault.TheVariants as refusals

-- ---- decoding

-- the bytes are the program's message, and both versions can say it
pub record IsDecoded (bytes : List ℕ) (program : List Instruction) : Type 0 where
  pub message : IsMessage bytes program
  pub convertible : is_convertible program ≡ true

-- the bytes are a message, of a program that version 4 can't say
pub record IsAbstract (bytes : List ℕ) : Type 0 where
  pub program : List Instruction
  pub message : IsMessage bytes program
  pub abstract_id : is_convertible program ≡ false

abbrev pub IsKnown : ℕ → Type 0
IsKnown version = (version ≡ 3) ⊎ (version ≡ 4)

-- there is a first byte, and it is no version's
abbrev pub HasUnknownVersion : List ℕ → Type 0
HasUnknownVersion [] = ⊥
HasUnknownVersion (version ∷ bytes) = IsKnown version → ⊥

-- each cause rules out those above it
abbrev pub IsCause : List ℕ → MessageFault → Type 0
IsCause bytes TooLong = 65536 < length bytes
IsCause bytes UnknownVersion = (length bytes ≤ 65536) × HasUnknownVersion bytes
IsCause bytes NotAMessage = (length bytes ≤ 65536) × (HasUnknownVersion bytes → ⊥) × ((program : List Instruction) → IsMessage bytes program → ⊥)
IsCause bytes NotConvertible = (length bytes ≤ 65536) × IsAbstract bytes
IsCause bytes Memory = ⊤

-- what a report says of a refused message
abbrev pub message_fault_text : MessageFault → List ℕ
message_fault_text TooLong = codes "too long"
message_fault_text UnknownVersion = codes "unknown version"
message_fault_text NotAMessage = codes "not a message"
message_fault_text NotConvertible = codes "not convertible"
message_fault_text Memory = codes "out of memory"

-- ---- encoding

-- what a chain sends on: its own instruction, and the origin is given up before the rest
abbrev pub forwarded : Instruction → List Instruction → List Instruction
forwarded first rest = first ∷ ClearOrigin ∷ rest

-- the program passes a limit
abbrev pub IsEncodeCause : Version → List Instruction → EncodeFault → Type 0
IsEncodeCause v program refusals.ExceedsLimits = (100 < deep_count program) ⊎ ((8 < depth program) ⊎ (65536 < length (message v program)))
IsEncodeCause v program refusals.Memory = ⊤
