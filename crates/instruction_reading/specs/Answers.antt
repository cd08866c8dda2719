-- What a reader answers that puts an instruction into a slot that its caller has for it.
use Rattle.std.specs.Prelude.{◌≡◌, ℕ, List, Option, Some, Result, Ok, Err}
use Rattle.scale_codec.specs.declared.faults.WireFault.{WireFault}
use Rattle.scale_codec.specs.Answers.{Refuses}
use Rattle.xcm_program.specs.declared.instruction.Instruction.{Instruction, out-Instruction}
use Rattle.instruction_reading.specs.Reading.{Layer}

-- The instruction is in the slot, and the cursor at `new`; or nothing is read, unless memory ran out. Nothing is said of slot and cursor
-- after a refusal.
abbrev pub FilledHead : {A : Type 0} → Result A WireFault → Option (Layer × List ℕ) → Instruction → List ℕ → Type 0
FilledHead (Ok _) read place new = read ≡ Some (out-Instruction place, new)
FilledHead (Err fault) read place new = Refuses fault read
