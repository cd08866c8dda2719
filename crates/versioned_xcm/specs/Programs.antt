-- Reading programs from left to right, with how many instructions there may still be, and to a depth.
use Rattle.std.specs.Prelude.{ℕ, zero, suc, ◌-◌, ◌^◌, List, Option, Some, None, nat_eq, if◌then◌else◌}
use Rattle.std.specs.Option.{option_map}
use Rattle.scale_codec.specs.Reading.{◌>>=◌, Reader, below_at, repeated}
use Rattle.operands.specs.declared.version.Version.{Version}
use Rattle.xcm_program.specs.declared.instruction.Instruction.{Instruction, roll-Instruction}
use Rattle.xcm_program.specs.Measure.{inner, with_inner}
use Rattle.instruction_reading.specs.Reading.{Layer, head_at}

-- from how many instructions there may be, and the bytes: a program, how many there may still be, and the bytes after it
abbrev pub Nested : Type 0
Nested = ℕ → List ℕ → Option (List Instruction × (ℕ × List ℕ))

-- a head, with the program inside read after it where it has one
abbrev pub closed : Nested → ℕ → Layer × List ℕ → Option (List Instruction) → Option (Instruction × (ℕ × List ℕ))
closed nested left h None = Some (roll-Instruction h.0, (left, h.1))
closed nested left h (Some _) = nested left h.1 >>= λ p. Some (roll-Instruction (with_inner h.0 p.0), p.1)

unfoldable pub instruction_at : Version → Nested → ℕ → List ℕ → Option (Instruction × (ℕ × List ℕ))
instruction_at v nested left bytes = if nat_eq left 0 then None else (head_at v bytes >>= λ h. closed nested (left - 1) h (inner h.0))

abbrev pub instruction_step : Version → Nested → ℕ × List ℕ → Option (Instruction × (ℕ × List ℕ))
instruction_step v nested s = instruction_at v nested s.0 s.1

abbrev pub items_at : Version → Nested → ℕ → Nested
items_at v nested n left bytes = repeated (instruction_step v nested) n (left, bytes)

-- to a depth
unfoldable pub program_at : Version → ℕ → Nested
program_at v zero left bytes = None
program_at v (suc d) left bytes = below_at (2 ^ 32) bytes >>= λ n. items_at v (program_at v d) n.0 left n.1

-- within the limits: 100 instructions and 8 levels
unfoldable pub readable_at : Version → Reader (List Instruction)
readable_at v bytes = option_map (λ x. (x.0, x.1.1)) (program_at v 8 100 bytes)
