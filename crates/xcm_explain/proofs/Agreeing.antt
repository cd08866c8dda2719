-- A walk goes past a program just where one is read.
use Rattle.std.proofs.Common.{ℕ, zero, suc, ◌-◌, ◌^◌, true, false, List, ◌∷◌, Option, Some, None, refl, ap, if◌then◌else◌}
use Rattle.std.specs.Prelude.{nat_eq}
use Rattle.scale_codec.specs.Reading.{◌>>=◌, below_at, repeated}
use Rattle.operands.specs.declared.version.Version.{Version}
use Rattle.xcm_program.specs.declared.instruction.Instruction.{Instruction}
use Rattle.xcm_program.specs.Measure.{inner}
use Rattle.instruction_reading.specs.Reading.{Layer, head_at}
use Rattle.versioned_xcm.specs.Programs.{Nested, closed, instruction_at, instruction_step, items_at, program_at}
use Rattle.xcm_explain.specs.declared.stop.Expected.TheVariants as expected
use Rattle.xcm_explain.specs.declared.stop.Walked.{Walked}
use Rattle.xcm_explain.specs.declared.stop.Walked.TheVariants.{Stopped}
use Rattle.xcm_explain.specs.Stops.{Walk, WalksAsRead, walk_past, walk_inner, walk_head, walk_instruction, walk_instructions, walk_counted, walk_program}

-- what is made of what was read doesn't matter
bound : {X Y : Type 0} (f : X → Y) (read : Option (X × (ℕ × List ℕ))) (walked : Walked × List ℕ) → WalksAsRead read walked → WalksAsRead (read >>= λ x. Some (f x.0, x.1)) walked
bound f (Some x) walked e = e
bound f None walked e = e

module _ (v : Version) (nested : Nested) (inside : Walk) (same : (left : ℕ) (bytes : List ℕ) → WalksAsRead (nested left bytes) (inside left bytes)) where
  inner_walked : (left : ℕ) (h : Layer × List ℕ) (program : Option (List Instruction)) → WalksAsRead (closed nested left h program) (walk_inner inside left h.1 program)
  inner_walked left h None = refl
  inner_walked left h (Some _) = bound _ (nested left h.1) (inside left h.1) (same left h.1)

  head_walked : (left : ℕ) (bytes : List ℕ) (read : Option (Layer × List ℕ)) → WalksAsRead (read >>= λ h. closed nested left h (inner h.0)) (walk_head inside left bytes read)
  head_walked left bytes None = (expected.Instruction, (bytes, refl))
  head_walked left bytes (Some h) = inner_walked left h (inner h.0)

  instruction_walked : (left : ℕ) (bytes : List ℕ) → WalksAsRead (instruction_at v nested left bytes) (walk_instruction v inside left bytes)
  unfolding instruction_at walk_instruction
  instruction_walked left bytes =
      elim (nat_eq left 0) as (λ b. WalksAsRead (if b then None else (head_at v bytes >>= λ h. closed nested (left - 1) h (inner h.0)))
      (if b then (Stopped expected.NoMore, bytes) else walk_head inside (left - 1) bytes (head_at v bytes))) [
        | true ↦ (expected.NoMore, (bytes, refl))
        | false ↦ head_walked (left - 1) bytes (head_at v bytes)
      ]

  next_walked : (n : ℕ) (read : Option (Instruction × (ℕ × List ℕ))) (walked : Walked × List ℕ) → ((left : ℕ) (bytes : List ℕ) → WalksAsRead (items_at v nested n left bytes) (walk_instructions v inside n left bytes))
      → WalksAsRead read walked → WalksAsRead (read >>= λ x. repeated (instruction_step v nested) n x.1 >>= λ xs. Some (x.0 ∷ xs.0, xs.1)) (walk_past (walk_instructions v inside n) walked)
  next_walked n (Some x) walked later e = rw e (bound (λ xs. x.0 ∷ xs) (items_at v nested n x.1.0 x.1.1) (walk_instructions v inside n x.1.0 x.1.1) (later x.1.0 x.1.1))
  next_walked n None walked later e = (e.0, (e.1.0, ap (walk_past (walk_instructions v inside n)) e.1.1))

  items_walked : (n left : ℕ) (bytes : List ℕ) → WalksAsRead (items_at v nested n left bytes) (walk_instructions v inside n left bytes)
  unfolding repeated walk_instructions
  items_walked zero left bytes = refl
  items_walked (suc n) left bytes = next_walked n (instruction_at v nested left bytes) (walk_instruction v inside left bytes) (items_walked n) (instruction_walked left bytes)

  counted_walked : (left : ℕ) (bytes : List ℕ) (read : Option (ℕ × List ℕ)) → WalksAsRead (read >>= λ n. items_at v nested n.0 left n.1) (walk_counted v inside left bytes read)
  counted_walked left bytes None = (expected.Count, (bytes, refl))
  counted_walked left bytes (Some n) = items_walked n.0 left n.1

pub program_walked : (v : Version) (d left : ℕ) (bytes : List ℕ) → WalksAsRead (program_at v d left bytes) (walk_program v d left bytes)
unfolding program_at walk_program
program_walked v zero left bytes = (expected.NoDeeper, (bytes, refl))
program_walked v (suc d) left bytes = counted_walked v (program_at v d) (walk_program v d) (program_walked v d) left bytes (below_at (2 ^ 32) bytes)
