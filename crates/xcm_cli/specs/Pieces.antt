-- A text that is written in pieces, each of which is made when those before it are written. This project's own rule.
use Rattle.std.specs.Prelude.{◌≡◌, ℕ, ◌≤◌, List, Option, None, Some, Result, Ok}
use Rattle.std.specs.Io.KnownBytes.{Appends}
use Rattle.xcm_io.specs.Bytes.{IsFront, IsProperFront}
use Rattle.xcm_io.specs.Causes.{Rose}
use Rattle.network_steps.specs.Steps.{Step}
use Rattle.network_steps.specs.Steps as steps
use Rattle.line_serving.specs.declared.status.Status.{Status}
use Rattle.line_serving.specs.declared.status.Status.TheVariants.{WriteFault}
use Rattle.xcm_cli.specs.declared.long_blocks.LongBlock.{LongBlock}
use Rattle.xcm_cli.specs.declared.long_blocks.LongBlock.TheVariants.{Balances, Traps, Queues}

-- The text was written piece by piece, where the answer is `None`. Where a write failed, a proper prefix of it was, and the count of
-- faults rose; where memory was refused for a piece, those before it were. There is no other answer.
pub record WritesInPieces {E : Type 0} (text : List ℕ) (old new : Option (List ℕ)) (before now : ℕ)
    (result : Result (Option Status) E) : Type 0 where
  pub part : List ℕ
  pub appends : Appends old new part
  pub front : IsFront part text
  pub whole : result ≡ Ok None → part ≡ text
  pub failed : (status : Status) → result ≡ Ok (Some status)
      → (status ≡ WriteFault) × IsProperFront part text × Rose before now
  pub later : before ≤ now

-- the step whose block is written in pieces
abbrev pub step_of_block : LongBlock → Step
step_of_block Balances = steps.Balances
step_of_block Traps = steps.Traps
step_of_block Queues = steps.Queues
