-- What holds of a machine within a run for an origin of the chain's own. This project's own rule.
use Rattle.std.proofs.Common.{◌≡◌, List, None}
use Rattle.xcm_program.specs.declared.instruction.Instruction.{Instruction}
use Rattle.exec_rules.specs.Machine.{Machine}
use Rattle.exec_rules.specs.Instructions.{refusal_of, done, xcm}
use Rattle.exec_rules.specs.Readiness.{IsSteady}
use Rattle.law_coherence.specs.Networks.{Table}
use Rattle.law_runs.specs.Safety.{Safely, MeetsPremises, AreFees}
use Rattle.law_runs.specs.Accepted.{IsOwnOrigin}

-- ---- a run
-- what a run keeps for an origin of the chain's own
pub record IsSafeAt (n : List Table) (m : Machine) : Type 0 where
  pub fine : MeetsPremises n m
  pub own_origin : IsOwnOrigin m.regs.origin
  pub steady : IsSteady m
  pub fees : AreFees m.part.channels

abbrev pub Goes : List Table → Machine → Machine → Type 0
Goes n m k = IsSafeAt n m → IsSafeAt n k × Safely m k

-- each instruction leaves a steady machine steady
abbrev pub StaysSteady : Type 0
StaysSteady = (x : Instruction) (m : Machine) → IsSteady m → refusal_of x m ≡ None → IsSteady (xcm.done x m)
