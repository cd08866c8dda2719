-- What a message leaves at its receiver, and what a delivery answers. This project's own rule.
use Rattle.std.specs.Prelude.{◌≡◌, ◌⊎◌, List, ⊤}
use Rattle.locations.specs.declared.relative.Location.{Location}
use Rattle.weight_trader.specs.Purchases.{no_weight}
use Rattle.xcm_program.specs.declared.instruction.Instruction.{Instruction}
use Rattle.xcm_program.specs.declared.outcome.Outcome.{Outcome}
use Rattle.channel_parts.specs.declared.cargo.Cargo.{Cargo}
use Rattle.exec_base.specs.Part.{ChainPart}
use Rattle.exec_rules.specs.declared.rules.ChainRules.{ChainRules}
use Rattle.exec_rules.specs.Execution.{IsAbandoned}
use Rattle.network_steps.specs.declared.step_result.StepResult.{StepResult}
use Rattle.network_steps.specs.Acting.{Acted}

-- what a program left: its outcome, what was left of the cargo, and the chain
abbrev pub IsActed : Acted → Outcome → Cargo → ChainPart → Type 0
IsActed a outcome left now = (outcome ≡ a.outcome) × (left ≡ a.left) × (now ≡ a.part)

-- a message was neither read nor told, or its execution was abandoned
abbrev pub IsUnread : ChainRules → Location → List Instruction → ChainPart → ChainPart → ChainPart → Type 0
IsUnread rules origin program before told_of now = (now ≡ before) ⊎ IsAbandoned rules origin no_weight program told_of now

-- ---- messages that wait

-- an answer that doesn't say that bytes are no message: each message that waits is one
abbrev pub HasNoMessageFault : StepResult → Type 0
HasNoMessageFault (StepResult.Message fault) = ⊥
HasNoMessageFault answer = ⊤
