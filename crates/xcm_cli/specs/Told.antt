-- The report of an input as the blocks of its steps, each in the world to which the steps before it lead. This project's own rule.
use Rattle.std.specs.Prelude.{◌≡◌, ◌⊎◌, ◌≤◌, ℕ, ◌+◌, List, [], ◌∷◌, ◌++◌, length, Bool, Ok}
use Rattle.network_spec.specs.declared.network.NetworkSpec.{NetworkSpec}
use Rattle.network_config.specs.Network.{network_of}
use Rattle.network_steps.specs.Genesis.{order_of, first_world}
use Rattle.network_steps.specs.Worlds.{World}
use Rattle.network_steps.specs.Steps.{Step, next_world}
use Rattle.step_text.specs.Lines.{line_refused_line}
use Rattle.report_blocks.specs.Blocks.{opening_text, step_block}
use Rattle.line_serving.specs.declared.status.Status.TheVariants.{LineRefused}
use Rattle.line_serving.specs.Replies.{Reply, bytes_reply}
use Rattle.xcm_cli.specs.Report.{network_bytes, steps_of, lines_reply, max_network}

-- the blocks of these steps, from a world on, with so many steps before them
abbrev pub blocks_of : Bool → NetworkSpec → World → ℕ → List Step → List ℕ
blocks_of audit spec w done [] = []
blocks_of audit spec w done (step ∷ steps) =
    step_block audit spec w (done + 1) step
    ++ blocks_of audit spec (next_world (order_of spec) w step) (done + 1) steps

-- the opening, and the blocks of all steps from the first world on
abbrev pub opening_and_blocks : Bool → NetworkSpec → List Step → List ℕ
opening_and_blocks audit spec steps = opening_text spec ++ blocks_of audit spec (first_world spec) 0 steps

-- what is written is this text, and after it nothing, or that a line is refused
pub record TellsOf (reply : Reply) (told : List ℕ) : Type 0 where
  pub behind : List ℕ
  pub text : reply.text ≡ told ++ behind
  pub last : (behind ≡ []) ⊎ ((number : ℕ)
      × ((reply.status ≡ LineRefused) × (behind ≡ line_refused_line number)))

-- each input whose network is read and whose network part is within its limit is told so
abbrev pub ReportsTellOfSteps : Type 0
ReportsTellOfSteps = (audit : Bool) (bytes : List ℕ) (spec : NetworkSpec)
    → network_of (network_bytes bytes) ≡ Ok spec → length (network_bytes bytes) ≤ max_network
    → TellsOf (bytes_reply (lines_reply audit) bytes) (opening_and_blocks audit spec (steps_of bytes))
