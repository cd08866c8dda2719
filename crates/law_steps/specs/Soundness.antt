-- What every world of a coherent network keeps, besides what conservation says of it. This project's own vocabulary.
use Rattle.std.specs.Prelude.{◌≡◌, ◌^◌, ◌<◌, List, Ok}
use Rattle.std.specs.List.{AllByRecursion}
use Rattle.locations.specs.declared.relative.Location.{Location}
use Rattle.operands.specs.declared.query.OpenQuery.{OpenQuery}
use Rattle.operands.specs.declared.weight.Weight.{Weight}
use Rattle.chain_ids.specs.declared.chain.ChainId.{ChainId}
use Rattle.xcm_program.specs.declared.instruction.Instruction.{Instruction}
use Rattle.xcm_program.specs.Measure.{deep_count}
use Rattle.weight_trader.specs.Laws.{MovesAreKept}
use Rattle.channel_parts.specs.declared.channel.Channel.{Channel}
use Rattle.channel_parts.specs.declared.cargo.Cargo.TheVariants as cargos
use Rattle.exec_base.specs.Part.{ChainPart}
use Rattle.exec_rules.specs.Machine.{IsOrderly}
use Rattle.exec_rules.specs.Accounts.{IsBalanced}
use Rattle.exec_rules.specs.Outcome.{finished}
use Rattle.exec_rules.specs.Instructions.{xcm}
use Rattle.exec_rules.specs.Readiness.{IsAtRest}
use Rattle.exec_rules.specs.declared.rules.ChainRules.{ChainRules}
use Rattle.exec_rules.specs.declared.admission.Admitted.{Admitted}
use Rattle.exec_rules.specs.Admission.{admitted, IsWeighed}
use Rattle.exec_rules.specs.Execution.{first_stage, last_machine}
use Rattle.law_runs.specs.Sums.{none}
use Rattle.law_runs.specs.Calls.{Withdraws, Trapping}
use Rattle.law_runs.specs.Safety.{HasFee, AreTrustedAt, links_of}
use Rattle.law_runs.specs.Runs.{StaysSteady}
use Rattle.law_steps.specs.Rooms.{AllListed}

-- a channel's fee isn't 0, and it leads to another chain
pub record IsLink (here : ChainId) (channel : Channel) : Type 0 where
  pub fee : HasFee channel
  pub away : channel.to ≡ here → ⊥

-- a chain between steps: nothing is under way inside it, every unit and every burn is listed, and what waits in its channels was trusted when
-- it was sent
pub record IsSoundPart (p : ChainPart) : Type 0 where
  pub rest : IsAtRest p
  pub cargo : p.cargo.cargo ≡ cargos.Nothing
  pub listed : AllListed none p
  pub trusted : AreTrustedAt p.site p.rows p.channels
  pub links : AllByRecursion (IsLink p.site.chain) (links_of p.channels)

-- ---- the laws of the crates below
pub record LawsBelow : Type 0 where
  pub withdraws : Withdraws
  pub moves : MovesAreKept
  pub trapping : Trapping
  pub stays : StaysSteady
  pub orderly : IsOrderly xcm
  pub weighs : (rules : ChainRules) (origin : Location) (credit : Weight) (queries : List OpenQuery) (program : List Instruction) (a : Admitted) → deep_count program < 2 ^ 32 → admitted rules origin credit queries program ≡ Ok a → IsWeighed rules.weight a
  pub balances : (rules : ChainRules) (origin : Location) (a : Admitted) (p : ChainPart) → IsWeighed rules.weight a → IsBalanced a.weight (first_stage rules origin a p)
  pub rests : (rules : ChainRules) (origin : Location) (a : Admitted) (p : ChainPart) → IsWeighed rules.weight a → IsAtRest p → IsAtRest (finished xcm (last_machine rules origin a p))
