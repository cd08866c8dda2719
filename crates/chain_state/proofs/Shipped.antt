-- The program that goes with what is shipped.
use Rattle.std.proofs.Common.{◌≡◌, ℕ, ◌≤◌, Vec, Global, List, length, refl, ap, ◌∙◌, subst}
use Rattle.std.specs.Prelude.{Option, None, Some, Result, MatchResult}
use Rattle.locations.specs.declared.relative.Location.{Location}
use Rattle.chain_ids.specs.declared.chain.ChainId.{ChainId}
use Rattle.operands.specs.declared.error.XcmError.{XcmError}
use Rattle.asset_lists.specs.declared.units.Asset.{Asset}
use Rattle.asset_bundles.specs.declared.shipment.Way.{Way}
use Rattle.xcm_program.specs.declared.instruction.Instruction.{Instruction}
use Rattle.exec_base.specs.declared.faults.HostFault.{HostFault}
use Rattle.exec_base.specs.Part.{ChainPart}
use Rattle.exec_base.specs.Sending.{or_else, away_program, listed_refusal, listed_program}
use Rattle.exec_base.specs.Host.{seen_from}
use Rattle.chain_state.specs.declared.send.arrivals.ArrivalKind.{ArrivalKind}
use Rattle.chain_state.specs.Sends.{IsAcceptedByChannel, IsSendFault, program_by, call_by}

-- the first of three refusals
pub first_of_three : (x y z : Option XcmError) → or_else (or_else x y) z ≡ or_else x (or_else y z)
first_of_three None y z = refl
first_of_three (Some e) y z = refl

away_is : (way : Way) (xcm : List Instruction) (list : List Asset) → program_by (call_by way) xcm list ≡ away_program way list xcm
away_is Way.Withdrawal xcm list = refl
away_is Way.Teleport xcm list = refl

-- what is encoded around the goods, as the rule of shipments says it
IsReady : ChainPart → Location → (List Asset → List Instruction) → List Asset → Result (ChainId × Vec ℕ Global) HostFault → Type 0
IsReady p dest program list r =
    MatchResult r (λ ready. IsAcceptedByChannel p dest (listed_program program (seen_from p dest list)) ready.0 ready.1.items × (listed_refusal p dest program (seen_from p dest list) ≡ None) × (length list ≤ 20))
    (IsSendFault (listed_refusal p dest program (seen_from p dest list)))

pub ready_away : (p : ChainPart) (dest : Location) (way : Way) (call : ArrivalKind) (xcm : List Instruction) (list goods : List Asset) (r : Result (ChainId × Vec ℕ Global) HostFault) → call ≡ call_by way → list ≡ goods
    → MatchResult r (λ ready. IsAcceptedByChannel p dest (listed_program (program_by call xcm) (seen_from p dest list)) ready.0 ready.1.items × (listed_refusal p dest (program_by call xcm) (seen_from p dest list) ≡ None) × (length list ≤ 20))
    (IsSendFault (listed_refusal p dest (program_by call xcm) (seen_from p dest list)))
    → MatchResult r (λ ready. IsAcceptedByChannel p dest (listed_program (λ a. away_program way a xcm) (seen_from p dest goods)) ready.0 ready.1.items × (listed_refusal p dest (λ a. away_program way a xcm) (seen_from p dest goods) ≡ None) × (length goods ≤ 20))
    (IsSendFault (listed_refusal p dest (λ a. away_program way a xcm) (seen_from p dest goods)))
unfolding IsReady
ready_away p dest way call xcm list goods r calls same h =
    let program : program_by call xcm ≡ (λ a. away_program way a xcm) = ap (λ x. program_by x xcm) calls ∙ (λ i a. away_is way xcm a i) in
    subst (λ xs. IsReady p dest (λ a. away_program way a xcm) xs r) same (subst (λ f. IsReady p dest f list r) program h)
