-- When two acts at different chains may be swapped. This project's own rule.
--
--   sends on a channel      an instruction that sends, to a location by which its chain names the channel's other end
--   sends calmly            no send of an act on a channel answers Transport, which is what a full channel answers
--   takes freely            a delivery from a channel of the other act's chain: it doesn't find the channel empty, and the other sends calmly on it
use Rattle.std.specs.Prelude.{◌≡◌, ⊤, Bool, true, false, List, Some, Ok}
use Rattle.std.specs.Option.{option_map_or}
use Rattle.chain_ids.specs.declared.chain.ChainId.{ChainId}
use Rattle.locations.specs.declared.relative.Location.{Location}
use Rattle.operands.specs.declared.weight.Weight.{Weight}
use Rattle.operands.specs.declared.error.XcmError.TheVariants as error
use Rattle.trust_tables.specs.Trust.{is_location_of}
use Rattle.weight_trader.specs.Purchases.{no_weight}
use Rattle.xcm_program.specs.declared.instruction.Instruction.{Instruction, out-Instruction}
use Rattle.xcm_program.specs.declared.instruction.Instruction.TheOpen.{Instruction-F}
use Rattle.versioned_xcm.specs.Reading.{message_of}
use Rattle.channel_parts.specs.declared.cargo.Cargo.TheVariants.{Nothing}
use Rattle.channel_parts.specs.Channels.{Waiting}
use Rattle.exec_base.specs.declared.event.Event.{Event}
use Rattle.exec_base.specs.Part.{ChainPart}
use Rattle.exec_base.specs.Host.{told}
use Rattle.exec_rules.specs.Run.{Stage, At, Ended, Reaches}
use Rattle.exec_rules.specs.Instructions.{refusal_of, xcm}
use Rattle.exec_rules.specs.Reasons.{destination}
use Rattle.exec_rules.specs.declared.rules.ChainRules.{ChainRules}
use Rattle.exec_rules.specs.declared.admission.Admitted.{Admitted}
use Rattle.exec_rules.specs.Admission.{admitted}
use Rattle.exec_rules.specs.Execution.{first_stage}
use Rattle.network_steps.specs.declared.step_result.StepResult.{StepResult}
use Rattle.network_steps.specs.Worlds.{Member, chain_of, World}
use Rattle.network_steps.specs.Acting.{begun, caller}
use Rattle.network_steps.specs.Steps.{is_sovereign, name_at, waiting}
use Rattle.law_independence.specs.Acts.{Act, acts_at, takes_from, stepped_by, member_named}

-- ---- sends

-- it sends on the channel from the first chain to the second
abbrev pub sends_on : ChainId → ChainId → Instruction-F Instruction → Bool
sends_on here to l = option_map_or (λ (dest : Location). is_location_of here to dest) (destination l) false

-- where a run is: not before a send on the chain's channel to that chain which answers Transport
abbrev pub IsCalmAt : ChainId → Stage → Type 0
IsCalmAt to (At part place x behind m) = sends_on m.part.site.chain to (out-Instruction x) ≡ true → refusal_of x m ≡ Some error.Transport → ⊥
IsCalmAt to (Ended m) = ⊤

-- a program is executed for an origin: wherever its run comes
abbrev pub RunsCalmly : ChainId → ChainRules → Location → Weight → List Instruction → ChainPart → Type 0
RunsCalmly to rules origin credit program p =
    (a : Admitted) (g : Stage) → admitted rules origin credit p.queries program ≡ Ok a → Reaches xcm (first_stage rules origin a p) g → IsCalmAt to g

-- no send of an act on its chain's channel to that chain answers Transport
abbrev pub SendsCalmly : World → Act → ChainId → Type 0
SendsCalmly w (Act.Exec chain account bytes) to =
    (m : Member) (program : List Instruction) → member_named w chain ≡ Some m → is_sovereign account ≡ false → message_of bytes ≡ Ok program
    → RunsCalmly to m.rules (caller account) m.rules.limit program (begun (chain_of m) Nothing m.part)
SendsCalmly w (Act.Deliver from here) to =
    (s r : Member) (x : Waiting) → member_named w from ≡ Some s → member_named w here ≡ Some r → waiting w from here ≡ Some x
    → RunsCalmly to r.rules (name_at (chain_of r) (chain_of s)) no_weight x.program (told (begun (chain_of s) x.cargo r.part) (Event.Message (chain_of s) (chain_of r) x.number))
SendsCalmly w (Act.Claim here there bytes) to = there ≡ to → (stepped_by w (Act.Claim here there bytes)).answer ≡ StepResult.Unsent error.Transport → ⊥

-- ---- two acts

-- where the first takes from a channel of the second's chain, it doesn't find it empty, and the second sends calmly on it
abbrev pub TakesFreely : World → Act → Act → Type 0
TakesFreely w s t = (to : ChainId) → takes_from s ≡ Some (acts_at t, to) → ((stepped_by w s).answer ≡ StepResult.Empty → ⊥) × SendsCalmly w t to

-- both orders lead to the same world, and each act has the same answer and trace in both
pub record AreFree (w : World) (s t : Act) : Type 0 where
  pub world : (stepped_by (stepped_by w s).world t).world ≡ (stepped_by (stepped_by w t).world s).world
  pub first_answer : (stepped_by (stepped_by w t).world s).answer ≡ (stepped_by w s).answer
  pub first_trace : (stepped_by (stepped_by w t).world s).trace ≡ (stepped_by w s).trace
  pub second_answer : (stepped_by (stepped_by w s).world t).answer ≡ (stepped_by w t).answer
  pub second_trace : (stepped_by (stepped_by w s).world t).trace ≡ (stepped_by w t).trace
