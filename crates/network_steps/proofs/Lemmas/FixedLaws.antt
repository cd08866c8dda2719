-- Lemmas that proofs cite, in this crate and above it: no call and no execution changes what the document says of a chain. A reader of the
-- contracts may skip this file.
use Rattle.std.proofs.Common.{◌≡◌, Bool, true, false, List, [], ◌∷◌, refl, ap, ◌∙◌, map}
use Rattle.std.specs.Prelude.{if◌then◌else◌}
use Rattle.locations.specs.declared.relative.Location.{Location}
use Rattle.operands.specs.declared.weight.Weight.{Weight}
use Rattle.xcm_program.specs.declared.instruction.Instruction.{Instruction}
use Rattle.plain_lists.specs.Firsts.{change_first}
use Rattle.channel_parts.specs.Channels.{Outgoing, with_waiting}
use Rattle.exec_base.specs.Part.{ChainPart}
use Rattle.exec_base.specs.Sending.{leads_to_location}
use Rattle.exec_rules.specs.declared.rules.ChainRules.{ChainRules}
use Rattle.exec_rules.specs.Execution.{executed}
use Rattle.exec_rules.specs.HostCalls.{MachineWithGoods, MachineCall, after}
use Rattle.exec_rules.proofs.Lemmas.Footprints.{settings_after, channels_after}
use Rattle.exec_rules.specs.Kept.{IsKeptByCalls}
use Rattle.exec_rules.proofs.Lemmas.KeptLaws.{any_kind, keeps_executed}
use Rattle.network_steps.specs.Fixed.{Fixed, fixed_of}

-- ---- a message put last, or taken
pub channels_kept : (test : Outgoing → Bool) (change : Outgoing → Outgoing) → ((c : Outgoing) → (change c).channel ≡ c.channel) → (cs : List Outgoing)
    → map (λ (c : Outgoing). c.channel) (change_first test change cs) ≡ map (λ (c : Outgoing). c.channel) cs
channels_kept test change same [] = refl
channels_kept test change same (c ∷ cs) =
    elim (test c) as (λ b. map (λ (c : Outgoing). c.channel) (if b then change c ∷ cs else c ∷ change_first test change cs) ≡ map (λ (c : Outgoing). c.channel) (c ∷ cs)) [
      | true ↦ ap (λ x. x ∷ map (λ (c : Outgoing). c.channel) cs) (same c)
      | false ↦ ap (λ xs. c.channel ∷ xs) (channels_kept test change same cs)
    ]

-- ---- an execution
pub call_fixed : (c : MachineCall) (t : MachineWithGoods) → fixed_of (after c t).part ≡ fixed_of t.part
call_fixed c t =
    let same : map (λ (c : Outgoing). c.channel) (after c t).part.channels ≡ map (λ (c : Outgoing). c.channel) t.part.channels =
    channels_after (λ (cs : List Outgoing). map (λ (c : Outgoing). c.channel) cs ≡ map (λ (c : Outgoing). c.channel) t.part.channels) t
    (λ dest program cargo h. channels_kept (leads_to_location t.part dest) (with_waiting program cargo) (λ c. refl) t.part.channels ∙ h) c refl in
    λ i. record { settings = settings_after c t i; channels = same i }

pub fixed_is_kept : (says : Fixed) → IsKeptByCalls any_kind (λ (t : MachineWithGoods). fixed_of t.part ≡ says)
fixed_is_kept says = record { refunds = tt; called = λ x l is q moment m t c k asks from ok h. call_fixed c t ∙ h; turned = λ t r turns h. h }

pub executed_fixed : (rules : ChainRules) (origin : Location) (credit : Weight) (program : List Instruction) (p : ChainPart) → fixed_of (executed rules origin credit program p).1 ≡ fixed_of p
executed_fixed rules origin credit program p = (keeps_executed (λ (t : MachineWithGoods). fixed_of t.part ≡ fixed_of p) (fixed_is_kept (fixed_of p)) rules origin credit program p refl).kept
