-- What a run leaves of a chain's location and channels: the location stays, and messages are only put last.
use Rattle.std.proofs.Common.{ℕ, List, [], ◌∷◌, refl, sym, subst}
use Rattle.locations.specs.declared.relative.Location.{Location}
use Rattle.operands.specs.declared.weight.Weight.{Weight}
use Rattle.trust_tables.specs.declared.chains.Site.{Site}
use Rattle.trust_tables.specs.Trust.{is_location_of}
use Rattle.xcm_program.specs.declared.instruction.Instruction.{Instruction}
use Rattle.plain_lists.specs.Firsts.{change_first}
use Rattle.channel_parts.specs.declared.cargo.Cargo.{Cargo}
use Rattle.channel_parts.specs.declared.channel.Channel.{Channel}
use Rattle.channel_parts.specs.Channels.{Outgoing, with_waiting}
use Rattle.exec_base.specs.declared.event.Part.{Part}
use Rattle.exec_base.specs.declared.settings.Settings.{Settings}
use Rattle.exec_base.specs.Part.{ChainPart}
use Rattle.exec_rules.specs.Machine.{Machine}
use Rattle.exec_rules.specs.Run.{Stage, begin, next, steps, machine_of}
use Rattle.exec_rules.specs.Instructions.{xcm}
use Rattle.exec_rules.specs.declared.rules.ChainRules.{ChainRules}
use Rattle.exec_rules.specs.HostCalls.{MachineWithGoods, MachineCall, after}
use Rattle.exec_rules.proofs.Lemmas.Footprints.{settings_after, channels_after}
use Rattle.exec_rules.specs.Kept.{IsKeptByCalls}
use Rattle.exec_rules.proofs.Lemmas.KeptLaws.{any_kind, keeps_reached, keeps_executed}
use Rattle.network_steps.specs.Acting.{acted}
use Rattle.law_independence.proofs.Channels.{by_channel}

-- ---- what is looked at
pub record View : Type 0 where
  pub site : Site
  pub channels : List Outgoing

abbrev pub view_of : ChainPart → View
view_of p = record { site = p.site; channels = p.channels }

-- a message put last in the first channel whose other end the location names
abbrev pub with_sent : Location → List Instruction → Cargo → View → View
with_sent dest program cargo v = record v { channels = change_first (by_channel (λ (c : Channel). is_location_of v.site.chain c.to dest)) (with_waiting program cargo) v.channels }

-- ---- a fact that sends keep, a run keeps
module _ (K : View → Type 0) (keeps : (v : View) (dest : Location) (program : List Instruction) (cargo : Cargo) → K v → K (with_sent dest program cargo v)) where
  pub call_kept : (c : MachineCall) (t : MachineWithGoods) → K (view_of t.part) → K (view_of (after c t).part)
  call_kept c t h =
      subst (λ (s : Settings). K (record { site = s.site; channels = (after c t).part.channels })) (sym (settings_after c t))
      (channels_after (λ (cs : List Outgoing). K (record { site = t.part.site; channels = cs })) t (λ dest program cargo k. keeps (view_of t.part) dest program cargo k) c h)

  views_kept : IsKeptByCalls any_kind (λ (t : MachineWithGoods). K (view_of t.part))
  views_kept = record { refunds = tt; called = λ x l is q moment m t c k asks from ok h. call_kept c t h; turned = λ t r turns h. h }

  pub begin_kept : (part : Part) (program : List Instruction) (m : Machine) → K (view_of m.part) → K (view_of (machine_of (begin part program m)).part)
  begin_kept part [] m h = h
  begin_kept part (x ∷ behind) m h = h

  pub steps_kept : (n : ℕ) (g : Stage) → K (view_of (machine_of g).part) → K (view_of (machine_of (steps xcm n g)).part)
  steps_kept n g h = keeps_reached (λ (t : MachineWithGoods). K (view_of t.part)) views_kept g (steps xcm n g) (n, refl) h

  pub next_kept : (g : Stage) → K (view_of (machine_of g).part) → K (view_of (machine_of (next xcm g)).part)
  unfolding steps
  next_kept g h = steps_kept 1 g h

  -- an execution keeps it
  pub acted_kept : (rules : ChainRules) (origin : Location) (credit : Weight) (program : List Instruction) (p : ChainPart) → K (view_of p) → K (view_of (acted rules origin credit program p).part)
  acted_kept rules origin credit program p h = (keeps_executed (λ (t : MachineWithGoods). K (view_of t.part)) views_kept rules origin credit program p h).kept
