-- Lemmas: a call that takes a teleport in ends its cargo. A reader may skip this file.
use Rattle.std.proofs.Common.{◌≡◌, ℕ, Bool, true, List, ◌∷◌, None, refl, ap, ◌∙◌}
use Rattle.std.specs.Prelude.{if◌then◌else◌}
use Rattle.amounts.specs.Amounts.{empty}
use Rattle.locations.specs.declared.relative.Location.{Location}
use Rattle.asset_lists.specs.declared.units.Asset.{Asset}
use Rattle.asset_bundles.specs.Bundles.{bundle_of}
use Rattle.xcm_program.specs.declared.instruction.Instruction.{Instruction, roll-Instruction, out-roll-Instruction}
use Rattle.xcm_program.specs.declared.instruction.Instruction.TheOpen.{Instruction-F}
use Rattle.channel_parts.specs.declared.cargo.Cargo.TheVariants as cargos
use Rattle.exec_base.specs.declared.event.Part.{Part}
use Rattle.exec_base.specs.declared.event.Part.TheVariants as parts
use Rattle.exec_base.specs.Host.{ByTeleport, is_cargo, cargo_after, received, told}
use Rattle.exec_base.specs.Part.{DeliveredCargo, ChainPart}
use Rattle.exec_base.specs.Sending.{led_by}
use Rattle.exec_rules.specs.Machine.{Machine}
use Rattle.exec_rules.specs.Run.{Stage, begin, traced, by_answer, steps, machine_of, GoesOnTo}
use Rattle.exec_rules.specs.Instructions.{refused, done, refusal_of, xcm}
use Rattle.exec_rules.specs.declared.rules.ChainRules.{ChainRules}
use Rattle.exec_rules.specs.declared.admission.Admitted.{Admitted}
use Rattle.exec_rules.specs.Execution.{first_machine, first_stage}
use Rattle.law_steps.proofs.Lemmas.Firsts.{joined_cargo}

taken_cargo : (p : ChainPart) (list : List Asset) → is_cargo p ByTeleport list ≡ true → (received p list true).cargo.cargo ≡ cargos.Nothing
unfolding received cargo_after
taken_cargo p list found = ap (λ (b : Bool). (if b then (let r : DeliveredCargo = record { sender = p.cargo.sender; cargo = cargos.Nothing } in r) else p.cargo).cargo) found

told_of : (part : Part) (place : ℕ) (x : Instruction) (m : Machine) → (traced part place x None m).part.cargo.cargo ≡ m.part.cargo.cargo
unfolding told
told_of part place x m = refl

module _ (rules : ChainRules) (origin : Location) (p : ChainPart) (list : List Asset) (accepted : refused (Instruction-F.ReceiveTeleportedAsset list) (first_machine rules origin p) ≡ None) (found : is_cargo p ByTeleport list ≡ true) where
  abbrev call : Instruction
  call = roll-Instruction (Instruction-F.ReceiveTeleportedAsset list)

  way : refusal_of (roll-Instruction (Instruction-F.ReceiveTeleportedAsset list)) (first_machine rules origin p) ≡ None
  way = ap (λ (l : Instruction-F Instruction). refused l (first_machine rules origin p)) (out-roll-Instruction (Instruction-F.ReceiveTeleportedAsset list)) ∙ accepted

  -- where the run is after it
  abbrev behind_call : List Instruction → Stage
  behind_call behind = by_answer xcm parts.Program 0 call (roll-Instruction Instruction-F.ClearOrigin ∷ behind) (first_machine rules origin p) None

  goes_on : (a : Admitted) (behind : List Instruction) → a.program ≡ led_by (Instruction-F.ReceiveTeleportedAsset list) behind → GoesOnTo xcm (first_stage rules origin a p) (behind_call behind)
  unfolding steps
  goes_on a behind is = (
    0,
    ap (λ (program : List Instruction). steps xcm 1 (begin parts.Program program (first_machine rules origin p))) is
        ∙ ap (by_answer xcm parts.Program 0 call (roll-Instruction Instruction-F.ClearOrigin ∷ behind) (first_machine rules origin p)) way,
  )

  cargo_gone : (behind : List Instruction) → (machine_of (behind_call behind)).part.cargo.cargo ≡ cargos.Nothing
  cargo_gone behind =
      told_of parts.Program 0 call (xcm.done call (first_machine rules origin p))
      ∙ ap (λ (l : Instruction-F Instruction). (done l (first_machine rules origin p)).part.cargo.cargo) (out-roll-Instruction (Instruction-F.ReceiveTeleportedAsset list))
      ∙ ap (λ (t : DeliveredCargo). t.cargo) (joined_cargo (received p list true) empty (bundle_of list))
      ∙ taken_cargo p list found

  -- the run comes to where the cargo is gone
  pub cargo_ends : (a : Admitted) (behind : List Instruction) → a.program ≡ led_by (Instruction-F.ReceiveTeleportedAsset list) behind → (g : Stage) × GoesOnTo xcm (first_stage rules origin a p) g × ((machine_of g).part.cargo.cargo ≡ cargos.Nothing)
  cargo_ends a behind is = (behind_call behind, goes_on a behind is, cargo_gone behind)
