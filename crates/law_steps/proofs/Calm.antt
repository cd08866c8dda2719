-- In a run of one of the seven messages no instruction that tells another chain of a lock has an origin: what doesn't follow ClearOrigin is no
-- such instruction.
use Rattle.std.proofs.Common.{◌≡◌, ◌⊎◌, ℕ, zero, suc, ◌+◌, true, List, [], ◌∷◌, Option, Some, None, ⊎_elim, refl, sym, ap, ◌∙◌, subst}
use Rattle.chain_ids.specs.declared.chain.ChainId.{ChainId}
use Rattle.locations.specs.declared.grammar.Junction.{Junction}
use Rattle.locations.specs.declared.relative.Location.{Location}
use Rattle.operands.specs.declared.error.XcmError.{XcmError}
use Rattle.asset_lists.specs.declared.units.Asset.{Asset}
use Rattle.asset_bundles.specs.declared.shipment.Way.{Way}
use Rattle.trust_tables.specs.declared.chains.Site.{Site}
use Rattle.xcm_program.specs.declared.instruction.Instruction.{Instruction, out-Instruction, roll-Instruction, out-roll-Instruction}
use Rattle.xcm_program.specs.declared.instruction.Instruction.TheOpen.{Instruction-F}
use Rattle.channel_parts.specs.declared.cargo.Cargo.{Cargo}
use Rattle.channel_parts.specs.declared.cargo.Cargo.TheVariants.{Nothing, Deposit, Away}
use Rattle.exec_base.specs.declared.event.Part.{Part}
use Rattle.exec_base.specs.declared.event.Part.TheVariants.{Program, Appendix}
use Rattle.exec_base.specs.Part.{ChainPart}
use Rattle.exec_base.specs.Sending.{led_by, away_program}
use Rattle.exec_base.specs.Host.{told}
use Rattle.exec_rules.specs.Machine.{Machine}
use Rattle.exec_rules.specs.Run.{Stage, At, Ended, begin, go_on, traced, by_answer, steps, machine_of}
use Rattle.exec_rules.proofs.Lemmas.RunLaws.{steps_end}
use Rattle.exec_rules.specs.Origins.{descended}
use Rattle.exec_rules.specs.Instructions.{refused, refusal_of, done, xcm}
use Rattle.exec_rules.specs.declared.rules.ChainRules.{ChainRules}
use Rattle.exec_rules.specs.Execution.{first_machine}
use Rattle.exec_rules.specs.HostCalls.{MachineWithGoods, MachineCall, after}
use Rattle.exec_rules.specs.Reasons.{TurnsOrigin}
use Rattle.exec_rules.specs.Kept.{IsKeptByCalls}
use Rattle.exec_rules.proofs.Lemmas.KeptLaws.{any_kind, keeps_reached, go_on_kept}
use Rattle.law_steps.specs.Shapes.{stands_alone, IsAlone, IsLedByClaim, IsShape}
use Rattle.law_steps.specs.Calm.{IsMute, MuteAt}

-- ---- where an instruction that tells of a lock is refused
silent_mute : (l : Instruction-F Instruction) (m : Machine) → m.regs.origin ≡ None → IsMute l m
silent_mute (Instruction-F.LockAsset asset unlocker) m silent = silent
silent_mute (Instruction-F.RequestUnlock asset locker) m silent = silent
silent_mute l m silent = tt

silent_at : (g : Stage) → (machine_of g).regs.origin ≡ None → MuteAt g
silent_at (At part place x behind m) silent = silent_mute (out-Instruction x) m silent
silent_at (Ended m) silent = tt

rolled : (l : Instruction-F Instruction) (m : Machine) → IsMute l m → IsMute (out-Instruction (roll-Instruction l)) m
rolled l m mute = subst (λ (k : Instruction-F Instruction). IsMute k m) (sym (out-roll-Instruction l)) mute

alone_is_mute : (l : Instruction-F Instruction) (m : Machine) → stands_alone l ≡ true → IsMute l m
alone_is_mute (Instruction-F.LockAsset asset unlocker) m kind = absurd cc
alone_is_mute (Instruction-F.RequestUnlock asset locker) m kind = absurd cc
alone_is_mute l m kind = tt

-- ---- an origin register that is empty stays so
abbrev Silent : MachineWithGoods → Type 0
Silent t = t.regs.origin ≡ None

silent_turned : (old new : Option Location) → TurnsOrigin old new → old ≡ None → new ≡ None
silent_turned old new turns h =
    ⊎_elim (λ (e : new ≡ old). e ∙ h)
    (λ (rest : (new ≡ None) ⊎ ((who : Location) × (path : List Junction) × (old ≡ Some who) × (new ≡ Some (descended who path)))).
    ⊎_elim (λ (e : new ≡ None). e)
    (λ (d : (who : Location) × (path : List Junction) × (old ≡ Some who) × (new ≡ Some (descended who path))). absurd (let no_way : None ≡ Some d.0 = sym h ∙ d.2 in cc)) rest) turns

silent_called : (c : MachineCall) (t : MachineWithGoods) → Silent t → Silent (after c t)
silent_called (MachineCall.Take filter) t h = h
silent_called _ t h = h

silence_is_kept : IsKeptByCalls any_kind Silent
silence_is_kept = record {
  refunds = tt;
  called = λ x l is q over m t c k asks from ok h. silent_called c t h;
  turned = λ t r turns h. silent_turned t.regs.origin r.origin turns.origin h;
}

module _ (rules : ChainRules) (origin : Location) (p : ChainPart) where
  abbrev start : Machine
  start = first_machine rules origin p

  ended_mute : (n : ℕ) (m : Machine) → MuteAt (steps xcm n (Ended m))
  ended_mute n m = subst MuteAt (sym (steps_end xcm n (Ended m) tt)) tt

  none_mute : (n : ℕ) (part : Part) (program : List Instruction) (m : Machine) → program ≡ [] → MuteAt (steps xcm n (begin part program m))
  none_mute n part [] m e = ended_mute n m
  none_mute n part (x ∷ behind) m e = absurd cc

  -- after ClearOrigin
  cleared : (m : Machine) → (xcm.done (roll-Instruction Instruction-F.ClearOrigin) m).regs.origin ≡ None
  cleared m = ap (λ (l : Instruction-F Instruction). (done l m).regs.origin) (out-roll-Instruction Instruction-F.ClearOrigin)

  after_clear : (n place : ℕ) (behind : List Instruction) (m : Machine) → (machine_of (steps xcm n (by_answer xcm Program place (roll-Instruction Instruction-F.ClearOrigin) behind m None))).regs.origin ≡ None
  unfolding told
  after_clear n place behind m =
      let clear = roll-Instruction Instruction-F.ClearOrigin in
      let n' = traced Program place clear None (xcm.done clear m) in
      let g = go_on Program (place + 1) behind n' in
      keeps_reached Silent silence_is_kept g (steps xcm n g) (n, refl) (go_on_kept any_kind Silent silence_is_kept Program (place + 1) behind n' (cleared m))

  from_clear : (n place : ℕ) (behind : List Instruction) (m : Machine) → MuteAt (steps xcm n (At Program place (roll-Instruction Instruction-F.ClearOrigin) behind m))
  unfolding steps
  from_clear zero place behind m = rolled Instruction-F.ClearOrigin m tt
  from_clear (suc n) place behind m =
      let free : refusal_of (roll-Instruction Instruction-F.ClearOrigin) m ≡ None = ap (λ (l : Instruction-F Instruction). refused l m) (out-roll-Instruction Instruction-F.ClearOrigin) in
      subst (λ (o : Option XcmError). MuteAt (steps xcm n (by_answer xcm Program place (roll-Instruction Instruction-F.ClearOrigin) behind m o))) (sym free)
      (silent_at (steps xcm n (by_answer xcm Program place (roll-Instruction Instruction-F.ClearOrigin) behind m None)) (after_clear n place behind m))

  -- the first instruction
  led_by_answer : (n : ℕ) (x : Instruction) (behind : List Instruction) (o : Option XcmError) → MuteAt (steps xcm n (by_answer xcm Program 0 x (roll-Instruction Instruction-F.ClearOrigin ∷ behind) start o))
  unfolding told
  led_by_answer n x behind None = from_clear n (0 + 1) behind (traced Program 0 x None (xcm.done x start))
  led_by_answer n x behind (Some e) = ended_mute n _

  led_mute : (n : ℕ) (first : Instruction-F Instruction) (behind : List Instruction) → IsMute first start → MuteAt (steps xcm n (begin Program (led_by first behind) start))
  unfolding steps
  led_mute zero first behind mute = rolled first start mute
  led_mute (suc n) first behind mute = led_by_answer n (roll-Instruction first) behind (refusal_of (roll-Instruction first) start)

  no_appendix : (l : Instruction-F Instruction) → stands_alone l ≡ true → (done l start).regs.appendix ≡ []
  no_appendix (Instruction-F.QueryResponse query answer weight querier) kind = refl
  no_appendix (Instruction-F.NoteUnlockable asset owner) kind = refl
  no_appendix (Instruction-F.UnlockAsset asset target) kind = refl
  no_appendix _ kind = absurd cc

  alone_by_answer : (n : ℕ) (l : Instruction-F Instruction) (o : Option XcmError) → stands_alone l ≡ true → MuteAt (steps xcm n (by_answer xcm Program 0 (roll-Instruction l) [] start o))
  unfolding told
  alone_by_answer n l None kind =
      let none : (xcm.done (roll-Instruction l) start).regs.appendix ≡ [] = ap (λ (k : Instruction-F Instruction). (done k start).regs.appendix) (out-roll-Instruction l) ∙ no_appendix l kind in
      none_mute n Appendix (xcm.done (roll-Instruction l) start).regs.appendix _ none
  alone_by_answer n l (Some e) kind = ended_mute n _

  alone_mute : (n : ℕ) (l : Instruction-F Instruction) → stands_alone l ≡ true → MuteAt (steps xcm n (begin Program (roll-Instruction l ∷ []) start))
  unfolding steps
  alone_mute zero l kind = rolled l start (alone_is_mute l start kind)
  alone_mute (suc n) l kind = alone_by_answer n l (refusal_of (roll-Instruction l) start) kind

  -- ---- the seven shapes
  away_mute : (n : ℕ) (way : Way) (list : List Asset) (behind : List Instruction) → MuteAt (steps xcm n (begin Program (away_program way list behind) start))
  away_mute n Way.Withdrawal list behind = led_mute n (Instruction-F.WithdrawAsset list) behind tt
  away_mute n Way.Teleport list behind = led_mute n (Instruction-F.ReceiveTeleportedAsset list) behind tt

  abbrev Begun : ℕ → List Instruction → Type 0
  Begun n program = MuteAt (steps xcm n (begin Program program start))

  pub shape_mute : (here : Site) (there : ChainId) (program : List Instruction) (cargo : Cargo) → IsShape here there program cargo → (n : ℕ) → MuteAt (steps xcm n (begin Program program start))
  shape_mute here there program (Deposit list) s n = subst (Begun n) (sym s.is) (led_mute n (Instruction-F.ReserveAssetDeposited s.list) s.behind tt)
  shape_mute here there program (Away shipment) s n = subst (Begun n) (sym s.is) (away_mute n shipment.way s.list s.behind)
  shape_mute here there program Nothing s n =
      ⊎_elim (λ (a : IsAlone program). subst (Begun n) (sym a.is) (alone_mute n a.what a.kind))
      (λ (c : IsLedByClaim program). subst (Begun n) (sym c.is) (led_mute n (Instruction-F.ClaimAsset c.list c.ticket) c.behind tt)) s
