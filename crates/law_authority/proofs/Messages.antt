-- A message of one of the seven shapes lowers its origin's account alone, and pools': what doesn't follow ClearOrigin is one instruction.
use Rattle.std.proofs.Common.{◌≡◌, ℕ, zero, suc, ◌+◌, true, List, [], ◌∷◌, Option, Some, None, Result, Ok, Err, ⊎_elim, refl, sym, ap, ◌∙◌, subst}
use Rattle.std.specs.Prelude.{⊤}
use Rattle.chain_ids.specs.declared.chain.ChainId.{ChainId}
use Rattle.locations.specs.declared.relative.Location.{Location}
use Rattle.operands.specs.declared.error.XcmError.{XcmError}
use Rattle.asset_lists.specs.declared.units.Asset.{Asset}
use Rattle.asset_bundles.specs.declared.shipment.Way.{Way}
use Rattle.trust_tables.specs.declared.chains.Site.{Site}
use Rattle.trust_tables.specs.Accounts.{account_of}
use Rattle.xcm_program.specs.declared.instruction.Instruction.{Instruction, roll-Instruction, out-roll-Instruction}
use Rattle.xcm_program.specs.declared.instruction.Instruction.TheOpen.{Instruction-F}
use Rattle.xcm_program.specs.declared.outcome.Outcome.{Outcome}
use Rattle.channel_parts.specs.declared.cargo.Cargo.{Cargo}
use Rattle.channel_parts.specs.declared.cargo.Cargo.TheVariants.{Nothing, Deposit, Away}
use Rattle.exec_base.specs.declared.event.Event.{Event}
use Rattle.exec_base.specs.declared.event.Part.{Part}
use Rattle.exec_base.specs.declared.event.Part.TheVariants.{Program, Appendix}
use Rattle.asset_pools.specs.Spending.{IsSpeaker}
use Rattle.exec_base.specs.Part.{ChainPart}
use Rattle.exec_base.specs.Sending.{led_by, away_program}
use Rattle.exec_base.specs.Host.{told}
use Rattle.exec_rules.specs.Machine.{Machine, machine}
use Rattle.exec_rules.specs.Run.{Stage, At, Ended, begin, go_on, traced, by_answer, steps, machine_of, run, still_to_run, Reaches, Halted, StoppedIn}
use Rattle.exec_rules.proofs.Lemmas.RunLaws.{steps_end}
use Rattle.exec_rules.specs.Outcome.{abandoned, finished, HaltedAtEnd}
use Rattle.exec_rules.specs.Stopping.{leaves_on_oom}
use Rattle.exec_rules.specs.Instructions.{refused, refusal_of, done, xcm}
use Rattle.exec_rules.specs.declared.rules.ChainRules.{ChainRules}
use Rattle.exec_rules.specs.declared.admission.Admitted.{Admitted}
use Rattle.exec_rules.specs.Execution.{first_machine, first_stage, last_machine, executed_by, AbandonedIn}
use Rattle.exec_rules.specs.HostCalls.{between}
use Rattle.exec_rules.proofs.Lemmas.KeptLaws.{any_kind, keeps_reached, go_on_kept}
use Rattle.law_steps.specs.Shapes.{stands_alone, IsAlone, IsLedByClaim, IsShape}
use Rattle.law_authority.specs.Origins.{speaker_at, SpendsOnly}
use Rattle.law_authority.proofs.Lemmas.SpendingLaws.{same_spends, then_spends, none_spends}
use Rattle.law_authority.proofs.Acts.{done_spends, halted_spends, clear_halted}
use Rattle.law_authority.proofs.Runs.{HasNoSpeaker, no_speaker_is_kept, finished_lowers, at_end_lowers, abandoned_lowers}

-- ---- a message at its receiver
module _ (rules : ChainRules) (origin : Location) (p : ChainPart) where
  abbrev may : Option (List ℕ)
  may = account_of origin p.site

  abbrev start : Machine
  start = first_machine rules origin p

  -- where the run is, and whatever is left where memory is refused there
  abbrev Safe : Stage → Type 0
  Safe (At part place x behind m) = SpendsOnly may p m.part × ((left : Machine) → Halted xcm leaves_on_oom x m left → SpendsOnly may p left.part)
  Safe (Ended m) = SpendsOnly may p m.part

  lowers_of : (g : Stage) → Safe g → SpendsOnly may p (machine_of g).part
  lowers_of (At part place x behind m) s = s.0
  lowers_of (Ended m) s = s

  safe_no_speaker : (g : Stage) → HasNoSpeaker may p (between (machine_of g)) → Safe g
  safe_no_speaker (At part place x behind m) q = (
    q.lowers,
    λ left k. then_spends (IsSpeaker may) p m.part left.part q.lowers
        (none_spends may m.part left.part (subst (λ (s : Option (List ℕ)). SpendsOnly s m.part left.part) (ap (speaker_at m.part.site) q.silent) (halted_spends x m left k))),
  )
  safe_no_speaker (Ended m) q = q.lowers

  safe_start : (x : Instruction) (behind : List Instruction) → Safe (At Program 0 x behind start)
  safe_start x behind = (same_spends (IsSpeaker may) p, λ left k. halted_spends x start left k)

  at_end : (n : ℕ) (m : Machine) → SpendsOnly may p m.part → Safe (steps xcm n (Ended m))
  at_end n m h = subst Safe (sym (steps_end xcm n (Ended m) tt)) h

  first_lowers : (x : Instruction) → SpendsOnly may p (xcm.done x start).part
  first_lowers x = done_spends x start

  told_first : (x : Instruction) → SpendsOnly may p (traced Program 0 x None (xcm.done x start)).part
  unfolding told
  told_first x = let first = first_lowers x in record { settings = first.settings; spends = first.spends; burns = first.burns }

  -- after ClearOrigin
  cleared_no_speaker : (m : Machine) → SpendsOnly may p m.part → HasNoSpeaker may p (between (xcm.done (roll-Instruction Instruction-F.ClearOrigin) m))
  cleared_no_speaker m h = subst (λ (l : Instruction-F Instruction). HasNoSpeaker may p (between (done l m))) (sym (out-roll-Instruction Instruction-F.ClearOrigin)) (record { silent = refl; lowers = h })

  told_no_speaker : (m : Machine) (e : Event) → HasNoSpeaker may p (between m) → HasNoSpeaker may p (between (machine m.regs (told m.part e)))
  unfolding told
  told_no_speaker m e h = record { silent = h.silent; lowers = record { settings = h.lowers.settings; spends = h.lowers.spends; burns = h.lowers.burns } }

  after_clear : (n place : ℕ) (behind : List Instruction) (m : Machine) → SpendsOnly may p m.part
      → HasNoSpeaker may p (between (machine_of (steps xcm n (by_answer xcm Program place (roll-Instruction Instruction-F.ClearOrigin) behind m None))))
  after_clear n place behind m h =
      let clear = roll-Instruction Instruction-F.ClearOrigin in
      let no_speaker = told_no_speaker (xcm.done clear m) _ (cleared_no_speaker m h) in
      let g = go_on Program (place + 1) behind (traced Program place clear None (xcm.done clear m)) in
      keeps_reached (HasNoSpeaker may p) (no_speaker_is_kept may p) g (steps xcm n g) (n, refl) (go_on_kept any_kind (HasNoSpeaker may p) (no_speaker_is_kept may p) Program (place + 1) behind (traced Program place clear None (xcm.done clear m)) no_speaker)

  from_clear : (n place : ℕ) (behind : List Instruction) (m : Machine) → SpendsOnly may p m.part → Safe (steps xcm n (At Program place (roll-Instruction Instruction-F.ClearOrigin) behind m))
  unfolding steps
  from_clear zero place behind m h = (h, λ left k. clear_halted may p m h left k)
  from_clear (suc n) place behind m h =
      let free : refusal_of (roll-Instruction Instruction-F.ClearOrigin) m ≡ None = ap (λ (l : Instruction-F Instruction). refused l m) (out-roll-Instruction Instruction-F.ClearOrigin) in
      subst (λ (o : Option XcmError). Safe (steps xcm n (by_answer xcm Program place (roll-Instruction Instruction-F.ClearOrigin) behind m o))) (sym free) (safe_no_speaker (steps xcm n (by_answer xcm Program place (roll-Instruction Instruction-F.ClearOrigin) behind m None)) (after_clear n place behind m h))

  -- the first instruction, refused: no handler and no appendix is there
  refused_first : (n : ℕ) (x : Instruction) (behind : List Instruction) (e : XcmError) → Safe (steps xcm n (by_answer xcm Program 0 x behind start (Some e)))
  unfolding told
  refused_first n x behind e = let same = same_spends (IsSpeaker may) p in at_end n _ (record { settings = same.settings; spends = same.spends; burns = same.burns })

  led_by_answer : (n : ℕ) (x : Instruction) (behind : List Instruction) (o : Option XcmError) → Safe (steps xcm n (by_answer xcm Program 0 x (roll-Instruction Instruction-F.ClearOrigin ∷ behind) start o))
  unfolding told
  led_by_answer n x behind None = from_clear n (0 + 1) behind (traced Program 0 x None (xcm.done x start)) (told_first x)
  led_by_answer n x behind (Some e) = refused_first n x (roll-Instruction Instruction-F.ClearOrigin ∷ behind) e

  led_safe : (n : ℕ) (first : Instruction-F Instruction) (behind : List Instruction) → Safe (steps xcm n (begin Program (led_by first behind) start))
  unfolding steps
  led_safe zero first behind = safe_start (roll-Instruction first) (roll-Instruction Instruction-F.ClearOrigin ∷ behind)
  led_safe (suc n) first behind = led_by_answer n (roll-Instruction first) behind (refusal_of (roll-Instruction first) start)

  -- one instruction alone
  no_appendix : (l : Instruction-F Instruction) → stands_alone l ≡ true → (done l start).regs.appendix ≡ []
  no_appendix (Instruction-F.QueryResponse query answer weight querier) kind = refl
  no_appendix (Instruction-F.NoteUnlockable asset owner) kind = refl
  no_appendix (Instruction-F.UnlockAsset asset target) kind = refl
  no_appendix _ kind = absurd cc

  nothing_kept : (l : Instruction-F Instruction) → stands_alone l ≡ true → (xcm.done (roll-Instruction l) start).regs.appendix ≡ []
  nothing_kept l kind = ap (λ (k : Instruction-F Instruction). (done k start).regs.appendix) (out-roll-Instruction l) ∙ no_appendix l kind

  none_safe : (n : ℕ) (part : Part) (program : List Instruction) (m : Machine) → program ≡ [] → SpendsOnly may p m.part → Safe (steps xcm n (begin part program m))
  none_safe n part [] m e h = at_end n m h
  none_safe n part (x ∷ behind) m e h = absurd cc

  alone_by_answer : (n : ℕ) (l : Instruction-F Instruction) (o : Option XcmError) → stands_alone l ≡ true → Safe (steps xcm n (by_answer xcm Program 0 (roll-Instruction l) [] start o))
  unfolding told
  alone_by_answer n l None kind = none_safe n Appendix (xcm.done (roll-Instruction l) start).regs.appendix _ (nothing_kept l kind) (told_first (roll-Instruction l))
  alone_by_answer n l (Some e) kind = refused_first n (roll-Instruction l) [] e

  alone_safe : (n : ℕ) (l : Instruction-F Instruction) → stands_alone l ≡ true → Safe (steps xcm n (begin Program (roll-Instruction l ∷ []) start))
  unfolding steps
  alone_safe zero l kind = safe_start (roll-Instruction l) []
  alone_safe (suc n) l kind = alone_by_answer n l (refusal_of (roll-Instruction l) start) kind

  -- ---- the seven shapes
  away_safe : (n : ℕ) (way : Way) (list : List Asset) (behind : List Instruction) → Safe (steps xcm n (begin Program (away_program way list behind) start))
  away_safe n Way.Withdrawal list behind = led_safe n (Instruction-F.WithdrawAsset list) behind
  away_safe n Way.Teleport list behind = led_safe n (Instruction-F.ReceiveTeleportedAsset list) behind

  abbrev Begun : ℕ → List Instruction → Type 0
  Begun n program = Safe (steps xcm n (begin Program program start))

  shape_safe : (n : ℕ) (here : Site) (there : ChainId) (program : List Instruction) (cargo : Cargo) → IsShape here there program cargo → Begun n program
  shape_safe n here there program (Deposit list) s = subst (Begun n) (sym s.is) (led_safe n (Instruction-F.ReserveAssetDeposited s.list) s.behind)
  shape_safe n here there program (Away shipment) s = subst (Begun n) (sym s.is) (away_safe n shipment.way s.list s.behind)
  shape_safe n here there program Nothing s =
      ⊎_elim (λ (a : IsAlone program). subst (Begun n) (sym a.is) (alone_safe n a.what a.kind))
      (λ (c : IsLedByClaim program). subst (Begun n) (sym c.is) (led_safe n (Instruction-F.ClaimAsset c.list c.ticket) c.behind)) s

  safe_at : (here : Site) (there : ChainId) (cargo : Cargo) (a : Admitted) (g : Stage) → IsShape here there a.program cargo → Reaches xcm (first_stage rules origin a p) g → Safe g
  safe_at here there cargo a g shape r = subst Safe r.1 (shape_safe r.0 here there a.program cargo shape)

  pub message_lowers : (here : Site) (there : ChainId) (cargo : Cargo) (r : Result Admitted Outcome) → ((a : Admitted) → r ≡ Ok a → IsShape here there a.program cargo) → SpendsOnly may p (executed_by rules origin r p).1
  message_lowers here there cargo (Err outcome) shape = same_spends (IsSpeaker may) p
  message_lowers here there cargo (Ok a) shape =
      let last = last_machine rules origin a p in
      let ran = safe_at here there cargo a (run xcm (first_stage rules origin a p)) (shape a refl) (still_to_run (first_stage rules origin a p), refl) in
      then_spends (IsSpeaker may) p last.part (finished xcm last) (lowers_of (run xcm (first_stage rules origin a p)) ran) (finished_lowers may last)

  pub message_stopped : (here : Site) (there : ChainId) (cargo : Cargo) (a : Admitted) (now : ChainPart) → IsShape here there a.program cargo → AbandonedIn rules origin a p now → SpendsOnly may p now
  message_stopped here there cargo a now shape h =
      ⊎_elim
      (λ (k : (stopped : Machine) × StoppedIn xcm leaves_on_oom (first_stage rules origin a p) stopped × (now ≡ abandoned stopped.regs stopped.part)).
      abandoned_lowers may p k.0 now k.2 ((safe_at here there cargo a (At k.1.part k.1.place k.1.which k.1.behind k.1.before) shape k.1.reached).1 k.0 k.1.halted))
      (λ (e : HaltedAtEnd xcm leaves_on_oom (last_machine rules origin a p) now).
      let last = last_machine rules origin a p in
      let ran = safe_at here there cargo a (run xcm (first_stage rules origin a p)) shape (still_to_run (first_stage rules origin a p), refl) in
      then_spends (IsSpeaker may) p last.part now (lowers_of (run xcm (first_stage rules origin a p)) ran) (at_end_lowers may last now e)) h

  -- ---- once two instructions were taken, the origin register is empty wherever the run is
  abbrev Silent : Stage → Type 0
  Silent (At part place x behind m) = m.regs.origin ≡ None
  Silent (Ended m) = ⊤

  silent_no_speaker : (g : Stage) → HasNoSpeaker may p (between (machine_of g)) → Silent g
  silent_no_speaker (At part place x behind m) q = q.silent
  silent_no_speaker (Ended m) q = tt

  silent_end : (n : ℕ) (m : Machine) → Silent (steps xcm n (Ended m))
  silent_end n m = subst Silent (sym (steps_end xcm n (Ended m) tt)) tt

  silent_clear : (n place : ℕ) (behind : List Instruction) (m : Machine) → SpendsOnly may p m.part → Silent (steps xcm (suc n) (At Program place (roll-Instruction Instruction-F.ClearOrigin) behind m))
  unfolding steps
  silent_clear n place behind m h =
      let free : refusal_of (roll-Instruction Instruction-F.ClearOrigin) m ≡ None = ap (λ (l : Instruction-F Instruction). refused l m) (out-roll-Instruction Instruction-F.ClearOrigin) in
      subst (λ (o : Option XcmError). Silent (steps xcm n (by_answer xcm Program place (roll-Instruction Instruction-F.ClearOrigin) behind m o))) (sym free)
      (silent_no_speaker (steps xcm n (by_answer xcm Program place (roll-Instruction Instruction-F.ClearOrigin) behind m None)) (after_clear n place behind m h))

  silent_by_answer : (n : ℕ) (x : Instruction) (behind : List Instruction) (o : Option XcmError) → Silent (steps xcm (suc n) (by_answer xcm Program 0 x (roll-Instruction Instruction-F.ClearOrigin ∷ behind) start o))
  unfolding told
  silent_by_answer n x behind None = silent_clear n (0 + 1) behind (traced Program 0 x None (xcm.done x start)) (told_first x)
  silent_by_answer n x behind (Some e) = silent_end (suc n) _

  led_silent : (n : ℕ) (first : Instruction-F Instruction) (behind : List Instruction) → Silent (steps xcm (suc (suc n)) (begin Program (led_by first behind) start))
  unfolding steps
  led_silent n first behind = silent_by_answer n (roll-Instruction first) behind (refusal_of (roll-Instruction first) start)

  none_silent : (n : ℕ) (part : Part) (program : List Instruction) (m : Machine) → program ≡ [] → Silent (steps xcm n (begin part program m))
  none_silent n part [] m e = silent_end n m
  none_silent n part (x ∷ behind) m e = absurd cc

  alone_silent_by : (n : ℕ) (l : Instruction-F Instruction) (o : Option XcmError) → stands_alone l ≡ true → Silent (steps xcm n (by_answer xcm Program 0 (roll-Instruction l) [] start o))
  alone_silent_by n l None kind = none_silent n Appendix (xcm.done (roll-Instruction l) start).regs.appendix _ (nothing_kept l kind)
  alone_silent_by n l (Some e) kind = silent_end n _

  alone_silent : (n : ℕ) (l : Instruction-F Instruction) → stands_alone l ≡ true → Silent (steps xcm (suc n) (begin Program (roll-Instruction l ∷ []) start))
  unfolding steps
  alone_silent n l kind = alone_silent_by n l (refusal_of (roll-Instruction l) start) kind

  away_silent : (n : ℕ) (way : Way) (list : List Asset) (behind : List Instruction) → Silent (steps xcm (suc (suc n)) (begin Program (away_program way list behind) start))
  away_silent n Way.Withdrawal list behind = led_silent n (Instruction-F.WithdrawAsset list) behind
  away_silent n Way.Teleport list behind = led_silent n (Instruction-F.ReceiveTeleportedAsset list) behind

  abbrev Went : ℕ → List Instruction → Type 0
  Went n program = Silent (steps xcm (suc (suc n)) (begin Program program start))

  shape_silent : (n : ℕ) (here : Site) (there : ChainId) (program : List Instruction) (cargo : Cargo) → IsShape here there program cargo → Went n program
  shape_silent n here there program (Deposit list) s = subst (Went n) (sym s.is) (led_silent n (Instruction-F.ReserveAssetDeposited s.list) s.behind)
  shape_silent n here there program (Away shipment) s = subst (Went n) (sym s.is) (away_silent n shipment.way s.list s.behind)
  shape_silent n here there program Nothing s =
      ⊎_elim (λ (a : IsAlone program). subst (Went n) (sym a.is) (alone_silent (suc n) a.what a.kind))
      (λ (c : IsLedByClaim program). subst (Went n) (sym c.is) (led_silent n (Instruction-F.ClaimAsset c.list c.ticket) c.behind)) s

  pub cleared : (here : Site) (there : ChainId) (cargo : Cargo) (a : Admitted) (n : ℕ) (part : Part) (place : ℕ) (x : Instruction) (behind : List Instruction) (m : Machine) → IsShape here there a.program cargo
      → steps xcm (suc (suc n)) (first_stage rules origin a p) ≡ At part place x behind m → m.regs.origin ≡ None
  cleared here there cargo a n part place x behind m shape e = subst Silent e (shape_silent n here there a.program cargo shape)
