-- Lemmas: a local execution burns no excess. A reader may skip this file.
use Rattle.std.proofs.Common.{◌≡◌, ℕ, ◌≤◌, false, List, [], Some, Result, Ok, Err, refl, sym, subst}
use Rattle.std.specs.Prelude.{slice_get}
use Rattle.amounts.specs.Amounts.{empty}
use Rattle.asset_lists.specs.declared.units.Instance.{Instance}
use Rattle.xcm_program.specs.declared.instruction.Instruction.{Instruction}
use Rattle.xcm_program.specs.declared.outcome.Outcome.{Outcome}
use Rattle.channel_parts.specs.declared.cargo.Cargo.TheVariants as cargos
use Rattle.exec_base.specs.declared.event.Part.TheVariants as parts
use Rattle.exec_base.specs.Part.{ChainPart}
use Rattle.exec_rules.specs.Machine.{Machine}
use Rattle.exec_rules.specs.Run.{run, still_to_run, machine_of}
use Rattle.exec_rules.proofs.Lemmas.KeepingLaws.{begin_machine}
use Rattle.exec_rules.specs.Instructions.{xcm}
use Rattle.exec_rules.specs.declared.admission.Admitted.{Admitted}
use Rattle.exec_rules.specs.Admission.{admitted}
use Rattle.exec_rules.specs.Execution.{first_machine, first_stage, last_machine, executed_by, IsAbandoned}
use Rattle.network_steps.specs.Worlds as networks
use Rattle.network_steps.specs.Worlds.{Member, chain_of}
use Rattle.network_steps.specs.Acting.{begun, caller}
use Rattle.network_steps.specs.Steps.{is_sovereign}
use Rattle.law_coherence.specs.UniversalAssets.{UniversalAsset, just}
use Rattle.law_coherence.specs.Networks.{IsIn, Agrees}
use Rattle.law_coherence.specs.Parts.{WorldView, population}
use Rattle.law_coherence.specs.Steps.{tables_of}
use Rattle.law_coherence.proofs.Lemmas.Steps.{table_at}
use Rattle.law_runs.specs.Views.{table_of, seen}
use Rattle.law_runs.specs.Sums.{none, HasRoom}
use Rattle.law_runs.specs.Safety.{IsRunnable}
use Rattle.law_runs.specs.Accepted.{IsCaller}
use Rattle.law_runs.specs.Runs.{IsSafeAt}
use Rattle.law_steps.specs.Views.{views}
use Rattle.law_steps.specs.Soundness.{IsSoundPart, LawsBelow}
use Rattle.law_steps.proofs.Lemmas.Admitting.{admitted_lists}
use Rattle.law_steps.proofs.Lemmas.Locals.{begun_sound, nothing_listed, no_ahead, begins}
use Rattle.law_steps.specs.Bounds.{IsSoundGenesis}
use Rattle.law_steps.proofs.Lemmas.Bounds.{agrees_now}
use Rattle.law_steps.specs.Reading.{Decodes}
use Rattle.law_steps.proofs.Lemmas.Reading.{not_sovereign}
use Rattle.law_steps.proofs.Lemmas.Worlds.{IsReached}
use Rattle.law_steps.specs.Stepping.{ShapeLaws}
use Rattle.law_steps.proofs.Lemmas.Stepping.{seen_at, own_room, begun_room, kept_by}
use Rattle.law_nets.proofs.Fitting.{FitsBundle, kept_fits, fits_all}
use Rattle.law_nets.proofs.Calls.{BurnsNoExcess, same_burns}
use Rattle.law_nets.proofs.Stages.{StandsAll, stands_on, end_no_excess, abandoned_in_no_excess}

module _ (laws : LawsBelow) (shapes : ShapeLaws) (decodes : Decodes) (first : WorldView) (genesis : IsSoundGenesis first) (once : (a : UniversalAsset) (instance : Instance) → population a (just (Some instance)) first ≤ 1)
    (w : networks.World) (reached : IsReached first w) (k : ℕ) (m : Member) (at : slice_get w k ≡ Some m) (account : List ℕ) (own : is_sovereign account ≡ false) (program : List Instruction) (runs : IsRunnable program) where
  abbrev p0 : ChainPart
  p0 = begun (chain_of m) cargos.Nothing m.part

  agrees : Agrees (tables_of (views w))
  agrees = agrees_now first genesis (views w) reached.history

  there : IsIn (tables_of (views w)) (table_of p0)
  there = (k, table_at (views w) k (seen empty m.part) (seen_at w k m at))

  is_caller : IsCaller (caller account)
  is_caller = record { account = account; rest = []; is = refl; own = not_sovereign account own }

  sound : IsSoundPart p0
  sound = begun_sound (chain_of m) m.part (reached.parts k m at)

  room : HasRoom none p0
  room = begun_room laws shapes decodes first genesis w reached (chain_of m) m.part (own_room laws shapes decodes first genesis w reached k m at)

  begins_safe : IsSafeAt (tables_of (views w)) (first_machine m.rules (caller account) p0)
  begins_safe = begins laws (tables_of (views w)) agrees m.rules (caller account) is_caller p0 there sound room

  begins_fit : FitsBundle (first_machine m.rules (caller account) p0)
  begins_fit =
      let m0 = first_machine m.rules (caller account) p0 in
      fits_all m0 (kept_fits first (views w) (kept_by first genesis once (views w) reached.history) k m0 (seen_at w k m at)) (nothing_listed p0 sound.listed empty refl)

  -- wherever its run is
  pub execution_stands : (a : Admitted) → admitted m.rules (caller account) m.rules.limit (begun (chain_of m) cargos.Nothing m.part).queries program ≡ Ok a
      → StandsAll (begun (chain_of m) cargos.Nothing m.part) (first_stage m.rules (caller account) a (begun (chain_of m) cargos.Nothing m.part))
  execution_stands a e =
      let n = tables_of (views w) in
      let g = first_stage m.rules (caller account) a p0 in
      let m0 = first_machine m.rules (caller account) p0 in
      let begin_is : m0 ≡ machine_of g = sym (begin_machine parts.Program a.program m0) in
      let balanced = laws.balances m.rules (caller account) a p0 (laws.weighs m.rules (caller account) m.rules.limit p0.queries program a runs.few e) in
      let ahead = no_ahead a.program m0 refl refl (admitted_lists m.rules (caller account) m.rules.limit p0.queries program runs.lists a e) in
      stands_on laws n agrees p0 a.weight g balanced ahead (subst (IsSafeAt n) begin_is begins_safe) (subst FitsBundle begin_is begins_fit)
      (subst (λ (z : Machine). BurnsNoExcess p0 z.part) begin_is (same_burns p0 p0 refl))

  by_admission : (answer : Result Admitted Outcome) → admitted m.rules (caller account) m.rules.limit p0.queries program ≡ answer → BurnsNoExcess p0 (executed_by m.rules (caller account) answer p0).1
  by_admission (Err outcome) e = same_burns p0 p0 refl
  by_admission (Ok a) e =
      let g = first_stage m.rules (caller account) a p0 in
      end_no_excess laws (tables_of (views w)) agrees p0 (last_machine m.rules (caller account) a p0) (execution_stands a e (run xcm g) (still_to_run g, refl)).0

  -- the chain's part after it
  pub execution_no_excess : BurnsNoExcess (begun (chain_of m) cargos.Nothing m.part) (executed_by m.rules (caller account) (admitted m.rules (caller account) m.rules.limit (begun (chain_of m) cargos.Nothing m.part).queries program) (begun (chain_of m) cargos.Nothing m.part)).1
  execution_no_excess = by_admission (admitted m.rules (caller account) m.rules.limit p0.queries program) refl

  -- and where memory was refused
  pub stopped_execution_no_excess : (q : ChainPart) → IsAbandoned m.rules (caller account) m.rules.limit program (begun (chain_of m) cargos.Nothing m.part) q → BurnsNoExcess (begun (chain_of m) cargos.Nothing m.part) q
  stopped_execution_no_excess q h = abandoned_in_no_excess laws (tables_of (views w)) agrees m.rules (caller account) h.0 p0 (execution_stands h.0 h.1) q h.2
