-- Lemmas: inside a local execution, and where memory was refused to it. A reader may skip this file.
use Rattle.std.proofs.Common.{◌≡◌, ⊎_elim, ℕ, zero, suc, List, [], ◌∷◌, Some, Ok, refl, sym, subst}
use Rattle.std.specs.Prelude.{slice_get, slice_set}
use Rattle.std.specs.List.{AllByRecursion}
use Rattle.amounts.specs.Amounts.{empty}
use Rattle.locations.specs.declared.relative.Location.{Location}
use Rattle.xcm_program.specs.declared.instruction.Instruction.{Instruction}
use Rattle.weight_trader.specs.Purchases.{no_weight}
use Rattle.exec_base.specs.declared.event.Part.TheVariants as parts
use Rattle.exec_base.specs.Part.{ChainPart}
use Rattle.exec_rules.specs.Machine.{Machine}
use Rattle.exec_rules.specs.Run.{Stage, At, run, still_to_run, machine_of, Reaches, GoesOnTo, StoppedIn}
use Rattle.exec_rules.specs.Accounts.{IsBalanced}
use Rattle.exec_rules.specs.Keeping.{IsAheadOf}
use Rattle.exec_rules.proofs.Lemmas.KeepingLaws.{begin_machine, reached_hold, reached_keeps}
use Rattle.exec_rules.specs.Outcome.{abandoned, HaltedAtEnd}
use Rattle.exec_rules.specs.Instructions.{xcm}
use Rattle.exec_rules.specs.Stopping.{leaves_on_oom}
use Rattle.exec_rules.specs.declared.rules.ChainRules.{ChainRules}
use Rattle.exec_rules.specs.declared.admission.Admitted.{Admitted}
use Rattle.exec_rules.specs.Admission.{admitted}
use Rattle.exec_rules.specs.Execution.{first_machine, first_stage, last_machine, AbandonedIn, IsAbandoned}
use Rattle.network_steps.specs.Worlds as networks
use Rattle.network_steps.specs.Worlds.{chain_of}
use Rattle.network_steps.specs.Acting.{begun, caller}
use Rattle.network_steps.specs.Steps.{name_at, Link, Step, worlds}
use Rattle.channel_parts.specs.declared.cargo.Cargo.TheVariants as cargos
use Rattle.law_coherence.specs.Networks.{Table, IsIn, Agrees}
use Rattle.law_coherence.specs.Parts as sums
use Rattle.law_coherence.specs.Steps.{tables_of, IsSafe}
use Rattle.law_coherence.proofs.Lemmas.Steps.{table_at}
use Rattle.law_coherence.specs.Histories.{One}
use Rattle.law_coherence.specs.Headline.{IsKept}
use Rattle.law_runs.specs.Views.{table_of, seen, view}
use Rattle.law_runs.specs.Sums.{none, HasRoom}
use Rattle.law_runs.specs.Safety.{AreLists, IsRunnable, Safely}
use Rattle.law_runs.proofs.Lemmas.Safety.{safely_then}
use Rattle.law_runs.specs.Accepted.{IsCaller}
use Rattle.law_runs.specs.Runs.{IsSafeAt, Goes}
use Rattle.law_runs.proofs.Lemmas.Runs.{runs_go, lists_go_inside}
use Rattle.law_steps.specs.Views.{views}
use Rattle.law_steps.specs.Soundness.{IsSoundPart, LawsBelow}
use Rattle.law_steps.proofs.Lemmas.Admitting.{admitted_lists}
use Rattle.law_steps.proofs.Lemmas.Locals.{begun_sound, begins, no_ahead}
use Rattle.law_steps.proofs.Lemmas.Stops.{over, parks, halted, ended_from}
use Rattle.law_steps.proofs.Lemmas.Bounds.{agrees_now}
use Rattle.law_steps.specs.Reading.{Decodes}
use Rattle.law_steps.proofs.Lemmas.Reading.{decoded_runs, not_sovereign}
use Rattle.law_steps.specs.Worlds.{IsFirst, IsExecution, while_running, where_stopped, IsDelivery, arrives, while_delivered, StopsAt, where_delivery_stopped}
use Rattle.law_steps.proofs.Lemmas.Worlds.{IsReached}
use Rattle.law_steps.specs.Stepping.{ShapeLaws}
use Rattle.law_steps.proofs.Lemmas.Stepping.{seen_at, own_room, begun_room, worlds_reached, first_reached, kept_by, delivered_inside, delivered_stopped}

module _ (laws : LawsBelow) (n : List Table) (agrees : Agrees n) (rules : ChainRules) (origin : Location) (own : IsCaller origin) (p : ChainPart) (there : IsIn n (table_of p)) (sound : IsSoundPart p) (room : HasRoom none p)
    (program : List Instruction) (a : Admitted) (balanced : IsBalanced a.weight (first_stage rules origin a p)) (lists : AllByRecursion AreLists a.program) where
  ahead : IsAheadOf AreLists (first_stage rules origin a p)
  ahead = no_ahead a.program (first_machine rules origin p) refl refl lists

  -- wherever the run comes
  pub comes : (g : Stage) → Reaches xcm (first_stage rules origin a p) g → IsSafeAt n (machine_of g) × Safely (first_machine rules origin p) (machine_of g)
  comes g reach =
      let first : machine_of (first_stage rules origin a p) ≡ first_machine rules origin p = begin_machine parts.Program a.program (first_machine rules origin p) in
      let goes : Goes n (machine_of (first_stage rules origin a p)) (machine_of g) =
      reached_keeps xcm laws.orderly AreLists lists_go_inside (Goes n) (runs_go laws.withdraws laws.moves laws.stays n agrees) a.weight (first_stage rules origin a p) g reach balanced ahead in
      subst (λ (m : Machine). Goes n m (machine_of g)) first goes (begins laws n agrees rules origin own p there sound room)

  -- ---- where it stops
  stopped_safe : (m : Machine) → StoppedIn xcm leaves_on_oom (first_stage rules origin a p) m → Safely (first_machine rules origin p) (over rules origin (abandoned m.regs m.part))
  stopped_safe m s =
      let g = At s.part s.place s.which s.behind s.before in
      let came = comes g s.reached in
      let all = (reached_hold xcm laws.orderly AreLists lists_go_inside (first_stage rules origin a p) g s.reached ahead).ahead_hold.0 in
      let stops = halted laws n agrees rules origin s.which s.before m came.0 all s.halted in
      safely_then (first_machine rules origin p) m (over rules origin (abandoned m.regs m.part)) (safely_then (first_machine rules origin p) s.before m came.1 stops) (parks laws n agrees rules origin m)

  last_reach : Reaches xcm (first_stage rules origin a p) (run xcm (first_stage rules origin a p))
  last_reach = (still_to_run (first_stage rules origin a p), refl)

  pub abandoned_safe : (now : ChainPart) → AbandonedIn rules origin a p now → IsSafe (view (first_machine rules origin p)) (seen empty now)
  abandoned_safe now h =
      let came = comes (run xcm (first_stage rules origin a p)) last_reach in
      let m = last_machine rules origin a p in
      let safely : Safely (first_machine rules origin p) (over rules origin now) = ⊎_elim
      (λ (s : (stopped : Machine) × StoppedIn xcm leaves_on_oom (first_stage rules origin a p) stopped × (now ≡ abandoned stopped.regs stopped.part)).
      subst (λ (y : ChainPart). Safely (first_machine rules origin p) (over rules origin y)) (sym s.2) (stopped_safe s.0 s.1))
      (λ (e : HaltedAtEnd xcm leaves_on_oom m now). (ended_from laws n agrees rules origin (first_machine rules origin p) m came.1 came.0.steady came.0.fine.room now e).0) h in
      safely.safe

-- ---- in a world
pub all_at : {A : Type 0} (P : A → Type 0) (ws : List A) (k : ℕ) (w : A) → AllByRecursion P ws → slice_get ws k ≡ Some w → P w
all_at P [] k w all e = absurd cc
all_at P (x ∷ ws) zero w all e = let same : x ≡ w = cc in subst P same all.0
all_at P (x ∷ ws) (suc k) w all e = all_at P ws k w all.1 e

module _ (laws : LawsBelow) (shapes : ShapeLaws) (decodes : Decodes) (order : List Link) (w : networks.World) (run_of : List Step) (f : IsFirst w) (account : List ℕ) (program : List Instruction) (x : IsExecution order w run_of account program) where
  reached : IsReached (views w) x.world
  reached = all_at (IsReached (views w)) (worlds order w run_of) x.at x.world (worlds_reached laws shapes decodes (views w) f.genesis order w run_of (first_reached w f)) x.reached

  abbrev p0 : ChainPart
  p0 = begun (chain_of x.member) cargos.Nothing x.member.part

  one_kept : (q : sums.Part) → IsSafe (seen empty x.member.part) q → IsKept (views w) (slice_set (views x.world) x.place q)
  one_kept q safe = kept_by (views w) f.genesis f.once (slice_set (views x.world) x.place q)
      (One (views x.world) x.place (seen empty x.member.part) q reached.history (seen_at x.world x.place x.member x.stands) safe)

  agrees : Agrees (tables_of (views x.world))
  agrees = agrees_now (views w) f.genesis (views x.world) reached.history

  there : IsIn (tables_of (views x.world)) (table_of p0)
  there = (x.place, table_at (views x.world) x.place (seen empty x.member.part) (seen_at x.world x.place x.member x.stands))

  sound : IsSoundPart p0
  sound = begun_sound (chain_of x.member) x.member.part (reached.parts x.place x.member x.stands)

  room : HasRoom none p0
  room = begun_room laws shapes decodes (views w) f.genesis x.world reached (chain_of x.member) x.member.part (own_room laws shapes decodes (views w) f.genesis x.world reached x.place x.member x.stands)

  own : IsCaller (caller account)
  own = record { account = account; rest = []; is = refl; own = not_sovereign account x.own }

  runs : IsRunnable program
  runs = decoded_runs decodes x.bytes program x.decoded

  module _ (a : Admitted) (ok : admitted x.member.rules (caller account) x.member.rules.limit (begun (chain_of x.member) cargos.Nothing x.member.part).queries program ≡ Ok a) where
    balanced : IsBalanced a.weight (first_stage x.member.rules (caller account) a p0)
    balanced = laws.balances x.member.rules (caller account) a p0 (laws.weighs x.member.rules (caller account) x.member.rules.limit p0.queries program a runs.few ok)

    lists : AllByRecursion AreLists a.program
    lists = admitted_lists x.member.rules (caller account) x.member.rules.limit p0.queries program runs.lists a ok

    pub kept_inside : (g : Stage) → Reaches xcm (first_stage x.member.rules (caller account) a (begun (chain_of x.member) cargos.Nothing x.member.part)) g → IsKept (views w) (while_running x.world x.place (machine_of g))
    kept_inside g reach = one_kept (view (machine_of g))
        (comes laws (tables_of (views x.world)) agrees x.member.rules (caller account) own p0 there sound room program a balanced lists g reach).1.safe

    pub kept_stopped : (now : ChainPart) → AbandonedIn x.member.rules (caller account) a (begun (chain_of x.member) cargos.Nothing x.member.part) now → IsKept (views w) (where_stopped x.world x.place now)
    kept_stopped now h = one_kept (seen empty now) (abandoned_safe laws (tables_of (views x.world)) agrees x.member.rules (caller account) own p0 there sound room program a balanced lists now h)

  pub stopped_kept : (now : ChainPart) → IsAbandoned x.member.rules (caller account) x.member.rules.limit program (begun (chain_of x.member) cargos.Nothing x.member.part) now → IsKept (views w) (where_stopped x.world x.place now)
  stopped_kept now h = kept_stopped h.0 h.1 now h.2

module _ (laws : LawsBelow) (shapes : ShapeLaws) (decodes : Decodes) (order : List Link) (w : networks.World) (run_of : List Step) (f : IsFirst w) (d : IsDelivery order w run_of) where
  pub kept_in_delivery : (a : Admitted) → admitted d.receiver.rules (name_at (chain_of d.receiver) (chain_of d.sender)) no_weight (arrives d.sender d.receiver d.message).queries d.message.program ≡ Ok a
      → (g : Stage) → GoesOnTo xcm (first_stage d.receiver.rules (name_at (chain_of d.receiver) (chain_of d.sender)) a (arrives d.sender d.receiver d.message)) g
      → IsKept (views w) (while_delivered d.world d.from d.sender d.to d.receiver (machine_of g))
  kept_in_delivery a ok g on =
      let came = all_at (IsReached (views w)) (worlds order w run_of) d.at d.world (worlds_reached laws shapes decodes (views w) f.genesis order w run_of (first_reached w f)) d.reached in
      kept_by (views w) f.genesis f.once (while_delivered d.world d.from d.sender d.to d.receiver (machine_of g))
      (delivered_inside laws shapes decodes (views w) f.genesis d.world came d.from d.to d.sender d.receiver d.channel d.message d.sends d.receives d.leads d.oldest a ok g on)

  pub kept_stopped_delivery : (q : ChainPart) → StopsAt d.sender d.receiver d.message q → IsKept (views w) (where_delivery_stopped d.world d.from d.sender d.to d.receiver q)
  kept_stopped_delivery q stops =
      let came = all_at (IsReached (views w)) (worlds order w run_of) d.at d.world (worlds_reached laws shapes decodes (views w) f.genesis order w run_of (first_reached w f)) d.reached in
      kept_by (views w) f.genesis f.once (where_delivery_stopped d.world d.from d.sender d.to d.receiver q)
      (delivered_stopped laws shapes decodes (views w) f.genesis d.world came d.from d.to d.sender d.receiver d.channel d.message d.sends d.receives d.leads d.oldest q stops)
