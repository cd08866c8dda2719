-- What steps of a network do to floors, and to the locks of whole chains' accounts.
use Rattle.std.proofs.Common.{◌≡◌, ℕ, zero, suc, ◌≤◌, true, false, List, [], ◌∷◌, Some, None, Ok, inl, inr, refl, sym, ap, ◌∙◌, subst, arith}
use Rattle.std.specs.Prelude.{slice_get}
use Rattle.std.specs.List.{AllByRecursion}
use Rattle.std.specs.Option.{option_map_or}
use Rattle.std.proofs.lemmas.Bool.{cases_lt}
use Rattle.chain_ids.specs.declared.chain.ChainId.{ChainId}
use Rattle.locations.specs.declared.relative.Location.{Location}
use Rattle.operands.specs.declared.query.OpenQuery.{OpenQuery}
use Rattle.operands.specs.declared.weight.Weight.{Weight}
use Rattle.amounts.specs.Amounts.{amount}
use Rattle.weight_trader.specs.Purchases.{no_weight}
use Rattle.asset_locks.specs.LockMaps.{LockKey, LocksAndNotes, lock_at}
use Rattle.trust_tables.specs.declared.chains.Site.{Site}
use Rattle.xcm_program.specs.declared.instruction.Instruction.{Instruction}
use Rattle.channel_parts.specs.declared.cargo.Cargo.{Cargo}
use Rattle.channel_parts.specs.declared.cargo.Cargo.TheVariants.{Nothing}
use Rattle.channel_parts.specs.Channels.{Waiting}
use Rattle.chain_queues.specs.Queues.{leads_to}
use Rattle.exec_base.specs.declared.event.Event.{Event}
use Rattle.exec_base.specs.Part.{ChainPart}
use Rattle.asset_locks.specs.UnitFloors.{floor_at}
use Rattle.exec_base.specs.Host.{told}
use Rattle.exec_rules.specs.Machine.{IsOrderly}
use Rattle.exec_rules.specs.Run.{steps}
use Rattle.exec_rules.specs.Instructions.{xcm}
use Rattle.exec_rules.specs.declared.rules.ChainRules.{ChainRules}
use Rattle.exec_rules.specs.declared.admission.Admitted.{Admitted}
use Rattle.exec_rules.specs.Admission.{admitted}
use Rattle.exec_rules.specs.Execution.{first_stage}
use Rattle.network_steps.specs.Worlds.{Member, chain_of, World, place_of}
use Rattle.network_steps.specs.Acting.{begun, caller, acted}
use Rattle.network_steps.specs.Steps.{is_sovereign, exec, name_at, run_for, receiver_after, deliver, claim, Link, waiting, next_channel, deliveries, world_behind, Step, Exec, Deliver, Claim, Drain, Balances, Traps, Queues, Supply, next_world, worlds}
use Rattle.network_steps.specs.Sends.{deliveries_left}
use Rattle.law_steps.specs.Shapes.{IsShape, IsShaped, AllShaped}
use Rattle.law_steps.specs.Calm.{MuteAt}
use Rattle.law_hosts.specs.Floors.{NoPoolLocks}
use Rattle.law_hosts.proofs.Lemmas.{none_kept, none_frees}
use Rattle.law_authority.specs.Floors.{KeepsChainFloors, RisesOnly, NoSovereignLocks, AllHoldFloors, NoneSovereign, WaitInOrder, AllInOrder, NothingLocked}
use Rattle.law_authority.proofs.LockActs.{Holding}
use Rattle.law_runs.specs.Safety.{AreLists}
use Rattle.law_steps.specs.Reading.{Decodes}
use Rattle.law_authority.proofs.Lemmas.ListLaws.{decoded_lists}
use Rattle.law_authority.proofs.Lemmas.WaitingLaws.{popped_lists, queued_lists, oldest_lists}
use Rattle.law_authority.proofs.LockRuns.{executed_floors, executed_both, local_rises, NoKey, message_rises}
use Rattle.law_authority.proofs.Lemmas.StepLaws.{there_at, exec_keeps, deliver_keeps, claim_keeps, worlds_keep}

-- ---- floors
told_floors : (sender : ChainId) (cargo : Cargo) (p : ChainPart) (e : Event) → KeepsChainFloors p → KeepsChainFloors (told (begun sender cargo p) e)
unfolding told
told_floors sender cargo p e floors = floors

module _ (holding : Holding) (orderly : IsOrderly xcm) where
  pub exec_floors : Decodes → (w : World) (chain : ChainId) (account bytes : List ℕ) → AllHoldFloors w → AllHoldFloors (exec w chain account bytes).world
  exec_floors decodes w chain account bytes all =
      exec_keeps KeepsChainFloors w chain account bytes all
      (λ m program free e floors. executed_floors holding orderly m.rules (caller account) m.rules.limit program (begun (chain_of m) Nothing m.part) (decoded_lists decodes bytes program e) floors)

  pub deliver_floors : (w : World) (from to : ChainId) → ((x : Waiting) → waiting w from to ≡ Some x → AllByRecursion AreLists x.program) → AllHoldFloors w → AllHoldFloors (deliver w from to).world
  deliver_floors w from to lists all =
      deliver_keeps KeepsChainFloors w from to all (λ s r x floors. floors)
      (λ i j s r x at is there waits old floors.
      let event = Event.Message (chain_of s) (chain_of r) x.number in
      executed_floors holding orderly r.rules (name_at (chain_of r) (chain_of s)) no_weight x.program (told (begun (chain_of s) x.cargo r.part) event) (lists x waits) (told_floors (chain_of s) x.cargo r.part event floors))

pub claim_floors : (w : World) (from to : ChainId) (bytes : List ℕ) → AllHoldFloors w → AllHoldFloors (claim w from to bytes).world
claim_floors w from to bytes all = claim_keeps KeepsChainFloors w from to bytes all (λ to program p read floors. floors)

-- ---- floors, in each world
abbrev Sound : ChainPart → Type 0
Sound p = KeepsChainFloors p × WaitInOrder p

abbrev AllSound : World → Type 0
AllSound w = AllByRecursion (λ (m : Member). Sound m.part) w

both_all : (w : World) → AllHoldFloors w → AllInOrder w → AllSound w
both_all [] floors waits = tt
both_all (m ∷ w) floors waits = ((floors.0, waits.0), both_all w floors.1 waits.1)

floors_all : (w : World) → AllSound w → AllHoldFloors w
floors_all [] all = tt
floors_all (m ∷ w) all = (all.0.0, floors_all w all.1)

each_floors : (ws : List World) → AllByRecursion AllSound ws → AllByRecursion AllHoldFloors ws
each_floors [] all = tt
each_floors (w ∷ ws) all = (floors_all w all.0, each_floors ws all.1)

told_sound : (sender : ChainId) (cargo : Cargo) (p : ChainPart) (e : Event) → Sound p → Sound (told (begun sender cargo p) e)
unfolding told
told_sound sender cargo p e h = h

module _ (holding : Holding) (orderly : IsOrderly xcm) (decodes : Decodes) where
  exec_sound : (w : World) (chain : ChainId) (account bytes : List ℕ) → AllSound w → AllSound (exec w chain account bytes).world
  exec_sound w chain account bytes all =
      exec_keeps Sound w chain account bytes all
      (λ m program free e h. executed_both holding orderly m.rules (caller account) m.rules.limit program (begun (chain_of m) Nothing m.part) (decoded_lists decodes bytes program e) h)

  deliver_sound : (w : World) (from to : ChainId) → AllSound w → AllSound (deliver w from to).world
  deliver_sound w from to all =
      deliver_keeps Sound w from to all (λ s r x h. (h.0, popped_lists (leads_to (chain_of r)) s.part h.1))
      (λ i j s r x at is there waits old h.
      let event = Event.Message (chain_of s) (chain_of r) x.number in
      let lists = oldest_lists (leads_to (chain_of r)) s.part.channels x old (there_at Sound w i s is all).1 in
      executed_both holding orderly r.rules (name_at (chain_of r) (chain_of s)) no_weight x.program (told (begun (chain_of s) x.cargo r.part) event) lists (told_sound (chain_of s) x.cargo r.part event h))

  claim_sound : (w : World) (from to : ChainId) (bytes : List ℕ) → AllSound w → AllSound (claim w from to bytes).world
  claim_sound w from to bytes all = claim_keeps Sound w from to bytes all (λ to program p read h. (h.0, queued_lists (leads_to to) program Nothing p (decoded_lists decodes bytes program read) h.1))

  pub worlds_floors : (order : List Link) (w : World) (steps : List Step) → AllInOrder w → AllHoldFloors w → AllByRecursion AllHoldFloors (worlds order w steps)
  worlds_floors order w steps waits floors =
      each_floors (worlds order w steps) (worlds_keep AllSound order exec_sound deliver_sound claim_sound w steps (both_all w floors waits))

pub nothing_holds : (w : World) → NothingLocked w → AllHoldFloors w
nothing_holds [] none = tt
nothing_holds (m ∷ w) none = (
  (
    λ who unit. subst (λ (l : LocksAndNotes). floor_at l who unit.0 unit.1 ≤ amount m.part.held (who, unit)) (sym none.0) (let e = none_kept who unit.0 unit.1 in omega (arith, e)),
    subst (NoPoolLocks m.part.pools) (sym none.0) (none_frees m.part.pools),
  ),
  nothing_holds w none.1,
)

-- ---- whole chains' accounts
abbrev Free : ChainPart → Type 0
Free p = NoSovereignLocks p.locked

free_then : (May : LockKey → Type 0) (old new : LocksAndNotes) → ((key : LockKey) → is_sovereign key.0 ≡ true → May key → ⊥) → RisesOnly May old new → NoSovereignLocks old → NoSovereignLocks new
free_then May old new never rises free key sovereign = elim (cases_lt (lock_at key old) (lock_at key new)) [
  | inl more ↦ absurd (never key sovereign (rises key more))
  | inr most ↦ (let none = free key sovereign in omega (arith, most, none))
]

pub exec_free : (w : World) (chain : ChainId) (account bytes : List ℕ) → NoneSovereign w → NoneSovereign (exec w chain account bytes).world
exec_free w chain account bytes all =
    exec_keeps Free w chain account bytes all
    (λ m program plain e free. free_then (λ (key : LockKey). key.0 ≡ account) m.part.locked (acted m.rules (caller account) m.rules.limit program (begun (chain_of m) Nothing m.part)).part.locked
    (λ key sovereign is. let no_way : true ≡ false = sym sovereign ∙ ap is_sovereign is ∙ plain in cc no_way)
    (local_rises m.rules account m.rules.limit program (begun (chain_of m) Nothing m.part)) free)

abbrev pub Taken : Type 0
Taken = (w : World) (from to : ChainId) (i : ℕ) (sender : Member) (x : Waiting) → AllShaped w → place_of w from ≡ Some i → slice_get w i ≡ Some sender → waiting w from to ≡ Some x → IsShaped sender.part.site to x

abbrev pub LetIn : Type 0
LetIn = (here : Site) (there : ChainId) (program : List Instruction) (cargo : Cargo) (rules : ChainRules) (origin : Location) (credit : Weight) (queries : List OpenQuery) (a : Admitted)
    → IsShape here there program cargo → admitted rules origin credit queries program ≡ Ok a → IsShape here there a.program cargo

abbrev pub Calm : Type 0
Calm = (here : Site) (there : ChainId) (cargo : Cargo) (rules : ChainRules) (origin : Location) (a : Admitted) (p : ChainPart) (n : ℕ) → IsShape here there a.program cargo → MuteAt (steps xcm n (first_stage rules origin a p))

told_locked : (sender : ChainId) (cargo : Cargo) (p : ChainPart) (e : Event) → (told (begun sender cargo p) e).locked ≡ p.locked
unfolding told
told_locked sender cargo p e = refl

module _ (taken : Taken) (let_in : LetIn) (calm : Calm) where
  pub deliver_free : (w : World) (from to : ChainId) → AllShaped w → NoneSovereign w → NoneSovereign (deliver w from to).world
  deliver_free w from to shaped all =
      deliver_keeps Free w from to all (λ s r x free. free)
      (λ i j s r x at is there waits old free.
      let origin = name_at (chain_of r) (chain_of s) in
      let event = Event.Message (chain_of s) (chain_of r) x.number in
      let p = told (begun (chain_of s) x.cargo r.part) event in
      let shape : IsShaped s.part.site to x = taken w from to i s x shaped at is waits in
      free_then NoKey p.locked (receiver_after s.part (run_for s r x)).locked (λ key sovereign none. none)
      (message_rises r.rules origin p (admitted r.rules origin no_weight p.queries x.program)
      (λ a e k. calm s.part.site to x.cargo r.rules origin a p k (let_in s.part.site to x.program x.cargo r.rules origin no_weight p.queries a shape e)))
      (subst NoSovereignLocks (sym (told_locked (chain_of s) x.cargo r.part event)) free))

pub claim_free : (w : World) (from to : ChainId) (bytes : List ℕ) → NoneSovereign w → NoneSovereign (claim w from to bytes).world
claim_free w from to bytes all = claim_keeps Free w from to bytes all (λ to program p read free. free)

-- ---- drains, and all steps
module _ (taken : Taken) (let_in : LetIn) (calm : Calm) (stays : (w : World) (from to : ChainId) → AllShaped w → AllShaped (deliver w from to).world) where
  deliveries_free : (n : ℕ) (order : List Link) (w : World) → AllShaped w → NoneSovereign w → NoneSovereign (world_behind w (deliveries n order w))
  unfolding deliveries
  deliveries_free zero order w shaped all = all
  deliveries_free (suc n) order w shaped all =
      elim (next_channel order w) as (λ o. NoneSovereign (world_behind w (option_map_or (λ (link : Link). (link, deliver w link.0 link.1) ∷ deliveries n order (deliver w link.0 link.1).world) o []))) [
        | None ↦ all
        | Some link ↦ deliveries_free n order (deliver w link.0 link.1).world (stays w link.0 link.1 shaped) (deliver_free taken let_in calm w link.0 link.1 shaped all)
      ]

  pub after_free : (order : List Link) (w : World) (step : Step) → AllShaped w → NoneSovereign w → NoneSovereign (next_world order w step)
  after_free order w (Exec chain account bytes) shaped all = exec_free w chain account bytes all
  after_free order w (Deliver from to) shaped all = deliver_free taken let_in calm w from to shaped all
  after_free order w (Claim from to bytes) shaped all = claim_free w from to bytes all
  after_free order w Drain shaped all = deliveries_free (deliveries_left w) order w shaped all
  after_free order w Balances shaped all = all
  after_free order w Traps shaped all = all
  after_free order w Queues shaped all = all
  after_free order w Supply shaped all = all

  pub worlds_free : ((order : List Link) (w : World) (step : Step) → AllShaped w → AllShaped (next_world order w step)) → (order : List Link) (w : World) (steps : List Step) → AllShaped w → NoneSovereign w → AllByRecursion NoneSovereign (worlds order w steps)
  worlds_free shapes order w [] shaped all = (all, tt)
  worlds_free shapes order w (step ∷ steps) shaped all = (all, worlds_free shapes order (next_world order w step) steps (shapes order w step shaped) (after_free order w step shaped all))
