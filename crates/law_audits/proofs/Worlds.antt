-- In every world, and in every run there, checking accounts stay below their maximum.
use Rattle.std.proofs.Common.{◌≡◌, ◌⊎◌, ⊎_elim, ℕ, zero, suc, Bool, true, false, List, [], ◌∷◌, ◌++◌, Some, refl, sym, ap, ◌∙◌, subst}
use Rattle.std.specs.Prelude.{if◌then◌else◌, slice_get}
use Rattle.std.specs.List.{AllByRecursion}
use Rattle.std.specs.Option.{option_and_then}
use Rattle.chain_ids.specs.declared.chain.ChainId.{ChainId}
use Rattle.weight_trader.specs.Purchases.{no_weight}
use Rattle.asset_bundles.specs.Bundles.{Bundle}
use Rattle.plain_lists.specs.Firsts.{change_first}
use Rattle.xcm_program.specs.declared.instruction.Instruction.{Instruction}
use Rattle.channel_parts.specs.declared.cargo.Cargo.{Cargo}
use Rattle.channel_parts.specs.declared.cargo.Cargo.TheVariants.{Nothing}
use Rattle.channel_parts.specs.declared.channel.Channel.{Channel}
use Rattle.channel_parts.specs.Channels.{Outgoing}
use Rattle.chain_queues.specs.Queues.{leads_to, oldest, without_oldest}
use Rattle.exec_base.specs.declared.event.Event.{Event}
use Rattle.exec_base.specs.Part.{ChainPart}
use Rattle.exec_base.specs.Host.{told}
use Rattle.exec_rules.specs.Execution.{executed, IsAbandoned}
use Rattle.exec_rules.specs.Machine.{IsOrderly}
use Rattle.exec_rules.specs.Instructions.{xcm}
use Rattle.network_steps.specs.Worlds.{Member, chain_of, World}
use Rattle.network_steps.specs.Acting.{begun, ended, caller, booking_lost, lost_lines, lost_of}
use Rattle.network_steps.specs.Steps.{exec, deliver, claim, name_at, run_for, posted, without_message, Link, Step, worlds}
use Rattle.law_runs.specs.Safety.{AreLists, HasFee, links_of}
use Rattle.law_runs.proofs.Lemmas.Safety.{links_put}
use Rattle.law_runs.specs.Sums.{in_kept}
use Rattle.law_steps.specs.Reading.{Decodes}
use Rattle.law_steps.specs.Worlds.{IsExecution, begins, IsDelivery, arrives, StopsAt}
use Rattle.law_authority.specs.Floors.{HasLists}
use Rattle.law_authority.proofs.Lemmas.ListLaws.{decoded_lists}
use Rattle.law_authority.proofs.Lemmas.StepLaws.{there_at, exec_keeps, deliver_keeps, claim_keeps, worlds_keep}
use Rattle.law_authority.proofs.Lemmas.WaitingLaws.{popped_lists, queued_lists, oldest_lists}
use Rattle.law_audits.specs.Ends.{AllBelowEnd, StayBelowEnd}
use Rattle.law_audits.proofs.Calls.{LawsOfMoves}
use Rattle.law_audits.proofs.Runs.{IsBoundedPart, executed_sound, stopped_sound, reached_teleports}

-- ---- parts that differ in what is told, delivered, burned and sent
begun_sound : (sender : ChainId) (cargo : Cargo) (p : ChainPart) → IsBoundedPart p → IsBoundedPart (begun sender cargo p)
unfolding in_kept
begun_sound sender cargo p h = (record { apart = h.0.apart; native = h.0.native; fees = h.0.fees; paid = h.0.paid; below = h.0.below }, h.1)

told_sound : (p : ChainPart) (e : Event) → IsBoundedPart p → IsBoundedPart (told p e)
unfolding in_kept told
told_sound p e h = (record { apart = h.0.apart; native = h.0.native; fees = h.0.fees; paid = h.0.paid; below = h.0.below }, h.1)

ended_sound : (p : ChainPart) → IsBoundedPart p → IsBoundedPart (ended p)
unfolding in_kept
ended_sound p h = (record { apart = h.0.apart; native = h.0.native; fees = h.0.fees; paid = h.0.paid; below = h.0.below }, h.1)

events_sound : (p : ChainPart) (events : List Event) → IsBoundedPart p → IsBoundedPart (record p { events = events })
unfolding in_kept
events_sound p events h = (record { apart = h.0.apart; native = h.0.native; fees = h.0.fees; paid = h.0.paid; below = h.0.below }, h.1)

links_popped : (test : Outgoing → Bool) (cs : List Outgoing) → links_of (change_first test without_oldest cs) ≡ links_of cs
links_popped test [] = refl
links_popped test (c ∷ cs) = by_test (test c) (links_popped test cs)
  where
    by_test : (b : Bool) → links_of (change_first test without_oldest cs) ≡ links_of cs → links_of (if b then without_oldest c ∷ cs else c ∷ change_first test without_oldest cs) ≡ links_of (c ∷ cs)
    by_test true rest = refl
    by_test false rest = ap (λ (ls : List Channel). c.channel ∷ ls) rest

sender_sound : (to : ChainId) (goods : Bundle) (p : ChainPart) → IsBoundedPart p → IsBoundedPart (booking_lost goods (without_message to p))
unfolding in_kept
sender_sound to goods p h = (
  record { apart = h.0.apart; native = h.0.native; fees = subst (AllByRecursion HasFee) (sym (links_popped (leads_to to) p.channels)) h.0.fees; paid = h.0.paid; below = h.0.below },
  popped_lists (leads_to to) p h.1,
)

posted_sound : (to : ChainId) (program : List Instruction) (p : ChainPart) → AllByRecursion AreLists program → IsBoundedPart p → IsBoundedPart (posted to program p)
unfolding in_kept
posted_sound to program p lists h = (
  record { apart = h.0.apart; native = h.0.native; fees = subst (AllByRecursion HasFee) (sym (links_put (leads_to to) program Nothing p.channels)) h.0.fees; paid = h.0.paid; below = h.0.below },
  queued_lists (leads_to to) program Nothing p lists h.1,
)

-- ---- steps
abbrev AllBoundedParts : World → Type 0
AllBoundedParts w = AllByRecursion (λ (m : Member). IsBoundedPart m.part) w

module _ (laws : LawsOfMoves) (orderly : IsOrderly xcm) (decodes : Decodes) where
  exec_sound : (w : World) (chain : ChainId) (account bytes : List ℕ) → AllBoundedParts w → AllBoundedParts (exec w chain account bytes).world
  exec_sound w chain account bytes all =
      exec_keeps IsBoundedPart w chain account bytes all
      (λ m program free e h.
      let p = begun (chain_of m) Nothing m.part in
      ended_sound (executed m.rules (caller account) m.rules.limit program p).1
      (executed_sound laws orderly m.rules (caller account) m.rules.limit program p (decoded_lists decodes bytes program e) (begun_sound (chain_of m) Nothing m.part h)))

  deliver_sound : (w : World) (from to : ChainId) → AllBoundedParts w → AllBoundedParts (deliver w from to).world
  deliver_sound w from to all =
      deliver_keeps IsBoundedPart w from to all (λ s r x h. sender_sound (chain_of r) (lost_of (run_for s r x).left) s.part h)
      (λ i j s r x at is there waits old h.
      let origin = name_at (chain_of r) (chain_of s) in
      let q = begun (chain_of s) x.cargo r.part in
      let event = Event.Message (chain_of s) (chain_of r) x.number in
      let lists = oldest_lists (leads_to (chain_of r)) s.part.channels x old (there_at IsBoundedPart w i s is all).1 in
      let a = run_for s r x in
      events_sound a.part (a.part.events ++ lost_lines (lost_of a.left) s.part)
      (ended_sound (executed r.rules origin no_weight x.program (told q event)).1
      (executed_sound laws orderly r.rules origin no_weight x.program (told q event) lists (told_sound q event (begun_sound (chain_of s) x.cargo r.part h)))))

  claim_sound : (w : World) (from to : ChainId) (bytes : List ℕ) → AllBoundedParts w → AllBoundedParts (claim w from to bytes).world
  claim_sound w from to bytes all = claim_keeps IsBoundedPart w from to bytes all (λ to program p read h. posted_sound to program p (decoded_lists decodes bytes program read) h)

  -- ---- every world
  all_below : (w : World) → AllBoundedParts w → AllBelowEnd w
  all_below [] all = tt
  all_below (m ∷ w) all = (all.0.0.below, all_below w all.1)

  each_below : (ws : List World) → AllByRecursion AllBoundedParts ws → AllByRecursion AllBelowEnd ws
  each_below [] all = tt
  each_below (w ∷ ws) all = (all_below w all.0, each_below ws all.1)

  at_place : (ws : List World) (place : ℕ) (w : World) → AllByRecursion AllBoundedParts ws → slice_get ws place ≡ Some w → AllBoundedParts w
  at_place [] place w all at = absurd (cc at)
  at_place (v ∷ ws) zero w all at = let same : v ≡ w = cc in subst AllBoundedParts same all.0
  at_place (v ∷ ws) (suc place) w all at = at_place ws place w all.1 at

  module _ (order : List Link) (w : World) (steps : List Step) (first : AllBoundedParts w) where
    all_sound : AllByRecursion AllBoundedParts (worlds order w steps)
    all_sound = worlds_keep AllBoundedParts order exec_sound deliver_sound claim_sound w steps first

    begins_sound : (account : List ℕ) (program : List Instruction) (x : IsExecution order w steps account program) → IsBoundedPart (begins x.member)
    begins_sound account program x = begun_sound (chain_of x.member) Nothing x.member.part (there_at IsBoundedPart x.world x.place x.member x.stands (at_place (worlds order w steps) x.at x.world all_sound x.reached))

    module _ (d : IsDelivery order w steps) where
      world_sound : AllBoundedParts d.world
      world_sound = at_place (worlds order w steps) d.at d.world all_sound d.reached

      receiver_sound : IsBoundedPart (begun (chain_of d.sender) d.message.cargo d.receiver.part)
      receiver_sound = begun_sound (chain_of d.sender) d.message.cargo d.receiver.part (there_at IsBoundedPart d.world d.to d.receiver d.receives world_sound)

      arrives_sound : IsBoundedPart (arrives d.sender d.receiver d.message)
      arrives_sound = told_sound (begun (chain_of d.sender) d.message.cargo d.receiver.part) _ receiver_sound

      message_lists : HasLists d.message
      message_lists = oldest_lists (leads_to (chain_of d.receiver)) d.sender.part.channels d.message (ap (option_and_then oldest) d.leads ∙ d.oldest) (there_at IsBoundedPart d.world d.from d.sender d.sends world_sound).1

    stopped_by : (d : IsDelivery order w steps) (now : ChainPart) → StopsAt d.sender d.receiver d.message now → IsBoundedPart now
    stopped_by d now h =
        let origin = name_at (chain_of d.receiver) (chain_of d.sender) in
        let p = arrives d.sender d.receiver d.message in
        let ran = executed_sound laws orderly d.receiver.rules origin no_weight d.message.program p (message_lists d) (arrives_sound d) in
        ⊎_elim (λ (e : now ≡ begun (chain_of d.sender) d.message.cargo d.receiver.part). subst IsBoundedPart (sym e) (receiver_sound d))
        (λ (rest : IsAbandoned d.receiver.rules origin no_weight d.message.program p now ⊎ (now ≡ (executed d.receiver.rules origin no_weight d.message.program p).1)).
        ⊎_elim (λ (g : IsAbandoned d.receiver.rules origin no_weight d.message.program p now). stopped_sound laws orderly d.receiver.rules origin no_weight d.message.program p (message_lists d) (arrives_sound d) now g)
        (λ (e : now ≡ (executed d.receiver.rules origin no_weight d.message.program p).1). subst IsBoundedPart (sym e) ran) rest) h

    pub stay_below : StayBelowEnd order w steps
    stay_below = record {
      in_worlds = each_below (worlds order w steps) all_sound;
      executions = λ account program x a g admits r.
          reached_teleports laws orderly x.member.rules (caller account) x.member.rules.limit program (begins x.member) (decoded_lists decodes x.bytes program x.decoded) (begins_sound account program x) a g admits r;
      deliveries = λ d a g admits r.
          reached_teleports laws orderly d.receiver.rules (name_at (chain_of d.receiver) (chain_of d.sender)) no_weight d.message.program (arrives d.sender d.receiver d.message) (message_lists d) (arrives_sound d) a g admits r;
      stopped_executions = λ account program x now h.
          (stopped_sound laws orderly x.member.rules (caller account) x.member.rules.limit program (begins x.member) (decoded_lists decodes x.bytes program x.decoded) (begins_sound account program x) now h).0.below;
      stopped_deliveries = λ d now h. (stopped_by d now h).0.below;
    }
