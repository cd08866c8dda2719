-- Where memory was refused to a step: the steps that led there, and what is kept. A reader may skip this file.
use Rattle.std.proofs.Common.{◌≡◌, ⊎_elim, ℕ, List, [], ◌∷◌, ◌++◌, Option, Some, None, length, refl, sym, ap, ◌∙◌, subst}
use Rattle.std.specs.Prelude.{slice_get, slice_set}
use Rattle.std.specs.Option.{option_and_then}
use Rattle.chain_ids.specs.declared.chain.ChainId.{ChainId}
use Rattle.channel_parts.specs.Channels.{Waiting, Outgoing}
use Rattle.chain_queues.specs.Queues.{channel_to, oldest, oldest_to}
use Rattle.exec_base.specs.Part.{ChainPart}
use Rattle.exec_rules.specs.Execution.{IsAbandoned}
use Rattle.network_steps.specs.Worlds.{World, chain_of, with_part}
use Rattle.network_steps.specs.Acting.{ended, caller, lost_of, booking_lost}
use Rattle.network_steps.specs.Steps.{without_message, Link, Step, next_world, worlds, last_world, deliveries}
use Rattle.network_steps.proofs.Lemmas.StepLaws.{place_says}
use Rattle.law_coherence.specs.Parts as parts
use Rattle.law_coherence.specs.Headline.{IsKept}
use Rattle.amounts.specs.Amounts.{empty}
use Rattle.law_runs.specs.Views.{seen}
use Rattle.law_steps.specs.Views.{views}
use Rattle.law_steps.proofs.Lemmas.Deliveries.{views_set}
use Rattle.law_steps.specs.Worlds.{AllKept, IsExecution, begins, where_stopped, IsDelivery, StopsAt, where_delivery_stopped}
use Rattle.law_nets.specs.Stops.{ExecStopsAt, ExecStops, StandsAt, DeliverStops, DrainStops}
use Rattle.law_steps.specs.Drained.{delivery_steps}
use Rattle.law_steps.proofs.Lemmas.DrainedLaws.{last_behind, same_deliveries}
use Rattle.law_nets.proofs.Lasts.{all_last}

-- the last of the worlds is one of them
pub last_reached : (order : List Link) (w : World) (steps : List Step) → slice_get (worlds order w steps) (length steps) ≡ Some (last_world order w steps)
last_reached order w [] = refl
last_reached order w (s ∷ steps) = last_reached order (next_world order w s) steps

-- ---- the channel of a message
pub record FoundChannel (to : ChainId) (channels : List Outgoing) (message : Waiting) : Type 0 where
  pub channel : Outgoing
  pub leads : channel_to to channels ≡ Some channel
  pub first : oldest channel ≡ Some message

found_by : (to : ChainId) (channels : List Outgoing) (message : Waiting) (o : Option Outgoing) → channel_to to channels ≡ o → option_and_then oldest o ≡ Some message → FoundChannel to channels message
found_by to channels message None e h = absurd cc
found_by to channels message (Some c) e h = record { channel = c; leads = e; first = h }

-- ---- the steps that led to it
module _ (order : List Link) (first : World) (steps : List Step) where
  -- the execution that was abandoned
  abbrev pub stopped_execution : (chain : ChainId) (account bytes : List ℕ) (now : World) (s : ExecStopsAt (last_world order first steps) chain account bytes now) → IsExecution order first steps account s.program
  stopped_execution chain account bytes now s = record {
    at = length steps;
    world = last_world order first steps;
    reached = last_reached order first steps;
    place = s.place;
    member = s.member;
    stands = s.is;
    own = s.local;
    bytes = bytes;
    decoded = s.read;
  }

  module _ (from to : ChainId) (now : World) (s : DeliverStops (last_world order first steps) from to now) where
    pub sends : chain_of s.sender ≡ from
    sends = place_says (last_world order first steps) from s.sender_place s.sender s.sender_found s.is_sender

    pub receives : chain_of s.receiver ≡ to
    receives = place_says (last_world order first steps) to s.receiver_place s.receiver s.receiver_found s.is_receiver

    pub channel_there : FoundChannel (chain_of s.receiver) s.sender.part.channels s.message
    channel_there = found_by (chain_of s.receiver) s.sender.part.channels s.message (channel_to (chain_of s.receiver) s.sender.part.channels) refl (ap (λ (c : ChainId). oldest_to c s.sender.part.channels) receives ∙ s.waits)

    -- the delivery that stopped
    abbrev pub stopped_delivery : IsDelivery order first steps
    stopped_delivery = record {
      at = length steps;
      world = last_world order first steps;
      reached = last_reached order first steps;
      from = s.sender_place;
      sender = s.sender;
      sends = s.is_sender;
      to = s.receiver_place;
      receiver = s.receiver;
      receives = s.is_receiver;
      channel = channel_there.channel;
      leads = channel_there.leads;
      message = s.message;
      oldest = channel_there.first;
    }

    pub stops_so : StopsAt s.sender s.receiver s.message s.stopped.0
    stops_so = subst (λ (c : ChainId). StandsAt s.receiver.rules c s.message s.receiver.part s.stopped.0) (sym sends) s.stopped.1

-- the delivery at which a drain stopped, after the steps and those before it
abbrev pub steps_with : (order : List Link) (first : World) (steps : List Step) (made : ℕ) → List Step
steps_with order first steps made = steps ++ delivery_steps (deliveries made order (last_world order first steps))

pub last_of_drain : (order : List Link) (first : World) (steps : List Step) (now : World) (s : DrainStops order (last_world order first steps) now) → DeliverStops (last_world order first (steps_with order first steps s.made)) s.link.0 s.link.1 now
last_of_drain order first steps now s =
    let w = last_world order first steps in
    let more = delivery_steps (deliveries s.made order w) in
    subst (λ (v : World). DeliverStops v s.link.0 s.link.1 now) (sym (last_behind order first steps more ∙ same_deliveries s.made order w)) s.stopped

-- ---- what is left
module _ (order : List Link) (first : World) (kept : (steps : List Step) → AllKept order first steps)
    (stopped_here : (steps : List Step) (account : List ℕ) (program : _) (x : IsExecution order first steps account program) (now : ChainPart)
    → IsAbandoned x.member.rules (caller account) x.member.rules.limit program (begins x.member) now → IsKept (views first) (where_stopped x.world x.place now))
    (stopped_there : (steps : List Step) (d : IsDelivery order first steps) (now : ChainPart) → StopsAt d.sender d.receiver d.message now → IsKept (views first) (where_delivery_stopped d.world d.from d.sender d.to d.receiver now)) where
  abbrev Keeps : World → Type 0
  Keeps v = IsKept (views first) (views v)

  pub exec_kept : (steps : List Step) (chain : ChainId) (account bytes : List ℕ) (now : World) → ExecStops (last_world order first steps) chain account bytes now → Keeps now
  exec_kept steps chain account bytes now h = ⊎_elim
      (λ (e : now ≡ last_world order first steps). subst Keeps (sym e) (all_last Keeps order first steps (kept steps)))
      (λ (s : ExecStopsAt (last_world order first steps) chain account bytes now).
      let q = s.stopped.0 in
      let seen_so : views now ≡ where_stopped (last_world order first steps) s.place q =
      ap views (s.rest ∙ ap (λ (p : ChainPart). slice_set (last_world order first steps) s.place (with_part p s.member)) s.stopped.2) ∙ views_set (last_world order first steps) s.place (with_part (ended q) s.member) in
      subst (IsKept (views first)) (sym seen_so) (stopped_here steps account s.program (stopped_execution order first steps chain account bytes now s) q s.stopped.1)) h

  pub deliver_kept : (steps : List Step) (from to : ChainId) (now : World) → DeliverStops (last_world order first steps) from to now → Keeps now
  deliver_kept steps from to now s =
      let w = last_world order first steps in
      let back : to ≡ chain_of s.receiver = sym (receives order first steps from to now s) in
      let q = s.stopped.0 in
      let lowered : (c : ChainId) → World = λ c. slice_set w s.sender_place (with_part (booking_lost (lost_of q.cargo.cargo) (without_message c s.sender.part)) s.sender) in
      let same : now ≡ slice_set (lowered (chain_of s.receiver)) s.receiver_place (with_part (ended q) s.receiver) =
      s.rest ∙ (λ i. slice_set (slice_set w s.sender_place (with_part (booking_lost (lost_of (s.stopped.3 i)) (without_message (back i) s.sender.part)) s.sender)) s.receiver_place (with_part (s.stopped.2 i) s.receiver)) in
      let seen_so : views now ≡ where_delivery_stopped w s.sender_place s.sender s.receiver_place s.receiver q =
      ap views same ∙ views_set (lowered (chain_of s.receiver)) s.receiver_place (with_part (ended q) s.receiver)
      ∙ ap (λ (u : parts.WorldView). slice_set u s.receiver_place (seen empty (ended q))) (views_set w s.sender_place (with_part (booking_lost (lost_of q.cargo.cargo) (without_message (chain_of s.receiver) s.sender.part)) s.sender)) in
      subst (IsKept (views first)) (sym seen_so) (stopped_there steps (stopped_delivery order first steps from to now s) q (stops_so order first steps from to now s))

  pub drain_kept : (steps : List Step) (now : World) → DrainStops order (last_world order first steps) now → Keeps now
  drain_kept steps now s = deliver_kept (steps_with order first steps s.made) s.link.0 s.link.1 now (last_of_drain order first steps now s)
