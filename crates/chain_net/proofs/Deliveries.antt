-- A delivery, by its cases.
use Rattle.std.specs.declared.alloc.AllocError.{AllocError}
use Rattle.std.proofs.Common.{Result, Ok, Err, ◌≡◌, ℕ, Bool, true, false, List, [], ◌∷◌, ◌++◌, length, Option, Some, None, refl, sym, ap, ◌∙◌, subst}
use Rattle.std.specs.Prelude.{IfOk, OnErr, if◌then◌else◌, is_some, slice_get, slice_set, find, drop, option_map}
use Rattle.std.specs.List.{AllByRecursion}
use Rattle.std.specs.Option.{option_map_or, option_and_then}
use Rattle.asset_lists.specs.Listed.{Listed}
use Rattle.asset_bundles.specs.Bundles.{Bundle}
use Rattle.trust_tables.specs.Trust.{listing}
use Rattle.chain_ids.specs.declared.chain.ChainId.{ChainId}
use Rattle.chain_ids.specs.Chains.{same_chain}
use Rattle.xcm_program.specs.declared.outcome.Outcome.{Outcome}
use Rattle.channel_parts.specs.declared.channel.Channel.{Channel}
use Rattle.channel_parts.specs.Channels.{Waiting, Outgoing}
use Rattle.chain_queues.specs.Queues.{first_of, leads_to, channel_to, oldest, oldest_to, without_oldest}
use Rattle.exec_base.specs.Part.{ChainPart}
use Rattle.exec_base.specs.Host.{burned_lines}
use Rattle.exec_rules.specs.declared.rules.ChainRules.{ChainRules}
use Rattle.network_steps.specs.declared.step_result.StepResult.{StepResult}
use Rattle.network_steps.specs.Worlds.{Member, chain_of, World, place_of, with_part, Stepped, unchanged}
use Rattle.network_steps.specs.Fixed.{fixed_of}
use Rattle.network_steps.proofs.Lemmas.FixedLaws.{channels_kept}
use Rattle.network_steps.specs.Acting.{Acted, lost_of, booking_lost, lost_lines}
use Rattle.network_steps.specs.Steps.{without_message, run_for, sender_after, receiver_after, delivered, delivery_of, deliver}
use Rattle.chain_state.specs.declared.state.ChainState.{ChainState}
use Rattle.chain_state.specs.PartOf.{part_of}
use Rattle.chain_net.specs.Chains.{member_in, world_in, names_of}
use Rattle.chain_net.specs.Nets.{told_at}
use Rattle.chain_net.specs.Sound.{IsListedCargo, AreListedIn, IsBetweenSteps, AreBetweenSteps}
use Rattle.law_nets.specs.Stops.{DeliverStops, IsStoppedThere}
use Rattle.chain_net.specs.Passing.{IsOtherChain, IsCarried, AreChanged, run_at, IsPassed, IsPassStopped}
use Rattle.chain_net.proofs.Shipments.{changed_listed}
use Rattle.chain_net.proofs.Runs.{same_leads}
use Rattle.chain_net.proofs.Members.{member_at, set_member, got_set, got_other, set_many, set_names, set_between}
use Rattle.chain_net.proofs.Passes.{set_twice, same_seen}
use Rattle.chain_net.proofs.Pairs.{place_says, deliver_at}

-- ---- the sender without its message
module _ (listed : List Listed) where
  dropped_listed : (c : Outgoing) → AllByRecursion (λ (x : Waiting). IsListedCargo listed x.cargo) c.queue → AllByRecursion (λ (x : Waiting). IsListedCargo listed x.cargo) (without_oldest c).queue
  dropped_listed c all = first_dropped c.queue all
    where
      first_dropped : (xs : List Waiting) → AllByRecursion (λ (x : Waiting). IsListedCargo listed x.cargo) xs → AllByRecursion (λ (x : Waiting). IsListedCargo listed x.cargo) (drop 1 xs)
      first_dropped [] all = tt
      first_dropped (x ∷ xs) all = all.1

  first_listed : (xs : List Waiting) (x : Waiting) → AllByRecursion (λ (x : Waiting). IsListedCargo listed x.cargo) xs → first_of xs ≡ Some x → IsListedCargo listed x.cargo
  first_listed [] x all e = absurd cc
  first_listed (y ∷ ys) x all e = let same : y ≡ x = cc in subst (λ (z : Waiting). IsListedCargo listed z.cargo) same all.0

  pub oldest_listed : (to : ChainId) (cs : List Outgoing) (x : Waiting) → AreListedIn listed cs → oldest_to to cs ≡ Some x → IsListedCargo listed x.cargo
  oldest_listed to [] x all e = absurd cc
  oldest_listed to (c ∷ cs) x all e =
      elim (same_chain c.channel.to to) as (λ b. option_and_then oldest (if b then Some c else find (leads_to to) cs) ≡ Some x → IsListedCargo listed x.cargo) [
        | true ↦ λ h. first_listed c.queue x all.0 h
        | false ↦ λ h. oldest_listed to cs x all.1 h
      ] e

pub between_popped : (to : ChainId) (p : ChainPart) → IsBetweenSteps p → IsBetweenSteps (without_message to p)
between_popped to p h = record {
  rest = record { order = record { traps = h.rest.order.traps; rates = h.rest.order.rates; paid = h.rest.order.paid; pools = h.rest.order.pools; unparked = h.rest.order.unparked }; slot = h.rest.slot };
  landed = h.landed;
  told = h.told;
  shipped = changed_listed (listing p.rows) (leads_to to) without_oldest (dropped_listed (listing p.rows)) p.channels h.shipped;
  apart = same_leads p (without_message to p) (ap (λ (cs : List Channel). record (fixed_of p) { channels = cs }) (channels_kept (leads_to to) without_oldest (λ c. refl) p.channels)) ∙ h.apart;
}

lines_same : (to : ChainId) (p : ChainPart) (goods : Bundle) → lost_lines goods (without_message to p) ≡ lost_lines goods p
unfolding burned_lines
lines_same to p goods = refl

-- ---- the two chains, after the message left the sender
module _ (rs : List ChainRules) (xs : List ChainState) (i j : ℕ) (rules other : ChainRules) (s r taken : ChainState) (from to : ChainId) (x : Waiting)
    (apart : i ≡ j → ⊥) (at_i : slice_get xs i ≡ Some s) (at_j : slice_get xs j ≡ Some r) (rules_i : slice_get rs i ≡ Some other) (rules_j : slice_get rs j ≡ Some rules)
    (from_i : place_of (world_in rs xs) from ≡ Some i) (to_j : place_of (world_in rs xs) to ≡ Some j) (waits : oldest_to to (part_of s).channels ≡ Some x)
    (left_it : part_of taken ≡ without_message to (part_of s)) where
  abbrev world : World
  world = world_in rs xs

  abbrev ys : List ChainState
  ys = slice_set xs i taken

  taken_at : slice_get ys i ≡ Some taken
  taken_at = got_set xs i s taken at_i

  receiver_at : slice_get ys j ≡ Some r
  receiver_at = got_other xs i j taken (λ e. apart (sym e)) ∙ at_j

  sender_named : (part_of s).site.chain ≡ from
  sender_named = place_says world from i (member_in other s) from_i (member_at rs xs i other s rules_i at_i)

  receiver_named : (part_of r).site.chain ≡ to
  receiver_named = place_says world to j (member_in rules r) to_j (member_at rs xs j rules r rules_j at_j)

  -- what is left of the two chains is a delivery's
  channel_found : (o : Option Outgoing) → option_and_then oldest o ≡ Some x → delivery_of world i j (member_in other s) (member_in rules r) o ≡ delivered world i j (member_in other s) (member_in rules r) x
  channel_found None e = absurd cc
  channel_found (Some c) e = ap (λ o. option_map_or (λ (message : Waiting). delivered world i j (member_in other s) (member_in rules r) message) o (unchanged StepResult.Empty world)) e

  deliver_is : deliver world from to ≡ delivered world i j (member_in other s) (member_in rules r) x
  deliver_is =
      deliver_at world from to i j (member_in other s) (member_in rules r) (channel_to to (part_of s).channels) from_i to_j (member_at rs xs i other s rules_i at_i) (member_at rs xs j rules r rules_j at_j) refl
      ∙ channel_found (channel_to to (part_of s).channels) waits

  acted_is : run_at rules from x (part_of r) ≡ run_for (member_in other s) (member_in rules r) x
  acted_is = ap (λ (c : ChainId). run_at rules c x (part_of r)) (sym sender_named)

  -- two chains written in the list, and in the world
  both_written : (b d : ChainState) → world_in rs (slice_set (slice_set xs i b) j d) ≡ slice_set (slice_set world i (member_in other b)) j (member_in rules d)
  both_written b d = set_member rs (slice_set xs i b) j rules d rules_j ∙ ap (λ w. slice_set w j (member_in rules d)) (set_member rs xs i other b rules_i)

  over_taken : (b d : ChainState) → slice_set (slice_set ys i b) j d ≡ slice_set (slice_set xs i b) j d
  over_taken b d = ap (λ zs. slice_set zs j d) (set_twice xs i taken b)

  told_last : (w : World) (m y : Member) → slice_get w j ≡ Some m → told_at (Some j) (slice_set w j y) ≡ y.part.events
  told_last w m y at = ap (λ (o : Option Member). option_map_or (λ (m : Member). m.part.events) o []) (got_set w j m y at)

  module _ (outcome : Outcome) (zs : List ChainState) (p : IsPassed rules from x i j outcome ys zs) where
    abbrev a : Acted
    a = run_for (member_in other s) (member_in rules r) x

    old_sender_is : p.both.old_sender ≡ taken
    old_sender_is = same_seen _ _ _ p.both.is_sender taken_at

    old_receiver_is : p.both.old_receiver ≡ r
    old_receiver_is = same_seen _ _ _ p.both.is_receiver receiver_at

    acted_same : run_at rules from x (part_of p.both.old_receiver) ≡ a
    acted_same = ap (λ (t : ChainState). run_at rules from x (part_of t)) old_receiver_is ∙ acted_is

    sender_part : part_of p.both.new_sender ≡ sender_after to a (part_of s)
    sender_part = p.sender_is ∙ ap (λ (y : Acted). booking_lost (lost_of y.left) (part_of p.both.old_sender)) acted_same
        ∙ ap (λ (t : ChainPart). booking_lost (lost_of a.left) t) (ap part_of old_sender_is ∙ left_it)

    receiver_part : part_of p.both.new_receiver ≡ receiver_after (part_of s) a
    receiver_part = p.receiver_is ∙ ap (λ (y : Acted). receiver_after (part_of p.both.old_sender) y) acted_same
        ∙ ap (λ (t : ChainPart). receiver_after t a) (ap part_of old_sender_is ∙ left_it)
        ∙ ap (λ ls. record a.part { events = a.part.events ++ ls }) (lines_same to (part_of s) (lost_of a.left))

    new_world : world_in rs zs ≡ (delivered world i j (member_in other s) (member_in rules r) x).world
    new_world =
        ap (world_in rs) (p.both.changed ∙ over_taken p.both.new_sender p.both.new_receiver) ∙ both_written p.both.new_sender p.both.new_receiver
        ∙ ap (λ (t : ChainPart). slice_set (slice_set world i (record { rules = other; part = t })) j (member_in rules p.both.new_receiver)) (sender_part ∙ ap (λ (c : ChainId). sender_after c a (part_of s)) (sym receiver_named))
        ∙ ap (λ (t : ChainPart). slice_set (slice_set world i (with_part (sender_after (part_of r).site.chain a (part_of s)) (member_in other s))) j (record { rules = rules; part = t })) receiver_part

    pub deliver_ran : deliver world from to ≡ record { answer = StepResult.Ran outcome; trace = told_at (Some j) (world_in rs zs); world = world_in rs zs }
    deliver_ran =
        let w1 = slice_set world i (with_part (sender_after (part_of r).site.chain a (part_of s)) (member_in other s)) in
        let at : slice_get w1 j ≡ Some (member_in rules r) = got_other world i j _ (λ e. apart (sym e)) ∙ member_at rs xs j rules r rules_j at_j in
        let trace : (receiver_after (part_of s) a).events ≡ told_at (Some j) (world_in rs zs) =
        sym (told_last w1 (member_in rules r) (with_part (receiver_after (part_of s) a) (member_in rules r)) at) ∙ ap (told_at (Some j)) (sym new_world) in
        let same : outcome ≡ a.outcome = p.outcome_is ∙ ap (λ (y : Acted). y.outcome) acted_same in
        deliver_is ∙ (λ k. record { answer = StepResult.Ran (sym same k); trace = trace k; world = sym new_world k })

  pub deliver_stopped : (zs : List ChainState) → IsPassStopped rules from x i j ys zs → DeliverStops world from to (world_in rs zs)
  deliver_stopped zs p =
      let old_s : p.both.old_sender ≡ taken = same_seen _ _ _ p.both.is_sender taken_at in
      let old_r : p.both.old_receiver ≡ r = same_seen _ _ _ p.both.is_receiver receiver_at in
      record {
        sender_place = i;
        receiver_place = j;
        sender = member_in other s;
        receiver = member_in rules r;
        message = x;
        sender_found = from_i;
        receiver_found = to_j;
        is_sender = member_at rs xs i other s rules_i at_i;
        is_receiver = member_at rs xs j rules r rules_j at_j;
        waits = waits;
        part = part_of p.both.new_receiver;
        left = p.left;
        stopped = subst (λ (t : ChainState). IsStoppedThere rules from x (part_of t) (part_of p.both.new_receiver) p.left) old_r p.stopped;
        rest = ap (world_in rs) (p.both.changed ∙ over_taken p.both.new_sender p.both.new_receiver) ∙ both_written p.both.new_sender p.both.new_receiver
            ∙ ap (λ (t : ChainPart). slice_set (slice_set world i (record { rules = other; part = t })) j (member_in rules p.both.new_receiver)) (p.sender_is ∙ ap (λ (t : ChainPart). booking_lost (lost_of p.left) t) (ap part_of old_s ∙ left_it));
      }

-- ---- what a pass keeps
pub changed_by : (rules : ChainRules) (from : ChainId) (x : Waiting) (i j : ℕ) (ys zs : List ChainState) (res : Result Outcome AllocError) → IfOk res (λ o. IsPassed rules from x i j o ys zs) → OnErr res (IsPassStopped rules from x i j ys zs) → AreChanged i j ys zs
changed_by rules from x i j old zs (Ok o) h k = h.both
changed_by rules from x i j old zs (Err e) h k = k.both

pub changed_many : (i j : ℕ) (ys zs : List ChainState) → AreChanged i j ys zs → length zs ≡ length ys
changed_many i j ys zs h = ap length h.changed ∙ set_many (slice_set ys i h.new_sender) j h.new_receiver ∙ set_many ys i h.new_sender

pub changed_names : (i j : ℕ) (ys zs : List ChainState) → (i ≡ j → ⊥) → AreChanged i j ys zs → names_of zs ≡ names_of ys
changed_names i j ys zs apart h =
    ap names_of h.changed
    ∙ set_names (slice_set ys i h.new_sender) j h.old_receiver h.new_receiver (got_other ys i j h.new_sender (λ e. apart (sym e)) ∙ h.is_receiver) h.receiver_stays
    ∙ set_names ys i h.old_sender h.new_sender h.is_sender h.sender_stays

pub passed_between : (rules : ChainRules) (from : ChainId) (x : Waiting) (i j : ℕ) (o : Outcome) (ys zs : List ChainState) → (i ≡ j → ⊥) → AreBetweenSteps ys → IsPassed rules from x i j o ys zs → AreBetweenSteps zs
passed_between rules from x i j o ys zs apart all h =
    subst AreBetweenSteps (sym h.both.changed)
    (set_between (slice_set ys i h.both.new_sender) j h.both.old_receiver h.both.new_receiver (got_other ys i j h.both.new_sender (λ e. apart (sym e)) ∙ h.both.is_receiver)
    (set_between ys i h.both.old_sender h.both.new_sender h.both.is_sender all h.sender_between) h.receiver_between)

-- ---- where nothing is delivered
pub none_of : (o : Option Outgoing) → None ≡ option_map (λ (c : Outgoing). is_some (oldest c)) o → o ≡ None
none_of None e = refl
none_of (Some c) e = absurd cc

pub some_of : (waits : Bool) (o : Option Outgoing) → Some waits ≡ option_map (λ (c : Outgoing). is_some (oldest c)) o → is_some o ≡ true
some_of waits None e = absurd cc
some_of waits (Some c) e = refl

empty_by : (w : World) (f : Waiting → Stepped) (o : Option Waiting) → false ≡ is_some o → option_map_or f o (unchanged StepResult.Empty w) ≡ unchanged StepResult.Empty w
empty_by w f None e = refl
empty_by w f (Some x) e = absurd cc

pub empty_of : (w : World) (i j : ℕ) (s r : Member) (o : Option Outgoing) → Some false ≡ option_map (λ (c : Outgoing). is_some (oldest c)) o → delivery_of w i j s r o ≡ unchanged StepResult.Empty w
empty_of w i j s r None e = absurd cc
empty_of w i j s r (Some c) e = let none : false ≡ is_some (oldest c) = cc in empty_by w (λ message. delivered w i j s r message) (oldest c) none

pub apart_places : (w : World) (i j : ℕ) (s : Member) (to : ChainId) → slice_get w i ≡ Some s → place_of w to ≡ Some j → is_some (channel_to (chain_of s) s.part.channels) ≡ false → is_some (channel_to to s.part.channels) ≡ true → i ≡ j → ⊥
apart_places w i j s to at to_j none some same =
    let named = place_says w to j s to_j (ap (slice_get w) (sym same) ∙ at) in
    let both : false ≡ true = sym none ∙ ap (λ (c : ChainId). is_some (channel_to c s.part.channels)) named ∙ some in
    cc

pub other_chain : (rs : List ChainRules) (xs : List ChainState) (i j : ℕ) (rules : ChainRules) (taken : ChainState) (from to : ChainId) → (i ≡ j → ⊥) → slice_get rs j ≡ Some rules → place_of (world_in rs xs) from ≡ Some i → place_of (world_in rs xs) to ≡ Some j
    → IsOtherChain (slice_set xs i taken) j from
other_chain rs xs i j rules taken from to apart rules_j from_i to_j state at named =
    let here = sym (got_other xs i j taken (λ e. apart (sym e))) ∙ at in
    let is_to = place_says (world_in rs xs) to j (member_in rules state) to_j (member_at rs xs j rules state rules_j here) in
    let places : Some i ≡ Some j = sym from_i ∙ ap (place_of (world_in rs xs)) (sym named ∙ is_to) ∙ to_j in
    let same : i ≡ j = cc in
    apart same

pub carried_by : (xs : List ChainState) (i : ℕ) (s taken : ChainState) (to : ChainId) (x : Waiting) → slice_get xs i ≡ Some s → part_of taken ≡ without_message to (part_of s) → IsBetweenSteps (part_of s) → Some x ≡ oldest_to to (part_of s).channels → IsCarried (slice_set xs i taken) i x.cargo
carried_by xs i s taken to x at left_it h oldest_is state is =
    let same : taken ≡ state = same_seen _ taken state (got_set xs i s taken at) is in
    subst (λ (t : ChainState). IsListedCargo (listing (part_of t).rows) x.cargo) same
    (subst (λ (p : ChainPart). IsListedCargo (listing p.rows) x.cargo) (sym left_it) (oldest_listed (listing (part_of s).rows) to (part_of s).channels x h.shipped (sym oldest_is)))
