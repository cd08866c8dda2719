-- Where memory was refused to a call: each message that waits has its shape, and no account is lowered but those for which the step speaks.
use Rattle.std.proofs.Common.{◌≡◌, ◌⊎◌, ⊎_elim, ℕ, zero, suc, true, false, List, [], ◌∷◌, Option, Some, None, refl, sym, ap, ◌∙◌, subst}
use Rattle.std.specs.Prelude.{if◌then◌else◌, drop, slice_get, slice_set}
use Rattle.std.specs.Option.{option_and_then, option_map_or}
use Rattle.std.specs.List.{AllByRecursion}
use Rattle.locations.specs.declared.relative.Location.{Location}
use Rattle.operands.specs.declared.weight.Weight.{Weight}
use Rattle.chain_ids.specs.declared.chain.ChainId.{ChainId}
use Rattle.chain_ids.specs.Chains.{same_chain}
use Rattle.trust_tables.specs.declared.chains.Site.{Site}
use Rattle.trust_tables.specs.Accounts.{account_of}
use Rattle.plain_lists.specs.Firsts.{change_first}
use Rattle.weight_trader.specs.Purchases.{no_weight}
use Rattle.xcm_program.specs.declared.instruction.Instruction.{Instruction}
use Rattle.channel_parts.specs.declared.cargo.Cargo.{Cargo}
use Rattle.channel_parts.specs.Channels.{Waiting, Outgoing}
use Rattle.chain_queues.specs.Queues.{leads_to, channel_to, oldest, oldest_to, without_oldest, popped}
use Rattle.exec_base.specs.declared.event.Event.{Event}
use Rattle.exec_base.specs.Part.{ChainPart}
use Rattle.exec_base.specs.Host.{told}
use Rattle.exec_rules.specs.declared.rules.ChainRules.{ChainRules}
use Rattle.exec_rules.specs.Execution.{executed, IsAbandoned}
use Rattle.network_steps.specs.Worlds.{Member, World, chain_of, place_of, with_part}
use Rattle.network_steps.specs.Acting.{begun, caller, lost_of, booking_lost}
use Rattle.network_steps.specs.Steps.{without_message, name_at, waiting, Link, Step, Exec, Deliver, deliver, next_channel, deliveries}
use Rattle.law_steps.specs.Shapes.{IsShape, IsShaped, AreShapedIn, AreShapedAt, AllShaped}
use Rattle.network_steps.proofs.Lemmas.StepLaws.{between_at, place_says}
use Rattle.asset_pools.specs.Spending.{IsSpeaker}
use Rattle.law_authority.specs.Origins.{SpendsOf, SpendsOnly}
use Rattle.law_authority.specs.Speakers.{SpeaksFor, HasAuthority, HaveAuthority}
use Rattle.law_authority.proofs.Lemmas.SpendingLaws.{same_spends, lost_spends, spends_more, none_spent, one_spent, two_spent}
use Rattle.law_nets.specs.Stops.{ExecStopsAt, ExecStops, arrived, StandsAt, DeliverStops}

-- ---- shapes in a world
shaped_at : (w : World) (k : ℕ) (m : Member) → slice_get w k ≡ Some m → AllShaped w → AreShapedAt m.part
shaped_at [] k m e all = absurd cc
shaped_at (x ∷ w) zero m e all = let same : x ≡ m = cc in subst (λ (y : Member). AreShapedAt y.part) same all.0
shaped_at (x ∷ w) (suc k) m e all = shaped_at w k m e all.1

set_shaped : (w : World) (k : ℕ) (m : Member) → AllShaped w → AreShapedAt m.part → AllShaped (slice_set w k m)
set_shaped [] k m all one = all
set_shaped (x ∷ w) zero m all one = (one, all.1)
set_shaped (x ∷ w) (suc k) m all one = (all.0, set_shaped w k m all.1 one)

rest_shaped : (site : Site) (to : ChainId) (ms : List Waiting) → AllByRecursion (IsShaped site to) ms → AllByRecursion (IsShaped site to) (drop 1 ms)
rest_shaped site to [] all = all
rest_shaped site to (m ∷ ms) all = all.1

popped_shaped : (site : Site) (to : ChainId) (cs : List Outgoing) → AllByRecursion (AreShapedIn site) cs → AllByRecursion (AreShapedIn site) (popped to cs)
popped_shaped site to [] all = tt
popped_shaped site to (c ∷ cs) all =
    elim (same_chain c.channel.to to) as (λ b. AllByRecursion (AreShapedIn site) (if b then without_oldest c ∷ cs else c ∷ change_first (leads_to to) without_oldest cs)) [
      | true ↦ (rest_shaped site c.channel.to c.queue all.0, all.1)
      | false ↦ (all.0, popped_shaped site to cs all.1)
    ]

told_shaped : (p : ChainPart) (e : Event) → AreShapedAt p → AreShapedAt (told p e)
unfolding told
told_shaped p e all = all

-- ---- accounts
told_spends : (may : List ℕ → Type 0) (p : ChainPart) (e : Event) (q : ChainPart) → SpendsOf may (told p e) q → SpendsOf may p q
unfolding told
told_spends may p e q h = record { settings = h.settings; spends = h.spends; burns = h.burns }

told_site : (p : ChainPart) (e : Event) → (told p e).site ≡ p.site
unfolding told
told_site p e = refl

-- the laws of the crates below
pub record StopLaws : Type 0 where
  pub abandons_shaped : (rules : ChainRules) (origin : Location) (credit : Weight) (program : List Instruction) (p now : ChainPart) → IsAbandoned rules origin credit program p now → AreShapedAt p → AreShapedAt now
  pub executes_shaped : (rules : ChainRules) (origin : Location) (credit : Weight) (program : List Instruction) (p : ChainPart) → AreShapedAt p → AreShapedAt (executed rules origin credit program p).1
  pub waits_shaped : (w : World) (from to : ChainId) (i : ℕ) (sender : Member) (x : Waiting) → AllShaped w → place_of w from ≡ Some i → slice_get w i ≡ Some sender → waiting w from to ≡ Some x → IsShaped sender.part.site to x
  pub caller_lowers : (rules : ChainRules) (account : List ℕ) (credit : Weight) (program : List Instruction) (p now : ChainPart) → IsAbandoned rules (caller account) credit program p now → SpendsOnly (Some account) p now
  pub message_stopped : (here : Site) (there : ChainId) (cargo : Cargo) (rules : ChainRules) (origin : Location) (credit : Weight) (program : List Instruction) (p now : ChainPart)
      → IsShape here there program cargo → IsAbandoned rules origin credit program p now → SpendsOnly (account_of origin p.site) p now
  pub message_ended : (here : Site) (there : ChainId) (cargo : Cargo) (rules : ChainRules) (origin : Location) (credit : Weight) (program : List Instruction) (p : ChainPart)
      → IsShape here there program cargo → SpendsOnly (account_of origin p.site) p (executed rules origin credit program p).1

module _ (laws : StopLaws) (w : World) where
  -- ---- executions
  pub exec_shaped : (chain : ChainId) (account bytes : List ℕ) (now : World) → ExecStops w chain account bytes now → AllShaped w → AllShaped now
  exec_shaped chain account bytes now h all = ⊎_elim (λ (e : now ≡ w). subst AllShaped (sym e) all)
      (λ (s : ExecStopsAt w chain account bytes now).
      let before = begun s.member.part.site.chain _ s.member.part in
      let one : AreShapedAt s.stopped.0 = laws.abandons_shaped s.member.rules (caller account) s.member.rules.limit s.program before s.stopped.0 s.stopped.1 (shaped_at w s.place s.member s.is all) in
      subst AllShaped (sym s.rest) (set_shaped w s.place (with_part s.part s.member) all (subst AreShapedAt (sym s.stopped.2) one))) h

  pub exec_authorized : (chain : ChainId) (account bytes : List ℕ) (now : World) → ExecStops w chain account bytes now → HasAuthority w (Exec chain account bytes) now
  exec_authorized chain account bytes now h = ⊎_elim
      (λ (e : now ≡ w). subst (HasAuthority w (Exec chain account bytes)) (sym e) (none_spent w (SpeaksFor w (Exec chain account bytes))))
      (λ (s : ExecStopsAt w chain account bytes now).
      let begins = begun s.member.part.site.chain _ s.member.part in
      let may = SpeaksFor w (Exec chain account bytes) s.place s.member in
      let spent = spends_more (IsSpeaker (Some account)) may begins s.stopped.0 (λ who e. (s.found, same_account who e))
      (laws.caller_lowers s.member.rules account s.member.rules.limit s.program begins s.stopped.0 s.stopped.1) in
      subst (HasAuthority w (Exec chain account bytes)) (sym s.rest)
      (one_spent w s.place s.member (with_part s.part s.member) (SpeaksFor w (Exec chain account bytes)) s.is
      (subst (SpendsOf may s.member.part) (sym s.stopped.2) (record { settings = spent.settings; spends = spent.spends; burns = spent.burns })))) h
    where
      same_account : (who : List ℕ) → Some account ≡ Some who → who ≡ account
      same_account who e = cc

  -- ---- deliveries
  module _ (from to : ChainId) (now : World) (s : DeliverStops w from to now) where
    there : chain_of s.receiver ≡ to
    there = place_says w to s.receiver_place s.receiver s.receiver_found s.is_receiver

    waits_there : waiting w from to ≡ Some s.message
    waits_there =
        between_at w from to None (λ i j x y. option_and_then oldest (channel_to (chain_of y) x.part.channels)) s.sender_place s.receiver_place s.sender s.receiver s.sender_found s.receiver_found s.is_sender s.is_receiver
        ∙ ap (λ (c : ChainId). oldest_to c s.sender.part.channels) there ∙ s.waits

    abbrev origin : Location
    origin = name_at s.receiver.part.site.chain from

    abbrev begins : ChainPart
    begins = arrived from s.receiver.part s.message

    stands_shaped : (q : ChainPart) → StandsAt s.receiver.rules from s.message s.receiver.part q → AreShapedAt s.receiver.part → AreShapedAt q
    stands_shaped q h all = ⊎_elim (λ (e : q ≡ begun from s.message.cargo s.receiver.part). subst AreShapedAt (sym e) all)
        (λ (rest : IsAbandoned s.receiver.rules origin no_weight s.message.program begins q ⊎ (q ≡ (executed s.receiver.rules origin no_weight s.message.program begins).1)). ⊎_elim
        (λ (a : IsAbandoned s.receiver.rules origin no_weight s.message.program begins q). laws.abandons_shaped s.receiver.rules origin no_weight s.message.program begins q a (told_shaped (begun from s.message.cargo s.receiver.part) _ all))
        (λ (e : q ≡ (executed s.receiver.rules origin no_weight s.message.program begins).1). subst AreShapedAt (sym e) (laws.executes_shaped s.receiver.rules origin no_weight s.message.program begins (told_shaped (begun from s.message.cargo s.receiver.part) _ all)))
        rest) h

    pub deliver_shaped : AllShaped w → AllShaped now
    deliver_shaped all =
        let sender = with_part (booking_lost (lost_of s.left) (without_message to s.sender.part)) s.sender in
        let sends : AreShapedAt sender.part = popped_shaped s.sender.part.site to s.sender.part.channels (shaped_at w s.sender_place s.sender s.is_sender all) in
        let one : AreShapedAt s.part = subst AreShapedAt (sym s.stopped.2) (stands_shaped s.stopped.0 s.stopped.1 (shaped_at w s.receiver_place s.receiver s.is_receiver all)) in
        subst AllShaped (sym s.rest) (set_shaped (slice_set w s.sender_place sender) s.receiver_place (with_part s.part s.receiver) (set_shaped w s.sender_place sender all sends) one)

    begins_site : begins.site ≡ s.receiver.part.site
    begins_site = told_site (begun from s.message.cargo s.receiver.part) _

    stands_spend : AllShaped w → (q : ChainPart) → StandsAt s.receiver.rules from s.message s.receiver.part q → SpendsOnly (account_of origin s.receiver.part.site) s.receiver.part q
    stands_spend all q h =
        let shape : IsShaped s.sender.part.site to s.message = laws.waits_shaped w from to s.sender_place s.sender s.message all s.sender_found s.is_sender waits_there in
        let speaker = account_of origin s.receiver.part.site in
        let from_begun : (x : ChainPart) → SpendsOf (IsSpeaker (account_of origin begins.site)) (begun from s.message.cargo s.receiver.part) x → SpendsOnly speaker s.receiver.part x =
        λ x l. subst (λ (site : Site). SpendsOnly (account_of origin site) s.receiver.part x) begins_site (record { settings = l.settings; spends = l.spends; burns = l.burns }) in
        let from_begins : (x : ChainPart) → SpendsOnly (account_of origin begins.site) begins x → SpendsOnly speaker s.receiver.part x =
        λ x l. from_begun x (told_spends (IsSpeaker (account_of origin begins.site)) (begun from s.message.cargo s.receiver.part) _ x l) in
        ⊎_elim (λ (e : q ≡ begun from s.message.cargo s.receiver.part). subst (SpendsOnly speaker s.receiver.part) (sym e) (let same = same_spends (IsSpeaker speaker) s.receiver.part in record { settings = same.settings; spends = same.spends; burns = same.burns }))
        (λ (rest : IsAbandoned s.receiver.rules origin no_weight s.message.program begins q ⊎ (q ≡ (executed s.receiver.rules origin no_weight s.message.program begins).1)). ⊎_elim
        (λ (a : IsAbandoned s.receiver.rules origin no_weight s.message.program begins q).
        from_begins q (laws.message_stopped s.sender.part.site to s.message.cargo s.receiver.rules origin no_weight s.message.program begins q shape a))
        (λ (e : q ≡ (executed s.receiver.rules origin no_weight s.message.program begins).1).
        from_begins q (subst (SpendsOnly (account_of origin begins.site) begins) (sym e) (laws.message_ended s.sender.part.site to s.message.cargo s.receiver.rules origin no_weight s.message.program begins shape)))
        rest) h

    pub deliver_authorized : AllShaped w → HasAuthority w (Deliver from to) now
    deliver_authorized all =
        let sender = with_part (booking_lost (lost_of s.left) (without_message to s.sender.part)) s.sender in
        let may = SpeaksFor w (Deliver from to) s.receiver_place s.receiver in
        let back : to ≡ chain_of s.receiver = sym there in
        let spent = spends_more (IsSpeaker (account_of origin s.receiver.part.site)) may s.receiver.part s.stopped.0
        (λ who e. (s.receiver_found, (λ i. account_of (name_at (back i) from) s.receiver.part.site) ∙ e)) (stands_spend all s.stopped.0 s.stopped.1) in
        subst (HasAuthority w (Deliver from to)) (sym s.rest)
        (two_spent w s.sender_place s.receiver_place s.sender sender s.receiver (with_part s.part s.receiver) (SpeaksFor w (Deliver from to)) s.is_sender s.is_receiver (lost_spends (SpeaksFor w (Deliver from to) s.sender_place s.sender) to (lost_of s.left) s.sender.part)
        (subst (SpendsOf may s.receiver.part) (sym s.stopped.2) (record { settings = spent.settings; spends = spent.spends; burns = spent.burns })))

-- ---- the whole deliveries of a drain
by_next : (deliver_lowers : (w : World) (from to : ChainId) → AllShaped w → HasAuthority w (Deliver from to) (deliver w from to).world)
    → (deliver_shapes : (w : World) (from to : ChainId) → AllShaped w → AllShaped (deliver w from to).world)
    → (n : ℕ) (order : List Link) (w : World) (o : Option Link) → ((v : World) → AllShaped v → HaveAuthority v (deliveries n order v)) → AllShaped w
    → HaveAuthority w (option_map_or (λ (link : Link). (link, deliver w link.0 link.1) ∷ deliveries n order (deliver w link.0 link.1).world) o [])
by_next lowers shapes n order w None rest all = tt
by_next lowers shapes n order w (Some link) rest all = (lowers w link.0 link.1 all, rest (deliver w link.0 link.1).world (shapes w link.0 link.1 all))

pub deliveries_authorized : (deliver_lowers : (w : World) (from to : ChainId) → AllShaped w → HasAuthority w (Deliver from to) (deliver w from to).world)
    → (deliver_shapes : (w : World) (from to : ChainId) → AllShaped w → AllShaped (deliver w from to).world)
    → (n : ℕ) (order : List Link) (w : World) → AllShaped w → HaveAuthority w (deliveries n order w)
unfolding deliveries
deliveries_authorized lowers shapes zero order w all = tt
deliveries_authorized lowers shapes (suc n) order w all = by_next lowers shapes n order w (next_channel order w) (λ v. deliveries_authorized lowers shapes n order v) all

-- ---- nothing has changed
pub unchanged_authorized : (w : World) (step : Step) → HasAuthority w step w
unchanged_authorized w step = none_spent w (SpeaksFor w step)
