-- What a run leaves of a chain between two steps.
use Rattle.std.proofs.Common.{◌≡◌, ℕ, Bool, true, false, List, [], ◌∷◌, Some, Result, Ok, Err, ⊎_elim, inl, inr, refl, sym, ap, ◌∙◌, subst, map}
use Rattle.std.specs.Option.{option_map_or}
use Rattle.std.specs.declared.alloc.AllocError.{AllocError}
use Rattle.xcm_program.specs.declared.outcome.Outcome.{Outcome}
use Rattle.std.specs.Prelude.{◌⊎◌, IfOk, OnOk, OnErr, is_some, if◌then◌else◌, find}
use Rattle.locations.specs.declared.relative.Location.{Location}
use Rattle.operands.specs.declared.weight.Weight.{Weight}
use Rattle.chain_ids.specs.declared.chain.ChainId.{ChainId}
use Rattle.chain_ids.specs.Chains.{same_chain}
use Rattle.asset_lists.specs.Listed.{Listed}
use Rattle.trust_tables.specs.Chains.{location_of}
use Rattle.trust_tables.specs.declared.chains.Site.{Site}
use Rattle.versioned_xcm.specs.declared.faults.MessageFault.{MessageFault}
use Rattle.versioned_xcm.specs.declared.faults.MessageFault.TheVariants.{Memory}
use Rattle.chain_queues.specs.Decoded.{program_read}
use Rattle.versioned_xcm.specs.Reading.{message_of}
use Rattle.xcm_program.specs.declared.instruction.Instruction.{Instruction}
use Rattle.channel_parts.specs.declared.cargo.Cargo.{Cargo}
use Rattle.channel_parts.specs.declared.cargo.Cargo.TheVariants.{Nothing}
use Rattle.channel_parts.specs.declared.channel.Channel.{Channel}
use Rattle.weight_trader.specs.Purchases.{no_weight}
use Rattle.channel_parts.specs.Channels.{Waiting, Outgoing}
use Rattle.chain_queues.specs.Queues.{leads_to, channel_to}
use Rattle.exec_base.specs.declared.event.Event.{Event}
use Rattle.exec_base.specs.declared.event.Event.TheVariants as events
use Rattle.exec_base.specs.Part.{ChainPart}
use Rattle.exec_base.specs.Host.{told}
use Rattle.exec_rules.specs.Readiness.{IsAtRest}
use Rattle.exec_rules.specs.declared.rules.ChainRules.{ChainRules}
use Rattle.exec_rules.specs.Execution.{executed}
use Rattle.network_steps.specs.Acting.{begun, ended, acted, caller}
use Rattle.network_steps.specs.Steps.{nowhere, name_at}
use Rattle.network_steps.specs.Fixed.{Fixed, fixed_of}
use Rattle.law_nets.specs.Stops.{IsStoppedHere, arrived, StandsAt, IsStoppedThere}
use Rattle.chain_net.specs.Answers.{IsActed, IsUnread}
use Rattle.chain_net.specs.Sound.{IsListedCargo, IsBetweenSteps}
use Rattle.chain_net.proofs.Shipments.{IsCarrying, executed_ships, executed_lands, executed_said, executed_quiet, abandoned_lands, abandoned_site}

-- ---- whether a channel leads somewhere is said by the document
leads : ChainId → List Channel → Bool
leads to [] = false
leads to (c ∷ cs) = if same_chain c.to to then true else leads to cs

leads_by : (to : ChainId) (cs : List Outgoing) → is_some (channel_to to cs) ≡ leads to (map (λ (c : Outgoing). c.channel) cs)
unfolding leads
leads_by to [] = refl
leads_by to (c ∷ cs) =
    elim (same_chain c.channel.to to) as (λ b. is_some (if b then Some c else find (leads_to to) cs) ≡ (if b then true else leads to (map (λ (c : Outgoing). c.channel) cs))) [
      | true ↦ refl
      | false ↦ leads_by to cs
    ]

pub same_leads : (p q : ChainPart) → fixed_of q ≡ fixed_of p → is_some (channel_to q.site.chain q.channels) ≡ is_some (channel_to p.site.chain p.channels)
same_leads p q said =
    leads_by q.site.chain q.channels ∙ ap (λ (x : Fixed). leads x.site.chain x.channels) said ∙ sym (leads_by p.site.chain p.channels)

-- ---- the beginning and the end of a step
pub begun_is : (p : ChainPart) (sender : ChainId) (cargo : Cargo) → p.pending_events ≡ [] → record p { cargo = record { sender = sender; cargo = cargo }; events = [] } ≡ begun sender cargo p
begun_is p sender cargo quiet = λ i. record p { cargo = record { sender = sender; cargo = cargo }; events = []; pending_events = quiet i }

pub rest_begun : (p : ChainPart) (sender : ChainId) (cargo : Cargo) → IsAtRest p → IsAtRest (begun sender cargo p)
rest_begun p sender cargo rest = record { order = record { traps = rest.order.traps; rates = rest.order.rates; paid = rest.order.paid; pools = rest.order.pools; unparked = rest.order.unparked }; slot = rest.slot }

pub rest_told : (p : ChainPart) (e : Event) → IsAtRest p → IsAtRest (told p e)
unfolding told
rest_told p e rest = record { order = record { traps = rest.order.traps; rates = rest.order.rates; paid = rest.order.paid; pools = rest.order.pools; unparked = rest.order.unparked }; slot = rest.slot }

rest_ended : (p : ChainPart) → IsAtRest p → IsAtRest (ended p)
rest_ended p rest = record { order = record { traps = rest.order.traps; rates = rest.order.rates; paid = rest.order.paid; pools = rest.order.pools; unparked = rest.order.unparked }; slot = rest.slot }

pub carrying_begun : (far : List Listed) (p : ChainPart) (sender : ChainId) (cargo : Cargo) → IsBetweenSteps p → IsListedCargo far cargo → IsCarrying far (begun sender cargo p)
carrying_begun far p sender cargo h listed = record { rest = rest_begun p sender cargo h.rest; shipped_is = h.shipped; landing = listed }

pub carrying_told : (far : List Listed) (p : ChainPart) (e : Event) → IsCarrying far p → IsCarrying far (told p e)
unfolding told
carrying_told far p e h = record {
  rest = record { order = record { traps = h.rest.order.traps; rates = h.rest.order.rates; paid = h.rest.order.paid; pools = h.rest.order.pools; unparked = h.rest.order.unparked }; slot = h.rest.slot };
  shipped_is = h.shipped_is;
  landing = h.landing;
}

-- a run from a chain that carries something ends between two steps
pub between_after : (rules : ChainRules) (origin : Location) (credit : Weight) (program : List Instruction) (p : ChainPart) (far : List Listed) → IsCarrying far p → p.pending_events ≡ []
    → is_some (channel_to p.site.chain p.channels) ≡ false → IsAtRest (executed rules origin credit program p).1 → IsBetweenSteps (ended (executed rules origin credit program p).1)
between_after rules origin credit program p far h quiet apart rest = record {
  rest = rest_ended (executed rules origin credit program p).1 rest;
  landed = refl;
  told = executed_quiet rules origin credit program p quiet;
  shipped = executed_ships far rules origin credit program p h;
  apart = same_leads p (executed rules origin credit program p).1 (executed_said far rules origin credit program p h) ∙ apart;
}

-- a cargo of nothing is listed
pub nothing_listed : (far : List Listed) → IsListedCargo far Nothing
nothing_listed far = tt

pub carrying_nothing : (p : ChainPart) (sender : ChainId) → IsBetweenSteps p → IsCarrying [] (begun sender Nothing p)
carrying_nothing p sender h = carrying_begun [] p sender Nothing h tt

-- the chain's own step
pub here_between : (rules : ChainRules) (origin : Location) (credit : Weight) (program : List Instruction) (p now : ChainPart) (sender : ChainId) → IsBetweenSteps p
    → now ≡ ended (executed rules origin credit program (begun sender Nothing p)).1 → IsAtRest (executed rules origin credit program (begun sender Nothing p)).1 → IsBetweenSteps now
here_between rules origin credit program p now sender h is rest =
    subst IsBetweenSteps (sym is) (between_after rules origin credit program (begun sender Nothing p) [] (carrying_nothing p sender h) refl h.apart rest)

-- ---- the same run in other words
pub same_run : (P : Location → List Instruction → ChainPart → Type 0) (l m : Location) (program other : List Instruction) (p q : ChainPart) → l ≡ m → program ≡ other → p ≡ q → P l program p → P m other q
same_run P l m program other p q same_place same_program same_part h =
    subst (λ (r : ChainPart). P m other r) same_part (subst (λ (x : List Instruction). P m x p) same_program (subst (λ (k : Location). P k program p) same_place h))

pub started_is : (p q : ChainPart) (site : Site) (cargo : Cargo) → q ≡ record p { cargo = record { sender = site.chain; cargo = cargo }; events = [] } → site ≡ p.site → p.pending_events ≡ [] → q ≡ begun p.site.chain cargo p
started_is p q site cargo is same quiet = is ∙ ap (λ (s : Site). record p { cargo = record { sender = s.chain; cargo = cargo }; events = [] }) same ∙ begun_is p p.site.chain cargo quiet

pub here_stopped_site : (rules : ChainRules) (account : List ℕ) (program : List Instruction) (p now : ChainPart) → IsBetweenSteps p → IsStoppedHere rules account program p now → now.site ≡ p.site
here_stopped_site rules account program p now h s =
    ap (λ (q : ChainPart). q.site) s.2 ∙ abandoned_site [] rules (caller account) rules.limit program (begun p.site.chain Nothing p) s.0 (carrying_nothing p p.site.chain h) s.1

pub site_of_run : (far : List Listed) (rules : ChainRules) (origin : Location) (credit : Weight) (program : List Instruction) (p : ChainPart) → IsCarrying far p → (executed rules origin credit program p).1.site ≡ p.site
site_of_run far rules origin credit program p h = ap (λ (x : Fixed). x.site) (executed_said far rules origin credit program p h)

-- ---- a message at its receiver
read_program : (program : List Instruction) (r : Result (List Instruction) MessageFault) → (Ok program ≡ Err Memory) ⊎ (Ok program ≡ r) → program ≡ program_read r
read_program program r h = ⊎_elim (λ (e : ◌≡◌ {A = Result (List Instruction) MessageFault} (Ok program) (Err Memory)). absurd cc) (λ e. ap program_read e) h

pub message_run : (P : Location → List Instruction → ChainPart → Type 0) (p q : ChainPart) (from : ChainId) (site : Site) (number : ℕ) (l : Location) (program : List Instruction) (r : Result (List Instruction) MessageFault)
    → site ≡ p.site → Some l ≡ location_of site.chain from → (Ok program ≡ Err Memory) ⊎ (Ok program ≡ r) → q ≡ told p (events.Message from site.chain number)
    → P l program q → P (name_at p.site.chain from) (program_read r) (told p (events.Message from p.site.chain number))
message_run P p q from site number l program r same named read is h =
    same_run P l (name_at p.site.chain from) program (program_read r) q (told p (events.Message from p.site.chain number))
    (ap (λ o. option_map_or (λ (k : Location). k) o nowhere) (named ∙ ap (λ (s : Site). location_of s.chain from) same))
    (read_program program r read) (is ∙ ap (λ (s : Site). told p (events.Message from s.chain number)) same) h

-- where a message stopped, it was at some point
pub stands : (rules : ChainRules) (from : ChainId) (message : Waiting) (p q : ChainPart) → IsUnread rules (name_at p.site.chain from) message.program (begun from message.cargo p) (arrived from p message) q → StandsAt rules from message p q
stands rules from message p q h = ⊎_elim (λ e. inl e) (λ e. inr (inl e)) h

-- what is left of its cargo is what came, or nothing of it
pub stands_lands : (rules : ChainRules) (from : ChainId) (message : Waiting) (p q : ChainPart) (far : List Listed) → IsBetweenSteps p → StandsAt rules from message p q → IsListedCargo far message.cargo → IsListedCargo far q.cargo.cargo
stands_lands rules from message p q far h s listed =
    let carrying = carrying_told far (begun from message.cargo p) (events.Message from p.site.chain message.number) (carrying_begun far p from message.cargo h listed) in
    ⊎_elim (λ e. subst (λ (r : ChainPart). IsListedCargo far r.cargo.cargo) (sym e) listed)
    (⊎_elim (λ e. abandoned_lands far rules (name_at p.site.chain from) no_weight message.program (arrived from p message) q carrying e)
    (λ e. subst (λ (r : ChainPart). IsListedCargo far r.cargo.cargo) (sym e) (executed_lands far rules (name_at p.site.chain from) no_weight message.program (arrived from p message) carrying))) s

arrived_site : (from : ChainId) (p : ChainPart) (message : Waiting) → (arrived from p message).site ≡ p.site
unfolding told
arrived_site from p message = refl

pub carrying_arrived : (far : List Listed) (from : ChainId) (p : ChainPart) (message : Waiting) → IsBetweenSteps p → IsListedCargo far message.cargo → IsCarrying far (arrived from p message)
carrying_arrived far from p message h listed = carrying_told far (begun from message.cargo p) (events.Message from p.site.chain message.number) (carrying_begun far p from message.cargo h listed)

quiet_told : (p : ChainPart) (e : Event) → (told p e).pending_events ≡ []
unfolding told
quiet_told p e = refl

pub quiet_arrived : (from : ChainId) (p : ChainPart) (message : Waiting) → (arrived from p message).pending_events ≡ []
quiet_arrived from p message = quiet_told (begun from message.cargo p) (events.Message from p.site.chain message.number)

pub apart_arrived : (from : ChainId) (p : ChainPart) (message : Waiting) → is_some (channel_to p.site.chain p.channels) ≡ false → is_some (channel_to (arrived from p message).site.chain (arrived from p message).channels) ≡ false
unfolding told
apart_arrived from p message h = h

-- the chain is where it was
pub stands_site : (rules : ChainRules) (from : ChainId) (message : Waiting) (p q : ChainPart) (far : List Listed) → IsBetweenSteps p → IsListedCargo far message.cargo → StandsAt rules from message p q → q.site ≡ p.site
stands_site rules from message p q far h listed s =
    let carrying = carrying_arrived far from p message h listed in
    ⊎_elim (λ e. ap (λ (r : ChainPart). r.site) e)
    (⊎_elim (λ e. abandoned_site far rules (name_at p.site.chain from) no_weight message.program (arrived from p message) q carrying e ∙ arrived_site from p message)
    (λ e. ap (λ (r : ChainPart). r.site) e ∙ site_of_run far rules (name_at p.site.chain from) no_weight message.program (arrived from p message) carrying ∙ arrived_site from p message)) s

-- ---- a whole message
module _ (rules : ChainRules) (from : ChainId) (message : Waiting) (p : ChainPart) where
  abbrev last : (Outcome × Bool) × ChainPart
  last = executed rules (name_at p.site.chain from) no_weight message.program (arrived from p message)

  -- what reading and running it left
  pub record Ran (r : Result Outcome AllocError) (q : ChainPart) : Type 0 where
    pub outcome : IfOk r (λ o. o ≡ last.0.0)
    pub part : OnOk r (q ≡ last.1)
    pub rests : OnOk r (IsAtRest q)
    pub stopped : OnErr r (IsUnread rules (name_at p.site.chain from) message.program (begun from message.cargo p) (arrived from p message) q)

  abbrev told_of : ChainPart → ChainPart
  told_of b = told b (events.Message from b.site.chain message.number)

  abbrev last_of : ChainPart → (Outcome × Bool) × ChainPart
  last_of b = executed rules (name_at b.site.chain from) no_weight message.program (told_of b)

  pub ran_from : (b q : ChainPart) (r : Result Outcome AllocError) → b ≡ begun from message.cargo p → IfOk r (λ o. o ≡ (last_of b).0.0) → OnOk r (q ≡ (last_of b).1) → OnOk r (IsAtRest q)
      → OnErr r (IsUnread rules (name_at b.site.chain from) message.program b (told_of b) q) → Ran r q
  ran_from b q r is outcome part rests stopped = record {
    outcome = subst (λ (d : ChainPart). IfOk r (λ o. o ≡ (last_of d).0.0)) is outcome;
    part = subst (λ (d : ChainPart). OnOk r (q ≡ (last_of d).1)) is part;
    rests = rests;
    stopped = subst (λ (d : ChainPart). OnErr r (IsUnread rules (name_at d.site.chain from) message.program d (told_of d) q)) is stopped;
  }

  module _ (q now : ChainPart) (left : Cargo) (finished : now ≡ ended q) (left_is : left ≡ q.cargo.cargo) where
    pub ran_acted : (r : Result Outcome AllocError) → Ran r q → IfOk r (λ o. IsActed (acted rules (name_at p.site.chain from) no_weight message.program (arrived from p message)) o left now)
    ran_acted (Ok o) h = (h.outcome, left_is ∙ ap (λ (x : ChainPart). x.cargo.cargo) h.part, finished ∙ ap (λ (x : ChainPart). ended x) h.part)
    ran_acted (Err e) h = tt

    pub ran_stopped : (r : Result Outcome AllocError) → Ran r q → OnErr r (IsStoppedThere rules from message p now left)
    ran_stopped (Ok o) h = tt
    ran_stopped (Err e) h = (q, stands rules from message p q h.stopped, finished, left_is)

    module _ (between : IsBetweenSteps p) where
      pub ran_between : (far : List Listed) → IsListedCargo far message.cargo → (r : Result Outcome AllocError) → Ran r q → OnOk r (IsBetweenSteps now)
      ran_between far listed (Ok o) h =
          subst IsBetweenSteps (sym (finished ∙ ap (λ (x : ChainPart). ended x) h.part))
          (between_after rules (name_at p.site.chain from) no_weight message.program (arrived from p message) far (carrying_arrived far from p message between listed) (quiet_arrived from p message) (apart_arrived from p message between.apart) (subst IsAtRest h.part h.rests))
      ran_between far listed (Err e) h = tt

      pub ran_listed : (far : List Listed) → IsListedCargo far message.cargo → (r : Result Outcome AllocError) → Ran r q → IsListedCargo far left
      ran_listed far listed (Ok o) h =
          subst (IsListedCargo far) (sym (left_is ∙ ap (λ (x : ChainPart). x.cargo.cargo) h.part))
          (executed_lands far rules (name_at p.site.chain from) no_weight message.program (arrived from p message) (carrying_arrived far from p message between listed))
      ran_listed far listed (Err e) h = subst (IsListedCargo far) (sym left_is) (stands_lands rules from message p q far between (stands rules from message p q h.stopped) listed)

      pub ran_site : (far : List Listed) → IsListedCargo far message.cargo → (r : Result Outcome AllocError) → Ran r q → now.site ≡ p.site
      ran_site far listed (Ok o) h =
          ap (λ (x : ChainPart). x.site) (finished ∙ ap (λ (x : ChainPart). ended x) h.part)
          ∙ site_of_run far rules (name_at p.site.chain from) no_weight message.program (arrived from p message) (carrying_arrived far from p message between listed) ∙ arrived_site from p message
      ran_site far listed (Err e) h = ap (λ (x : ChainPart). x.site) finished ∙ stands_site rules from message p q far between listed (stands rules from message p q h.stopped)

abbrev waiting_with : ℕ → Cargo → List ℕ → Waiting
waiting_with number cargo bytes = record { number = number; program = program_read (message_of bytes); cargo = cargo }

-- the same from the bytes as they were read
pub ran_read : (rules : ChainRules) (from : ChainId) (number : ℕ) (cargo : Cargo) (read bytes : List ℕ) (p b q : ChainPart) (r : Result Outcome AllocError) → read ≡ bytes → b ≡ begun from cargo p
    → IfOk r (λ o. o ≡ (last_of rules from (waiting_with number cargo read) p b).0.0) → OnOk r (q ≡ (last_of rules from (waiting_with number cargo read) p b).1) → OnOk r (IsAtRest q)
    → OnErr r (IsUnread rules (name_at b.site.chain from) (program_read (message_of read)) b (told_of rules from (waiting_with number cargo read) p b) q)
    → Ran rules from (waiting_with number cargo bytes) p r q
ran_read rules from number cargo read bytes p b q r same is outcome part rests stopped =
    subst (λ (xs : List ℕ). Ran rules from (waiting_with number cargo xs) p r q) same (ran_from rules from (waiting_with number cargo read) p b q r is outcome part rests stopped)
