-- Whose amounts each step lowers.
use Rattle.std.proofs.Common.{◌≡◌, ℕ, zero, suc, Bool, true, false, List, [], ◌∷◌, Option, Some, None, Result, Ok, Err, refl, sym, ap, ◌∙◌, subst}
use Rattle.std.specs.Prelude.{if◌then◌else◌, slice_get}
use Rattle.std.specs.Option.{option_map_or, option_and_then}
use Rattle.chain_ids.specs.declared.chain.ChainId.{ChainId}
use Rattle.locations.specs.declared.relative.Location.{Location}
use Rattle.operands.specs.declared.error.XcmError.{XcmError}
use Rattle.operands.specs.declared.query.OpenQuery.{OpenQuery}
use Rattle.operands.specs.declared.weight.Weight.{Weight}
use Rattle.weight_trader.specs.Purchases.{no_weight}
use Rattle.trust_tables.specs.declared.chains.Site.{Site}
use Rattle.trust_tables.specs.Accounts.{account_of}
use Rattle.xcm_program.specs.declared.instruction.Instruction.{Instruction}
use Rattle.versioned_xcm.specs.declared.faults.MessageFault.{MessageFault}
use Rattle.versioned_xcm.specs.Reading.{message_of}
use Rattle.channel_parts.specs.declared.cargo.Cargo.{Cargo}
use Rattle.channel_parts.specs.declared.cargo.Cargo.TheVariants.{Nothing}
use Rattle.channel_parts.specs.Channels.{Waiting, Outgoing}
use Rattle.chain_queues.specs.Queues.{channel_to, oldest}
use Rattle.exec_base.specs.declared.event.Event.{Event}
use Rattle.exec_base.specs.Part.{ChainPart}
use Rattle.exec_base.specs.Sending.{channel_refusal}
use Rattle.exec_base.specs.Host.{told}
use Rattle.exec_rules.specs.declared.rules.ChainRules.{ChainRules}
use Rattle.exec_rules.specs.declared.admission.Admitted.{Admitted}
use Rattle.exec_rules.specs.Admission.{admitted}
use Rattle.network_steps.specs.declared.step_result.StepResult.{StepResult}
use Rattle.network_steps.specs.Worlds.{Member, chain_of, World, place_of, with_part, unchanged, Stepped}
use Rattle.network_steps.specs.Acting.{begun, lost_of}
use Rattle.network_steps.specs.Sends.{deliveries_left}
use Rattle.network_steps.specs.Steps.{is_sovereign, exec_read, exec_by, exec_at, exec, name_at, run_for, sender_after, receiver_after, delivered, delivery_of, deliver, is_claim, posted, posting, claim_by, claim_on, claim, Link, waiting, next_channel, deliveries, Step, Exec, Deliver, Claim, Drain, Balances, Traps, Queues, Supply, next_world}
use Rattle.network_steps.proofs.Lemmas.CallerLaws.{by_caller}
use Rattle.asset_pools.specs.Exchanges.{is_pool_account}
use Rattle.law_steps.specs.Shapes.{IsShape, IsShaped, AllShaped}
use Rattle.network_steps.proofs.Lemmas.StepLaws.{between_says, between_at, place_says}
use Rattle.asset_pools.specs.Spending.{IsSpeaker}
use Rattle.law_authority.specs.Origins.{SpendsOf, SpendsOnly}
use Rattle.law_authority.specs.Speakers.{HasAuthority, HaveAuthority, IsAuthorized, AreAuthorized}
use Rattle.law_authority.proofs.Lemmas.SpendingLaws.{same_spends, lost_spends, spends_more, OnlySpends, none_spent, one_spent, two_spent}
use Rattle.law_authority.proofs.Runs.{local_lowers}
use Rattle.law_authority.proofs.Messages.{message_lowers}

-- ---- local executions
same_account : (a b : List ℕ) → Some a ≡ Some b → b ≡ a
same_account a b e = cc

abbrev CallerSpeaks : World → ChainId → List ℕ → ℕ → Member → List ℕ → Type 0
CallerSpeaks w chain account place m who = (place_of w chain ≡ Some place) × (who ≡ account)

exec_read_falls : (w : World) (chain : ChainId) (place : ℕ) (m : Member) (account : List ℕ) (read : Result (List Instruction) MessageFault) → place_of w chain ≡ Some place → slice_get w place ≡ Some m
    → OnlySpends w (exec_read w place m account read).world (CallerSpeaks w chain account)
exec_read_falls w chain place m account (Err fault) at is = none_spent w (CallerSpeaks w chain account)
exec_read_falls w chain place m account (Ok program) at is =
    one_spent w place m _ (CallerSpeaks w chain account) is
    (let spent = spends_more (IsSpeaker (Some account)) (CallerSpeaks w chain account place m) _ _ (λ who e. (at, same_account account who e)) (local_lowers m.rules account m.rules.limit program (begun (chain_of m) Nothing m.part)) in
    record { settings = spent.settings; spends = spent.spends; burns = spent.burns })

exec_by_falls : (w : World) (chain : ChainId) (place : ℕ) (m : Member) (account : List ℕ) (read : Result (List Instruction) MessageFault) → place_of w chain ≡ Some place → slice_get w place ≡ Some m
    → OnlySpends w (exec_by w place m account read).world (CallerSpeaks w chain account)
exec_by_falls w chain place m account read at is =
    by_caller (λ (s : Stepped). OnlySpends w s.world (CallerSpeaks w chain account)) w (is_pool_account m.part.pools account) (exec_read w place m account read) (none_spent w (CallerSpeaks w chain account))
    (exec_read_falls w chain place m account read at is)

allowed_falls : (w : World) (chain : ChainId) (place : ℕ) (account bytes : List ℕ) (sovereign : Bool) → place_of w chain ≡ Some place
    → OnlySpends w (if sovereign then unchanged StepResult.SovereignCaller w else option_map_or (λ (m : Member). exec_by w place m account (message_of bytes)) (slice_get w place) (unchanged StepResult.NoSuchChain w)).world (CallerSpeaks w chain account)
allowed_falls w chain place account bytes true at = none_spent w (CallerSpeaks w chain account)
allowed_falls w chain place account bytes false at =
    elim (slice_get w place) as (λ o. slice_get w place ≡ o → OnlySpends w (option_map_or (λ (m : Member). exec_by w place m account (message_of bytes)) o (unchanged StepResult.NoSuchChain w)).world (CallerSpeaks w chain account)) [
      | None ↦ λ e. none_spent w (CallerSpeaks w chain account)
      | Some m ↦ λ e. exec_by_falls w chain place m account (message_of bytes) at e
    ] refl

exec_at_falls : (w : World) (chain : ChainId) (o : Option ℕ) (account bytes : List ℕ) → place_of w chain ≡ o → OnlySpends w (exec_at w o account bytes).world (CallerSpeaks w chain account)
exec_at_falls w chain None account bytes at = none_spent w (CallerSpeaks w chain account)
exec_at_falls w chain (Some place) account bytes at = allowed_falls w chain place account bytes (is_sovereign account) at

pub exec_authority : (w : World) (chain : ChainId) (account bytes : List ℕ) → HasAuthority w (Exec chain account bytes) (exec w chain account bytes).world
unfolding exec
exec_authority w chain account bytes = exec_at_falls w chain (place_of w chain) account bytes refl

-- ---- claims
abbrev NoneSpeaks : ℕ → Member → List ℕ → Type 0
NoneSpeaks place m who = ⊥

posting_falls : (w : World) (i : ℕ) (s : Member) (to : ChainId) (c : Outgoing) (program : List Instruction) (o : Option XcmError) → slice_get w i ≡ Some s → OnlySpends w (posting w i s to c program o).world NoneSpeaks
posting_falls w i s to c program None is = one_spent w i s (with_part (posted to program s.part) s) NoneSpeaks is (let same = same_spends (NoneSpeaks i s) s.part in record { settings = same.settings; spends = same.spends; burns = same.burns })
posting_falls w i s to c program (Some e) is = none_spent w NoneSpeaks

claiming_falls : (w : World) (i : ℕ) (s : Member) (to : ChainId) (c : Outgoing) (program : List Instruction) (b : Bool) → slice_get w i ≡ Some s
    → OnlySpends w (if b then posting w i s to c program (channel_refusal (Some c) true program) else unchanged StepResult.NotAClaim w).world NoneSpeaks
claiming_falls w i s to c program true is = posting_falls w i s to c program (channel_refusal (Some c) true program) is
claiming_falls w i s to c program false is = none_spent w NoneSpeaks

claim_by_falls : (w : World) (i : ℕ) (s : Member) (to : ChainId) (c : Outgoing) (read : Result (List Instruction) MessageFault) → slice_get w i ≡ Some s → OnlySpends w (claim_by w i s to c read).world NoneSpeaks
claim_by_falls w i s to c (Err fault) is = none_spent w NoneSpeaks
claim_by_falls w i s to c (Ok program) is = claiming_falls w i s to c program (is_claim program) is

claim_on_falls : (w : World) (i : ℕ) (s : Member) (to : ChainId) (o : Option Outgoing) (bytes : List ℕ) → slice_get w i ≡ Some s → OnlySpends w (claim_on w i s to o bytes).world NoneSpeaks
claim_on_falls w i s to None bytes is = none_spent w NoneSpeaks
claim_on_falls w i s to (Some c) bytes is = claim_by_falls w i s to c (message_of bytes) is

pub claim_authority : (w : World) (from to : ChainId) (bytes : List ℕ) → HasAuthority w (Claim from to bytes) (claim w from to bytes).world
unfolding claim
claim_authority w from to bytes =
    between_says w from to (unchanged StepResult.NoSuchChain w) (λ i j s r. claim_on w i s (chain_of r) (channel_to (chain_of r) s.part.channels) bytes) (λ x. OnlySpends w x.world NoneSpeaks) (none_spent w NoneSpeaks)
    (λ i j s r at_i at_j is_s is_r. claim_on_falls w i s (chain_of r) (channel_to (chain_of r) s.part.channels) bytes is_s)

-- ---- deliveries
abbrev Taken : Type 0
Taken = (w : World) (from to : ChainId) (i : ℕ) (sender : Member) (x : Waiting) → AllShaped w → place_of w from ≡ Some i → slice_get w i ≡ Some sender → waiting w from to ≡ Some x → IsShaped sender.part.site to x

abbrev LetIn : Type 0
LetIn = (here : Site) (there : ChainId) (program : List Instruction) (cargo : Cargo) (rules : ChainRules) (origin : Location) (credit : Weight) (queries : List OpenQuery) (a : Admitted)
    → IsShape here there program cargo → admitted rules origin credit queries program ≡ Ok a → IsShape here there a.program cargo

abbrev SenderSpeaks : World → ChainId → ChainId → ℕ → Member → List ℕ → Type 0
SenderSpeaks w from to place m who = (place_of w to ≡ Some place) × (account_of (name_at to from) m.part.site ≡ Some who)

told_site : (sender : ChainId) (cargo : Cargo) (p : ChainPart) (e : Event) → (told (begun sender cargo p) e).site ≡ p.site
unfolding told
told_site sender cargo p e = refl

told_spends : (may : List ℕ → Type 0) (sender : ChainId) (cargo : Cargo) (p : ChainPart) (e : Event) (q : ChainPart) → SpendsOf may (told (begun sender cargo p) e) q → SpendsOf may p q
unfolding told
told_spends may sender cargo p e q h = record { settings = h.settings; spends = h.spends; burns = h.burns }

module _ (taken : Taken) (let_in : LetIn) where
  -- at the receiver
  run_spends : (s r : Member) (x : Waiting) → IsShaped s.part.site (chain_of r) x → SpendsOnly (account_of (name_at (chain_of r) (chain_of s)) r.part.site) r.part (receiver_after s.part (run_for s r x))
  run_spends s r x shape =
      let origin = name_at (chain_of r) (chain_of s) in
      let event = Event.Message (chain_of s) (chain_of r) x.number in
      let p = told (begun (chain_of s) x.cargo r.part) event in
      let lowers = message_lowers r.rules origin p s.part.site (chain_of r) x.cargo (admitted r.rules origin no_weight p.queries x.program)
      (λ a e. let_in s.part.site (chain_of r) x.program x.cargo r.rules origin no_weight p.queries a shape e) in
      subst (λ (site : Site). SpendsOnly (account_of origin site) r.part (receiver_after s.part (run_for s r x))) (told_site (chain_of s) x.cargo r.part event)
      (told_spends (IsSpeaker (account_of origin p.site)) (chain_of s) x.cargo r.part event (receiver_after s.part (run_for s r x)) (record { settings = lowers.settings; spends = lowers.spends; burns = lowers.burns }))

  module _ (w : World) (from to : ChainId) (all : AllShaped w) (i j : ℕ) (s r : Member) (at_i : place_of w from ≡ Some i) (at_j : place_of w to ≡ Some j) (is_s : slice_get w i ≡ Some s) (is_r : slice_get w j ≡ Some r) where
    is_waiting : (x : Waiting) → option_and_then oldest (channel_to (chain_of r) s.part.channels) ≡ Some x → waiting w from to ≡ Some x
    is_waiting x e = between_at w from to None (λ i j s r. option_and_then oldest (channel_to (chain_of r) s.part.channels)) i j s r at_i at_j is_s is_r ∙ e

    delivered_falls : (x : Waiting) → option_and_then oldest (channel_to (chain_of r) s.part.channels) ≡ Some x → OnlySpends w (delivered w i j s r x).world (SenderSpeaks w from to)
    delivered_falls x e =
        let there : chain_of r ≡ to = place_says w to j r at_j is_r in
        let here : chain_of s ≡ from = place_says w from i s at_i is_s in
        let shape : IsShaped s.part.site (chain_of r) x = subst (λ (c : ChainId). IsShaped s.part.site c x) (sym there) (taken w from to i s x all at_i is_s (is_waiting x e)) in
        two_spent w i j s (with_part (sender_after (chain_of r) (run_for s r x) s.part) s) r (with_part (receiver_after s.part (run_for s r x)) r) (SenderSpeaks w from to) is_s is_r
        (lost_spends (SenderSpeaks w from to i s) (chain_of r) (lost_of (run_for s r x).left) s.part)
        (spends_more (IsSpeaker (account_of (name_at (chain_of r) (chain_of s)) r.part.site)) (SenderSpeaks w from to j r) r.part (receiver_after s.part (run_for s r x))
        (λ who e. (
          at_j,
          subst (λ (c : ChainId). account_of (name_at c from) r.part.site ≡ Some who) there (subst (λ (c : ChainId). account_of (name_at (chain_of r) c) r.part.site ≡ Some who) here e),
        )) (run_spends s r x shape))

    oldest_falls : (o : Option Waiting) → option_and_then oldest (channel_to (chain_of r) s.part.channels) ≡ o
        → OnlySpends w (option_map_or (λ (message : Waiting). delivered w i j s r message) o (unchanged StepResult.Empty w)).world (SenderSpeaks w from to)
    oldest_falls None e = none_spent w (SenderSpeaks w from to)
    oldest_falls (Some x) e = delivered_falls x e

    delivery_falls : (o : Option Outgoing) → channel_to (chain_of r) s.part.channels ≡ o → OnlySpends w (delivery_of w i j s r o).world (SenderSpeaks w from to)
    delivery_falls None e = none_spent w (SenderSpeaks w from to)
    delivery_falls (Some c) e = oldest_falls (oldest c) (ap (option_and_then oldest) e)

  pub deliver_authority : (w : World) (from to : ChainId) → AllShaped w → HasAuthority w (Deliver from to) (deliver w from to).world
  unfolding deliver
  deliver_authority w from to all =
      between_says w from to (unchanged StepResult.NoSuchChain w) (λ i j s r. delivery_of w i j s r (channel_to (chain_of r) s.part.channels)) (λ x. OnlySpends w x.world (SenderSpeaks w from to)) (none_spent w (SenderSpeaks w from to))
      (λ i j s r at_i at_j is_s is_r. delivery_falls w from to all i j s r at_i at_j is_s is_r (channel_to (chain_of r) s.part.channels) refl)

  -- ---- drains, and all steps
  module _ (delivers : (w : World) (from to : ChainId) → AllShaped w → AllShaped (deliver w from to).world) where
    deliveries_authority : (n : ℕ) (order : List Link) (w : World) → AllShaped w → HaveAuthority w (deliveries n order w)
    unfolding deliveries
    deliveries_authority zero order w all = tt
    deliveries_authority (suc n) order w all =
        elim (next_channel order w) as (λ o. HaveAuthority w (option_map_or (λ (link : Link). (link, deliver w link.0 link.1) ∷ deliveries n order (deliver w link.0 link.1).world) o [])) [
          | None ↦ tt
          | Some link ↦ (deliver_authority w link.0 link.1 all, deliveries_authority n order (deliver w link.0 link.1).world (delivers w link.0 link.1 all))
        ]

    pub after_authority : (order : List Link) (w : World) (step : Step) → AllShaped w → IsAuthorized order w step
    after_authority order w (Exec chain account bytes) all = exec_authority w chain account bytes
    after_authority order w (Deliver from to) all = deliver_authority w from to all
    after_authority order w (Claim from to bytes) all = claim_authority w from to bytes
    after_authority order w Drain all = deliveries_authority (deliveries_left w) order w all
    after_authority order w Balances all = none_spent w NoneSpeaks
    after_authority order w Traps all = none_spent w NoneSpeaks
    after_authority order w Queues all = none_spent w NoneSpeaks
    after_authority order w Supply all = none_spent w NoneSpeaks

    pub worlds_authority : ((order : List Link) (w : World) (step : Step) → AllShaped w → AllShaped (next_world order w step)) → (order : List Link) (w : World) (steps : List Step) → AllShaped w → AreAuthorized order w steps
    worlds_authority stays order w [] all = tt
    worlds_authority stays order w (step ∷ steps) all = (after_authority order w step all, worlds_authority stays order (next_world order w step) steps (stays order w step all))
