-- Each step of a network leaves only messages of the seven shapes.
use Rattle.std.proofs.Common.{◌≡◌, ℕ, zero, suc, Bool, true, false, List, [], ◌∷◌, Option, Some, None, Result, Ok, Err, inr, refl, sym, ap, ◌∙◌, subst}
use Rattle.std.specs.Prelude.{if◌then◌else◌, slice_get, slice_set, find}
use Rattle.std.specs.List.{AllByRecursion}
use Rattle.std.specs.Option.{option_map_or, option_and_then}
use Rattle.chain_ids.specs.declared.chain.ChainId.{ChainId}
use Rattle.chain_ids.proofs.Lemmas.{same_chain_told}
use Rattle.asset_lists.specs.declared.units.Asset.{Asset}
use Rattle.locations.specs.declared.relative.Location.{Location}
use Rattle.operands.specs.declared.error.XcmError.{XcmError}
use Rattle.operands.specs.declared.weight.Weight.{Weight}
use Rattle.weight_trader.specs.Purchases.{no_weight}
use Rattle.trust_tables.specs.declared.chains.Site.{Site}
use Rattle.xcm_program.specs.declared.instruction.Instruction.{Instruction, roll-Instruction, out-Instruction, roll-out-Instruction}
use Rattle.xcm_program.specs.declared.instruction.Instruction.TheOpen.{Instruction-F}
use Rattle.versioned_xcm.specs.declared.faults.MessageFault.{MessageFault}
use Rattle.versioned_xcm.specs.Reading.{message_of}
use Rattle.channel_parts.specs.declared.cargo.Cargo.{Cargo}
use Rattle.channel_parts.specs.declared.cargo.Cargo.TheVariants.{Nothing}
use Rattle.channel_parts.specs.Channels.{Waiting, Outgoing, with_waiting}
use Rattle.chain_queues.specs.Queues.{leads_to, channel_to, first_of, oldest, without_oldest}
use Rattle.exec_base.specs.declared.event.Event.{Event}
use Rattle.exec_base.specs.Part.{ChainPart}
use Rattle.exec_base.specs.Sending.{channel_refusal}
use Rattle.exec_base.specs.Host.{told}
use Rattle.exec_rules.specs.declared.rules.ChainRules.{ChainRules}
use Rattle.network_steps.specs.declared.step_result.StepResult.{StepResult}
use Rattle.network_steps.specs.Worlds.{Member, chain_of, World, place_of, with_part, unchanged, Stepped}
use Rattle.network_steps.specs.Acting.{begun, acted, caller}
use Rattle.network_steps.specs.Sends.{deliveries_left}
use Rattle.network_steps.specs.Steps.{is_sovereign, exec_read, exec_by, exec_at, exec, name_at, run_for, sender_after, receiver_after, delivered, delivery_of, deliver, is_claim_asset, is_clear_origin, is_claim, posted, posting, claim_by, claim_on, claim, Link, waiting, next_channel, deliveries, world_behind, Step, Exec, Deliver, Claim, Drain, Balances, Traps, Queues, Supply, next_world, worlds}
use Rattle.network_steps.proofs.Lemmas.CallerLaws.{by_caller}
use Rattle.asset_pools.specs.Exchanges.{is_pool_account}
use Rattle.law_steps.specs.Shapes.{IsShaped, IsLedByClaim, AreShapedIn, AreShapedAt, AllShaped, NothingWaits}
use Rattle.network_steps.proofs.Lemmas.StepLaws.{same_one, between_says, place_says}
use Rattle.law_steps.proofs.Channels.{changed_shaped, waiting_shaped, oldest_gone}
use Rattle.law_steps.proofs.Runs.{executed_shaped}
use Rattle.plain_lists.proofs.Lemmas.Facts.{both_true}

-- ---- nothing waits
empty_shaped : (here : Site) (c : Outgoing) → c.queue ≡ [] → AreShapedIn here c
empty_shaped here c e = subst (λ (q : List Waiting). AllByRecursion (IsShaped here c.channel.to) q) (sym e) tt

channels_shaped : (here : Site) (cs : List Outgoing) → AllByRecursion (λ (c : Outgoing). c.queue ≡ []) cs → AllByRecursion (AreShapedIn here) cs
channels_shaped here [] none = tt
channels_shaped here (c ∷ cs) none = (empty_shaped here c none.0, channels_shaped here cs none.1)

pub nothing_shaped : (w : World) → NothingWaits w → AllShaped w
nothing_shaped [] none = tt
nothing_shaped (m ∷ w) none = (channels_shaped m.part.site m.part.channels none.0, nothing_shaped w none.1)

-- ---- members
shaped_at : (w : World) (i : ℕ) (m : Member) → slice_get w i ≡ Some m → AllShaped w → AreShapedAt m.part
shaped_at [] i m e all = absurd (cc e)
shaped_at (x ∷ xs) zero m e all = subst (λ (y : Member). AreShapedAt y.part) (same_one (Some x) x m refl e) all.0
shaped_at (x ∷ xs) (suc i) m e all = shaped_at xs i m e all.1

set_shaped : (w : World) (i : ℕ) (y : Member) → AreShapedAt y.part → AllShaped w → AllShaped (slice_set w i y)
set_shaped [] i y new all = tt
set_shaped (x ∷ xs) zero y new all = (new, all.1)
set_shaped (x ∷ xs) (suc i) y new all = (all.0, set_shaped xs i y new all.1)

-- ---- a program at a chain
acted_shaped : (rules : ChainRules) (origin : Location) (credit : Weight) (program : List Instruction) (p : ChainPart) → AreShapedAt p → AreShapedAt (acted rules origin credit program p).part
acted_shaped rules origin credit program p all = executed_shaped rules origin credit program p all

told_begun : (sender : ChainId) (cargo : Cargo) (p : ChainPart) (e : Event) → AreShapedAt p → AreShapedAt (told (begun sender cargo p) e)
unfolding told
told_begun sender cargo p e all = all

-- ---- local executions
exec_read_shaped : (w : World) (place : ℕ) (m : Member) (account : List ℕ) (read : Result (List Instruction) MessageFault) → slice_get w place ≡ Some m → AllShaped w → AllShaped (exec_read w place m account read).world
exec_read_shaped w place m account (Err fault) at all = all
exec_read_shaped w place m account (Ok program) at all =
    set_shaped w place _ (acted_shaped m.rules (caller account) m.rules.limit program (begun (chain_of m) Nothing m.part) (shaped_at w place m at all)) all

exec_by_shaped : (w : World) (place : ℕ) (m : Member) (account : List ℕ) (read : Result (List Instruction) MessageFault) → slice_get w place ≡ Some m → AllShaped w → AllShaped (exec_by w place m account read).world
exec_by_shaped w place m account read at all = by_caller (λ (s : Stepped). AllShaped s.world) w (is_pool_account m.part.pools account) (exec_read w place m account read) all (exec_read_shaped w place m account read at all)

allowed_shaped : (w : World) (place : ℕ) (account bytes : List ℕ) (sovereign : Bool) → AllShaped w
    → AllShaped (if sovereign then unchanged StepResult.SovereignCaller w else option_map_or (λ (m : Member). exec_by w place m account (message_of bytes)) (slice_get w place) (unchanged StepResult.NoSuchChain w)).world
allowed_shaped w place account bytes true all = all
allowed_shaped w place account bytes false all =
    elim (slice_get w place) as (λ o. slice_get w place ≡ o → AllShaped (option_map_or (λ (m : Member). exec_by w place m account (message_of bytes)) o (unchanged StepResult.NoSuchChain w)).world) [
      | None ↦ λ e. all
      | Some m ↦ λ e. exec_by_shaped w place m account (message_of bytes) e all
    ] refl

exec_at_shaped : (w : World) (o : Option ℕ) (account bytes : List ℕ) → AllShaped w → AllShaped (exec_at w o account bytes).world
exec_at_shaped w None account bytes all = all
exec_at_shaped w (Some place) account bytes all = allowed_shaped w place account bytes (is_sovereign account) all

pub exec_shaped : (w : World) (chain : ChainId) (account bytes : List ℕ) → AllShaped w → AllShaped (exec w chain account bytes).world
unfolding exec
exec_shaped w chain account bytes all = exec_at_shaped w (place_of w chain) account bytes all

-- ---- deliveries
delivered_shaped : (w : World) (i j : ℕ) (s r : Member) (x : Waiting) → slice_get w i ≡ Some s → slice_get w j ≡ Some r → AllShaped w → AllShaped (delivered w i j s r x).world
delivered_shaped w i j s r x is_s is_r all =
    let s' = with_part (sender_after (chain_of r) (run_for s r x) s.part) s in
    let popped : AreShapedAt s'.part = changed_shaped s.part.site (leads_to (chain_of r)) without_oldest (λ c leads. oldest_gone s.part.site c) s.part.channels (shaped_at w i s is_s all) in
    let first : AllShaped (slice_set w i s') = set_shaped w i s' popped all in
    let begins = told_begun (chain_of s) x.cargo r.part (Event.Message (chain_of s) (chain_of r) x.number) (shaped_at w j r is_r all) in
    set_shaped (slice_set w i s') j (with_part (receiver_after s.part (run_for s r x)) r)
    (acted_shaped r.rules (name_at (chain_of r) (chain_of s)) no_weight x.program (told (begun (chain_of s) x.cargo r.part) (Event.Message (chain_of s) (chain_of r) x.number)) begins) first

taken_shaped : (w : World) (i j : ℕ) (s r : Member) (o : Option Waiting) → slice_get w i ≡ Some s → slice_get w j ≡ Some r → AllShaped w
    → AllShaped (option_map_or (λ (message : Waiting). delivered w i j s r message) o (unchanged StepResult.Empty w)).world
taken_shaped w i j s r None is_s is_r all = all
taken_shaped w i j s r (Some x) is_s is_r all = delivered_shaped w i j s r x is_s is_r all

delivery_shaped : (w : World) (i j : ℕ) (s r : Member) (o : Option Outgoing) → slice_get w i ≡ Some s → slice_get w j ≡ Some r → AllShaped w → AllShaped (delivery_of w i j s r o).world
delivery_shaped w i j s r None is_s is_r all = all
delivery_shaped w i j s r (Some c) is_s is_r all = taken_shaped w i j s r (oldest c) is_s is_r all

pub deliver_shaped : (w : World) (from to : ChainId) → AllShaped w → AllShaped (deliver w from to).world
unfolding deliver
deliver_shaped w from to all =
    between_says w from to (unchanged StepResult.NoSuchChain w) (λ i j s r. delivery_of w i j s r (channel_to (chain_of r) s.part.channels)) (λ x. AllShaped x.world) all
    (λ i j s r at_i at_j is_s is_r. delivery_shaped w i j s r (channel_to (chain_of r) s.part.channels) is_s is_r all)

-- ---- claims
record IsClaimAsset (l : Instruction-F Instruction) : Type 0 where
  list : List Asset
  ticket : Location
  is : l ≡ Instruction-F.ClaimAsset list ticket

claims_say : (x : Instruction) (l : Instruction-F Instruction) → out-Instruction x ≡ l → is_claim_asset x ≡ true → IsClaimAsset l
claims_say x (Instruction-F.ClaimAsset list ticket) e h = record { list = list; ticket = ticket; is = refl }
claims_say x l e h = absurd (let k = rw e at h in cc)

clears_say : (x : Instruction) (l : Instruction-F Instruction) → out-Instruction x ≡ l → is_clear_origin x ≡ true → l ≡ Instruction-F.ClearOrigin
clears_say x Instruction-F.ClearOrigin e h = refl
clears_say x l e h = absurd (let k = rw e at h in cc)

claim_says : (program : List Instruction) → is_claim program ≡ true → IsLedByClaim program
claim_says [] h = absurd cc
claim_says (x ∷ []) h = absurd cc
claim_says (x ∷ y ∷ behind) h =
    let both = both_true (is_claim_asset x) (is_clear_origin y) h in
    let first = claims_say x (out-Instruction x) refl both.0 in
    let second = clears_say y (out-Instruction y) refl both.1 in
    record {
      list = first.list;
      ticket = first.ticket;
      behind = behind;
      is = ap (λ (a : Instruction). a ∷ y ∷ behind) (sym (roll-out-Instruction x) ∙ ap roll-Instruction first.is)
          ∙ ap (λ (b : Instruction). roll-Instruction (Instruction-F.ClaimAsset first.list first.ticket) ∷ b ∷ behind) (sym (roll-out-Instruction y) ∙ ap roll-Instruction second);
    }

posted_shaped : (to : ChainId) (program : List Instruction) (p : ChainPart) → is_claim program ≡ true → AreShapedAt p → AreShapedAt (posted to program p)
posted_shaped to program p h all =
    changed_shaped p.site (leads_to to) (with_waiting program Nothing) (λ c leads. waiting_shaped p.site program Nothing c (inr (claim_says program h))) p.channels all

posting_shaped : (w : World) (i : ℕ) (s : Member) (to : ChainId) (c : Outgoing) (program : List Instruction) (o : Option XcmError) → is_claim program ≡ true → slice_get w i ≡ Some s → AllShaped w
    → AllShaped (posting w i s to c program o).world
posting_shaped w i s to c program None h is_s all = set_shaped w i (with_part (posted to program s.part) s) (posted_shaped to program s.part h (shaped_at w i s is_s all)) all
posting_shaped w i s to c program (Some e) h is_s all = all

claiming_shaped : (w : World) (i : ℕ) (s : Member) (to : ChainId) (c : Outgoing) (program : List Instruction) (b : Bool) → is_claim program ≡ b → slice_get w i ≡ Some s → AllShaped w
    → AllShaped (if b then posting w i s to c program (channel_refusal (Some c) true program) else unchanged StepResult.NotAClaim w).world
claiming_shaped w i s to c program true h is_s all = posting_shaped w i s to c program (channel_refusal (Some c) true program) h is_s all
claiming_shaped w i s to c program false h is_s all = all

claim_by_shaped : (w : World) (i : ℕ) (s : Member) (to : ChainId) (c : Outgoing) (read : Result (List Instruction) MessageFault) → slice_get w i ≡ Some s → AllShaped w → AllShaped (claim_by w i s to c read).world
claim_by_shaped w i s to c (Err fault) is_s all = all
claim_by_shaped w i s to c (Ok program) is_s all = claiming_shaped w i s to c program (is_claim program) refl is_s all

claim_on_shaped : (w : World) (i : ℕ) (s : Member) (to : ChainId) (o : Option Outgoing) (bytes : List ℕ) → slice_get w i ≡ Some s → AllShaped w → AllShaped (claim_on w i s to o bytes).world
claim_on_shaped w i s to None bytes is_s all = all
claim_on_shaped w i s to (Some c) bytes is_s all = claim_by_shaped w i s to c (message_of bytes) is_s all

pub claim_shaped : (w : World) (from to : ChainId) (bytes : List ℕ) → AllShaped w → AllShaped (claim w from to bytes).world
unfolding claim
claim_shaped w from to bytes all =
    between_says w from to (unchanged StepResult.NoSuchChain w) (λ i j s r. claim_on w i s (chain_of r) (channel_to (chain_of r) s.part.channels) bytes) (λ x. AllShaped x.world) all
    (λ i j s r at_i at_j is_s is_r. claim_on_shaped w i s (chain_of r) (channel_to (chain_of r) s.part.channels) bytes is_s all)

-- ---- drains, and all steps
deliveries_shaped : (n : ℕ) (order : List Link) (w : World) → AllShaped w → AllShaped (world_behind w (deliveries n order w))
unfolding deliveries
deliveries_shaped zero order w all = all
deliveries_shaped (suc n) order w all =
    elim (next_channel order w) as (λ o. AllShaped (world_behind w (option_map_or (λ (link : Link). (link, deliver w link.0 link.1) ∷ deliveries n order (deliver w link.0 link.1).world) o []))) [
      | None ↦ all
      | Some link ↦ deliveries_shaped n order (deliver w link.0 link.1).world (deliver_shaped w link.0 link.1 all)
    ]

pub after_shaped : (order : List Link) (w : World) (step : Step) → AllShaped w → AllShaped (next_world order w step)
after_shaped order w (Exec chain account bytes) all = exec_shaped w chain account bytes all
after_shaped order w (Deliver from to) all = deliver_shaped w from to all
after_shaped order w (Claim from to bytes) all = claim_shaped w from to bytes all
after_shaped order w Drain all = deliveries_shaped (deliveries_left w) order w all
after_shaped order w Balances all = all
after_shaped order w Traps all = all
after_shaped order w Queues all = all
after_shaped order w Supply all = all

pub worlds_shaped : (order : List Link) (w : World) (steps : List Step) → AllShaped w → AllByRecursion AllShaped (worlds order w steps)
worlds_shaped order w [] all = (all, tt)
worlds_shaped order w (step ∷ steps) all = (all, worlds_shaped order (next_world order w step) steps (after_shaped order w step all))

-- ---- what a delivery takes
first_shaped : (here : Site) (to : ChainId) (queue : List Waiting) (x : Waiting) → first_of queue ≡ Some x → AllByRecursion (IsShaped here to) queue → IsShaped here to x
first_shaped here to [] x e all = absurd cc
first_shaped here to (y ∷ more) x e all = subst (IsShaped here to) (same_message y x e) all.0
  where
    same_message : (a b : Waiting) → Some a ≡ Some b → a ≡ b
    same_message a b e = cc

found_shaped : (here : Site) (to : ChainId) (cs : List Outgoing) (x : Waiting) → option_and_then oldest (find (leads_to to) cs) ≡ Some x → AllByRecursion (AreShapedIn here) cs → IsShaped here to x
found_shaped here to [] x e all = absurd cc
found_shaped here to (c ∷ cs) x e all =
    elim (leads_to to c) as (λ b. leads_to to c ≡ b → option_and_then oldest (if b then Some c else find (leads_to to) cs) ≡ Some x → IsShaped here to x) [
      | true ↦ λ leads h. subst (λ (there : ChainId). IsShaped here there x) (same_chain_told c.channel.to to leads) (first_shaped here c.channel.to c.queue x h all.0)
      | false ↦ λ leads h. found_shaped here to cs x h all.1
    ] refl e

pub taken_is_shaped : (w : World) (from to : ChainId) (i : ℕ) (sender : Member) (x : Waiting) → AllShaped w → place_of w from ≡ Some i → slice_get w i ≡ Some sender → waiting w from to ≡ Some x → IsShaped sender.part.site to x
taken_is_shaped w from to i sender x all at is =
    between_says w from to None (λ k j s r. option_and_then oldest (channel_to (chain_of r) s.part.channels)) (λ o. o ≡ Some x → IsShaped sender.part.site to x) (λ e. absurd cc)
    (λ k j s r at_k at_j is_s is_r e.
    let same : s ≡ sender = same_one (slice_get w k) s sender is_s (ap (λ (n : ℕ). slice_get w n) (same_one (place_of w from) k i at_k at) ∙ is) in
    let here : IsShaped s.part.site (chain_of r) x = found_shaped s.part.site (chain_of r) s.part.channels x e (shaped_at w k s is_s all) in
    subst (λ (there : ChainId). IsShaped sender.part.site there x) (place_says w to j r at_j is_r) (subst (λ (m : Member). IsShaped m.part.site (chain_of r) x) same here))
