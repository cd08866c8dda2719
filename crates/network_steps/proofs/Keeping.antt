-- Steps keep what the document says of each chain.
use Rattle.std.proofs.Common.{◌≡◌, ℕ, zero, suc, Bool, true, false, List, [], ◌∷◌, Option, Some, None, Result, Ok, Err, refl, sym, ap, ◌∙◌}
use Rattle.std.specs.Prelude.{if◌then◌else◌, slice_get, slice_set}
use Rattle.std.specs.Option.{option_map_or}
use Rattle.chain_ids.specs.declared.chain.ChainId.{ChainId}
use Rattle.locations.specs.declared.relative.Location.{Location}
use Rattle.operands.specs.declared.error.XcmError.{XcmError}
use Rattle.operands.specs.declared.weight.Weight.{Weight}
use Rattle.weight_trader.specs.Purchases.{no_weight}
use Rattle.xcm_program.specs.declared.instruction.Instruction.{Instruction}
use Rattle.versioned_xcm.specs.declared.faults.MessageFault.{MessageFault}
use Rattle.versioned_xcm.specs.Reading.{message_of}
use Rattle.channel_parts.specs.declared.cargo.Cargo.{Cargo}
use Rattle.channel_parts.specs.declared.cargo.Cargo.TheVariants.{Nothing}
use Rattle.channel_parts.specs.declared.channel.Channel.{Channel}
use Rattle.channel_parts.specs.Channels.{Waiting, Outgoing, with_waiting}
use Rattle.chain_queues.specs.Queues.{leads_to, channel_to, oldest, without_oldest}
use Rattle.exec_base.specs.declared.event.Event.{Event}
use Rattle.exec_base.specs.Part.{ChainPart}
use Rattle.exec_base.specs.Sending.{channel_refusal}
use Rattle.exec_base.specs.Host.{told}
use Rattle.exec_rules.specs.declared.rules.ChainRules.{ChainRules}
use Rattle.network_steps.specs.declared.step_result.StepResult.{StepResult}
use Rattle.network_steps.specs.Worlds.{Member, chain_of, World, place_of, with_part, unchanged, Stepped}
use Rattle.network_steps.specs.Acting.{begun, Acted, acted, caller}
use Rattle.network_steps.specs.Steps.{is_sovereign, exec_read, exec_by, exec_at, exec, name_at, run_for, sender_after, receiver_after, delivered, delivery_of, deliver, is_claim, posted, posting, claim_by, claim_on, claim}
use Rattle.network_steps.proofs.Lemmas.CallerLaws.{by_caller}
use Rattle.asset_pools.specs.Exchanges.{is_pool_account}
use Rattle.network_steps.specs.Fixed.{Fixed, fixed_of, all_settings}
use Rattle.network_steps.proofs.Lemmas.StepLaws.{between_says}
use Rattle.network_steps.proofs.Lemmas.FixedLaws.{channels_kept, executed_fixed}

abbrev Said : Type 0
Said = ChainRules × Fixed

abbrev said : Member → Said
said m = (m.rules, fixed_of m.part)

same_said : (a b : Said) → Some a ≡ Some b → a ≡ b
same_said a b e = cc

same_member : (a b : Member) → Some a ≡ Some b → a ≡ b
same_member a b e = cc

-- ---- a member instead of one with the same settings
set_same : (w : World) (i : ℕ) (y : Member) → slice_get (all_settings w) i ≡ Some (said y) → all_settings (slice_set w i y) ≡ all_settings w
set_same [] i y e = refl
set_same (x ∷ xs) zero y e = ap (λ s. s ∷ all_settings xs) (sym (same_said (said x) (said y) e))
set_same (x ∷ xs) (suc i) y e = ap (λ s. said x ∷ s) (set_same xs i y e)

said_at : (w : World) (i : ℕ) (m : Member) → slice_get w i ≡ Some m → slice_get (all_settings w) i ≡ Some (said m)
said_at [] i m e = absurd (cc e)
said_at (x ∷ xs) zero m e = ap (λ (y : Member). Some (said y)) (same_member x m e)
said_at (x ∷ xs) (suc i) m e = said_at xs i m e

part_same : (w : World) (i : ℕ) (m : Member) (p : ChainPart) → slice_get (all_settings w) i ≡ Some (said m) → fixed_of p ≡ fixed_of m.part → all_settings (slice_set w i (with_part p m)) ≡ all_settings w
part_same w i m p at same = set_same w i (with_part p m) (at ∙ ap (λ (s : Fixed). Some (m.rules, s)) (sym same))

-- ---- a program at a chain
begun_fixed : (sender : ChainId) (cargo : Cargo) (p : ChainPart) → fixed_of (begun sender cargo p) ≡ fixed_of p
begun_fixed sender cargo p = refl

told_begun : (sender : ChainId) (cargo : Cargo) (p : ChainPart) (e : Event) → fixed_of (told (begun sender cargo p) e) ≡ fixed_of p
unfolding told
told_begun sender cargo p e = refl

acted_fixed : (rules : ChainRules) (origin : Location) (credit : Weight) (program : List Instruction) (p : ChainPart) → fixed_of (acted rules origin credit program p).part ≡ fixed_of p
acted_fixed rules origin credit program p = executed_fixed rules origin credit program p

-- ---- local executions
exec_read_same : (w : World) (place : ℕ) (m : Member) (account : List ℕ) (read : Result (List Instruction) MessageFault) → slice_get w place ≡ Some m → all_settings (exec_read w place m account read).world ≡ all_settings w
exec_read_same w place m account (Err fault) at = refl
exec_read_same w place m account (Ok program) at =
    part_same w place m (acted m.rules (caller account) m.rules.limit program (begun (chain_of m) Nothing m.part)).part (said_at w place m at)
    (acted_fixed m.rules (caller account) m.rules.limit program (begun (chain_of m) Nothing m.part))

exec_by_same : (w : World) (place : ℕ) (m : Member) (account : List ℕ) (read : Result (List Instruction) MessageFault) → slice_get w place ≡ Some m → all_settings (exec_by w place m account read).world ≡ all_settings w
exec_by_same w place m account read at = by_caller (λ (s : Stepped). all_settings s.world ≡ all_settings w) w (is_pool_account m.part.pools account) (exec_read w place m account read) refl (exec_read_same w place m account read at)

allowed_same : (w : World) (place : ℕ) (account bytes : List ℕ) (sovereign : Bool)
    → all_settings (if sovereign then unchanged StepResult.SovereignCaller w else option_map_or (λ (m : Member). exec_by w place m account (message_of bytes)) (slice_get w place) (unchanged StepResult.NoSuchChain w)).world ≡ all_settings w
allowed_same w place account bytes true = refl
allowed_same w place account bytes false =
    elim (slice_get w place) as (λ o. slice_get w place ≡ o → all_settings (option_map_or (λ (m : Member). exec_by w place m account (message_of bytes)) o (unchanged StepResult.NoSuchChain w)).world ≡ all_settings w) [
      | None ↦ λ e. refl
      | Some m ↦ λ e. exec_by_same w place m account (message_of bytes) e
    ] refl

exec_at_same : (w : World) (o : Option ℕ) (account bytes : List ℕ) → all_settings (exec_at w o account bytes).world ≡ all_settings w
exec_at_same w None account bytes = refl
exec_at_same w (Some place) account bytes = allowed_same w place account bytes (is_sovereign account)

pub exec_keeps : (w : World) (chain : ChainId) (account bytes : List ℕ) → all_settings (exec w chain account bytes).world ≡ all_settings w
unfolding exec
exec_keeps w chain account bytes = exec_at_same w (place_of w chain) account bytes

-- ---- deliveries
popped_fixed : (to : ChainId) (a : Acted) (p : ChainPart) → fixed_of (sender_after to a p) ≡ fixed_of p
popped_fixed to a p = ap (λ (cs : List Channel). record (fixed_of p) { channels = cs }) (channels_kept (leads_to to) without_oldest (λ c. refl) p.channels)

ran_fixed : (s r : Member) (x : Waiting) → fixed_of (receiver_after s.part (run_for s r x)) ≡ fixed_of r.part
ran_fixed s r x =
    acted_fixed r.rules (name_at (chain_of r) (chain_of s)) no_weight x.program (told (begun (chain_of s) x.cargo r.part) (Event.Message (chain_of s) (chain_of r) x.number))
    ∙ told_begun (chain_of s) x.cargo r.part (Event.Message (chain_of s) (chain_of r) x.number)

delivered_same : (w : World) (i j : ℕ) (s r : Member) (x : Waiting) → slice_get w i ≡ Some s → slice_get w j ≡ Some r → all_settings (delivered w i j s r x).world ≡ all_settings w
delivered_same w i j s r x is_s is_r =
    let s' = with_part (sender_after (chain_of r) (run_for s r x) s.part) s in
    let first : all_settings (slice_set w i s') ≡ all_settings w = part_same w i s (sender_after (chain_of r) (run_for s r x) s.part) (said_at w i s is_s) (popped_fixed (chain_of r) (run_for s r x) s.part) in
    part_same (slice_set w i s') j r (receiver_after s.part (run_for s r x)) (ap (λ xs. slice_get xs j) first ∙ said_at w j r is_r) (ran_fixed s r x) ∙ first

taken_same : (w : World) (i j : ℕ) (s r : Member) (o : Option Waiting) → slice_get w i ≡ Some s → slice_get w j ≡ Some r
    → all_settings (option_map_or (λ (message : Waiting). delivered w i j s r message) o (unchanged StepResult.Empty w)).world ≡ all_settings w
taken_same w i j s r None is_s is_r = refl
taken_same w i j s r (Some x) is_s is_r = delivered_same w i j s r x is_s is_r

delivery_same : (w : World) (i j : ℕ) (s r : Member) (o : Option Outgoing) → slice_get w i ≡ Some s → slice_get w j ≡ Some r → all_settings (delivery_of w i j s r o).world ≡ all_settings w
delivery_same w i j s r None is_s is_r = refl
delivery_same w i j s r (Some c) is_s is_r = taken_same w i j s r (oldest c) is_s is_r

pub deliver_keeps : (w : World) (from to : ChainId) → all_settings (deliver w from to).world ≡ all_settings w
unfolding deliver
deliver_keeps w from to =
    between_says w from to (unchanged StepResult.NoSuchChain w) (λ i j s r. delivery_of w i j s r (channel_to (chain_of r) s.part.channels)) (λ x. all_settings x.world ≡ all_settings w) refl
    (λ i j s r at_i at_j is_s is_r. delivery_same w i j s r (channel_to (chain_of r) s.part.channels) is_s is_r)

-- ---- claims
posted_fixed : (to : ChainId) (program : List Instruction) (p : ChainPart) → fixed_of (posted to program p) ≡ fixed_of p
posted_fixed to program p = ap (λ (cs : List Channel). record (fixed_of p) { channels = cs }) (channels_kept (leads_to to) (with_waiting program Nothing) (λ c. refl) p.channels)

posting_same : (w : World) (i : ℕ) (s : Member) (to : ChainId) (c : Outgoing) (program : List Instruction) (o : Option XcmError) → slice_get w i ≡ Some s → all_settings (posting w i s to c program o).world ≡ all_settings w
posting_same w i s to c program None is_s = part_same w i s (posted to program s.part) (said_at w i s is_s) (posted_fixed to program s.part)
posting_same w i s to c program (Some e) is_s = refl

claiming_same : (w : World) (i : ℕ) (s : Member) (to : ChainId) (c : Outgoing) (program : List Instruction) (b : Bool) → slice_get w i ≡ Some s
    → all_settings (if b then posting w i s to c program (channel_refusal (Some c) true program) else unchanged StepResult.NotAClaim w).world ≡ all_settings w
claiming_same w i s to c program true is_s = posting_same w i s to c program (channel_refusal (Some c) true program) is_s
claiming_same w i s to c program false is_s = refl

claim_by_same : (w : World) (i : ℕ) (s : Member) (to : ChainId) (c : Outgoing) (read : Result (List Instruction) MessageFault) → slice_get w i ≡ Some s → all_settings (claim_by w i s to c read).world ≡ all_settings w
claim_by_same w i s to c (Err fault) is_s = refl
claim_by_same w i s to c (Ok program) is_s = claiming_same w i s to c program (is_claim program) is_s

claim_on_same : (w : World) (i : ℕ) (s : Member) (to : ChainId) (o : Option Outgoing) (bytes : List ℕ) → slice_get w i ≡ Some s → all_settings (claim_on w i s to o bytes).world ≡ all_settings w
claim_on_same w i s to None bytes is_s = refl
claim_on_same w i s to (Some c) bytes is_s = claim_by_same w i s to c (message_of bytes) is_s

pub claim_keeps : (w : World) (from to : ChainId) (bytes : List ℕ) → all_settings (claim w from to bytes).world ≡ all_settings w
unfolding claim
claim_keeps w from to bytes =
    between_says w from to (unchanged StepResult.NoSuchChain w) (λ i j s r. claim_on w i s (chain_of r) (channel_to (chain_of r) s.part.channels) bytes) (λ x. all_settings x.world ≡ all_settings w) refl
    (λ i j s r at_i at_j is_s is_r. claim_on_same w i s (chain_of r) (channel_to (chain_of r) s.part.channels) bytes is_s)
