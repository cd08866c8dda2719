-- Steps that change nothing, and the chains that a step doesn't reach.
use Rattle.std.proofs.Common.{◌≡◌, ℕ, zero, suc, Bool, true, false, if◌then◌else◌, List, [], ◌∷◌, Option, Some, None, Result, Ok, Err, refl, ap, ◌∙◌}
use Rattle.std.specs.Prelude.{slice_get, slice_set}
use Rattle.std.specs.Option.{option_map_or}
use Rattle.chain_ids.specs.declared.chain.ChainId.{ChainId}
use Rattle.operands.specs.declared.error.XcmError.{XcmError}
use Rattle.xcm_program.specs.declared.instruction.Instruction.{Instruction}
use Rattle.versioned_xcm.specs.declared.faults.MessageFault.{MessageFault}
use Rattle.versioned_xcm.specs.Reading.{message_of}
use Rattle.channel_parts.specs.Channels.{Waiting, Outgoing}
use Rattle.chain_queues.specs.Queues.{channel_to, oldest}
use Rattle.exec_base.specs.Sending.{channel_refusal}
use Rattle.network_steps.specs.declared.step_result.StepResult.{StepResult}
use Rattle.network_steps.specs.Worlds.{Member, chain_of, World, place_of, Stepped, unchanged}
use Rattle.network_steps.specs.Steps.{is_sovereign, exec_read, exec_by, exec_at, exec, delivered, delivery_of, deliver, is_claim, posting, claim_by, claim_on, claim}
use Rattle.network_steps.proofs.Lemmas.CallerLaws.{by_caller}
use Rattle.network_steps.proofs.Lemmas.StepLaws.{same_one, between_says}
use Rattle.asset_pools.specs.Exchanges.{is_pool_account}
use Rattle.network_steps.specs.Still.{IsStill}

-- ---- tools
still_option : {A : Type 0} (w : World) (o : Option A) (f : A → Stepped) → ((x : A) → IsStill (f x) w) → IsStill (option_map_or f o (unchanged StepResult.NoSuchChain w)) w
still_option w None f h = (refl, refl)
still_option w (Some x) f h = h x

kept_option : {A : Type 0} (w : World) (k : ℕ) (o : Option A) (f : A → Stepped) → ((x : A) → slice_get (f x).world k ≡ slice_get w k)
    → slice_get (option_map_or f o (unchanged StepResult.NoSuchChain w)).world k ≡ slice_get w k
kept_option w k None f h = refl
kept_option w k (Some x) f h = h x

pub set_other : (w : World) (c d : ℕ) (m : Member) → (d ≡ c → ⊥) → slice_get (slice_set w c m) d ≡ slice_get w d
set_other [] c d m n = refl
set_other (x ∷ xs) zero zero m n = absurd (n refl)
set_other (x ∷ xs) zero (suc d) m n = refl
set_other (x ∷ xs) (suc c) zero m n = refl
set_other (x ∷ xs) (suc c) (suc d) m n = set_other xs c d m (λ e. n (ap suc e))

-- ---- local executions
exec_read_still : (w : World) (place : ℕ) (m : Member) (account : List ℕ) (read : Result (List Instruction) MessageFault) → IsStill (exec_read w place m account read) w
exec_read_still w place m account (Err fault) = (refl, refl)
exec_read_still w place m account (Ok program) = tt

exec_by_still : (w : World) (place : ℕ) (m : Member) (account : List ℕ) (read : Result (List Instruction) MessageFault) → IsStill (exec_by w place m account read) w
exec_by_still w place m account read = by_caller (λ (s : Stepped). IsStill s w) w (is_pool_account m.part.pools account) (exec_read w place m account read) (refl, refl) (exec_read_still w place m account read)

exec_read_kept : (w : World) (place k : ℕ) (m : Member) (account : List ℕ) (read : Result (List Instruction) MessageFault) → (k ≡ place → ⊥)
    → slice_get (exec_read w place m account read).world k ≡ slice_get w k
exec_read_kept w place k m account (Err fault) apart = refl
exec_read_kept w place k m account (Ok program) apart = set_other w place k _ apart

exec_by_kept : (w : World) (place k : ℕ) (m : Member) (account : List ℕ) (read : Result (List Instruction) MessageFault) → (k ≡ place → ⊥)
    → slice_get (exec_by w place m account read).world k ≡ slice_get w k
exec_by_kept w place k m account read apart = by_caller (λ (s : Stepped). slice_get s.world k ≡ slice_get w k) w (is_pool_account m.part.pools account) (exec_read w place m account read) refl (exec_read_kept w place k m account read apart)

allowed_still : (w : World) (place : ℕ) (account bytes : List ℕ) (sovereign : Bool)
    → IsStill (if sovereign then unchanged StepResult.SovereignCaller w else option_map_or (λ (m : Member). exec_by w place m account (message_of bytes)) (slice_get w place) (unchanged StepResult.NoSuchChain w)) w
allowed_still w place account bytes true = (refl, refl)
allowed_still w place account bytes false = still_option w (slice_get w place) (λ m. exec_by w place m account (message_of bytes)) (λ m. exec_by_still w place m account (message_of bytes))

allowed_kept : (w : World) (place k : ℕ) (account bytes : List ℕ) (sovereign : Bool) → (k ≡ place → ⊥)
    → slice_get (if sovereign then unchanged StepResult.SovereignCaller w else option_map_or (λ (m : Member). exec_by w place m account (message_of bytes)) (slice_get w place) (unchanged StepResult.NoSuchChain w)).world k ≡ slice_get w k
allowed_kept w place k account bytes true apart = refl
allowed_kept w place k account bytes false apart = kept_option w k (slice_get w place) (λ m. exec_by w place m account (message_of bytes)) (λ m. exec_by_kept w place k m account (message_of bytes) apart)

exec_at_still : (w : World) (o : Option ℕ) (account bytes : List ℕ) → IsStill (exec_at w o account bytes) w
exec_at_still w None account bytes = (refl, refl)
exec_at_still w (Some place) account bytes = allowed_still w place account bytes (is_sovereign account)

pub exec_still : (w : World) (chain : ChainId) (account bytes : List ℕ) → IsStill (exec w chain account bytes) w
unfolding exec
exec_still w chain account bytes = exec_at_still w (place_of w chain) account bytes

pub exec_elsewhere : (w : World) (chain : ChainId) (account bytes : List ℕ) (i k : ℕ) → place_of w chain ≡ Some i → (k ≡ i → ⊥) → slice_get (exec w chain account bytes).world k ≡ slice_get w k
unfolding exec
exec_elsewhere w chain account bytes i k at apart =
    ap (λ o. slice_get (exec_at w o account bytes).world k) at ∙ allowed_kept w i k account bytes (is_sovereign account) apart

-- ---- deliveries
taken_still : (w : World) (i j : ℕ) (s r : Member) (o : Option Waiting) → IsStill (option_map_or (λ (message : Waiting). delivered w i j s r message) o (unchanged StepResult.Empty w)) w
taken_still w i j s r None = (refl, refl)
taken_still w i j s r (Some message) = tt

delivery_still : (w : World) (i j : ℕ) (s r : Member) (o : Option Outgoing) → IsStill (delivery_of w i j s r o) w
delivery_still w i j s r None = (refl, refl)
delivery_still w i j s r (Some c) = taken_still w i j s r (oldest c)

taken_kept : (w : World) (i j k : ℕ) (s r : Member) (o : Option Waiting) → (k ≡ i → ⊥) → (k ≡ j → ⊥)
    → slice_get (option_map_or (λ (message : Waiting). delivered w i j s r message) o (unchanged StepResult.Empty w)).world k ≡ slice_get w k
taken_kept w i j k s r None not_i not_j = refl
taken_kept w i j k s r (Some message) not_i not_j = set_other (slice_set w i _) j k _ not_j ∙ set_other w i k _ not_i

delivery_kept : (w : World) (i j k : ℕ) (s r : Member) (o : Option Outgoing) → (k ≡ i → ⊥) → (k ≡ j → ⊥) → slice_get (delivery_of w i j s r o).world k ≡ slice_get w k
delivery_kept w i j k s r None not_i not_j = refl
delivery_kept w i j k s r (Some c) not_i not_j = taken_kept w i j k s r (oldest c) not_i not_j

pub deliver_still : (w : World) (from to : ChainId) → IsStill (deliver w from to) w
unfolding deliver
deliver_still w from to =
    between_says w from to (unchanged StepResult.NoSuchChain w) (λ i j s r. delivery_of w i j s r (channel_to (chain_of r) s.part.channels)) (λ x. IsStill x w) (refl, refl)
    (λ i j s r at_i at_j is_s is_r. delivery_still w i j s r (channel_to (chain_of r) s.part.channels))

pub deliver_elsewhere : (w : World) (from to : ChainId) (i j k : ℕ) → place_of w from ≡ Some i → place_of w to ≡ Some j → (k ≡ i → ⊥) → (k ≡ j → ⊥) → slice_get (deliver w from to).world k ≡ slice_get w k
unfolding deliver
deliver_elsewhere w from to i j k at_i at_j not_i not_j =
    between_says w from to (unchanged StepResult.NoSuchChain w) (λ i j s r. delivery_of w i j s r (channel_to (chain_of r) s.part.channels)) (λ x. slice_get x.world k ≡ slice_get w k) refl
    (λ a b s r at_a at_b is_s is_r. delivery_kept w a b k s r (channel_to (chain_of r) s.part.channels) (λ e. not_i (e ∙ same_one _ a i at_a at_i)) (λ e. not_j (e ∙ same_one _ b j at_b at_j)))

-- ---- claims
posting_still : (w : World) (i : ℕ) (s : Member) (to : ChainId) (c : Outgoing) (program : List Instruction) (o : Option XcmError) → IsStill (posting w i s to c program o) w
posting_still w i s to c program None = tt
posting_still w i s to c program (Some e) = (refl, refl)

claiming_still : (w : World) (i : ℕ) (s : Member) (to : ChainId) (c : Outgoing) (program : List Instruction) (b : Bool)
    → IsStill (if b then posting w i s to c program (channel_refusal (Some c) true program) else unchanged StepResult.NotAClaim w) w
claiming_still w i s to c program true = posting_still w i s to c program (channel_refusal (Some c) true program)
claiming_still w i s to c program false = (refl, refl)

claim_by_still : (w : World) (i : ℕ) (s : Member) (to : ChainId) (c : Outgoing) (read : Result (List Instruction) MessageFault) → IsStill (claim_by w i s to c read) w
claim_by_still w i s to c (Err fault) = (refl, refl)
claim_by_still w i s to c (Ok program) = claiming_still w i s to c program (is_claim program)

claim_on_still : (w : World) (i : ℕ) (s : Member) (to : ChainId) (o : Option Outgoing) (bytes : List ℕ) → IsStill (claim_on w i s to o bytes) w
claim_on_still w i s to None bytes = (refl, refl)
claim_on_still w i s to (Some c) bytes = claim_by_still w i s to c (message_of bytes)

posting_kept : (w : World) (i k : ℕ) (s : Member) (to : ChainId) (c : Outgoing) (program : List Instruction) (o : Option XcmError) → (k ≡ i → ⊥) → slice_get (posting w i s to c program o).world k ≡ slice_get w k
posting_kept w i k s to c program None apart = set_other w i k _ apart
posting_kept w i k s to c program (Some e) apart = refl

claiming_kept : (w : World) (i k : ℕ) (s : Member) (to : ChainId) (c : Outgoing) (program : List Instruction) (b : Bool) → (k ≡ i → ⊥)
    → slice_get (if b then posting w i s to c program (channel_refusal (Some c) true program) else unchanged StepResult.NotAClaim w).world k ≡ slice_get w k
claiming_kept w i k s to c program true apart = posting_kept w i k s to c program (channel_refusal (Some c) true program) apart
claiming_kept w i k s to c program false apart = refl

claim_by_kept : (w : World) (i k : ℕ) (s : Member) (to : ChainId) (c : Outgoing) (read : Result (List Instruction) MessageFault) → (k ≡ i → ⊥) → slice_get (claim_by w i s to c read).world k ≡ slice_get w k
claim_by_kept w i k s to c (Err fault) apart = refl
claim_by_kept w i k s to c (Ok program) apart = claiming_kept w i k s to c program (is_claim program) apart

claim_on_kept : (w : World) (i k : ℕ) (s : Member) (to : ChainId) (o : Option Outgoing) (bytes : List ℕ) → (k ≡ i → ⊥) → slice_get (claim_on w i s to o bytes).world k ≡ slice_get w k
claim_on_kept w i k s to None bytes apart = refl
claim_on_kept w i k s to (Some c) bytes apart = claim_by_kept w i k s to c (message_of bytes) apart

pub claim_still : (w : World) (from to : ChainId) (bytes : List ℕ) → IsStill (claim w from to bytes) w
unfolding claim
claim_still w from to bytes =
    between_says w from to (unchanged StepResult.NoSuchChain w) (λ i j s r. claim_on w i s (chain_of r) (channel_to (chain_of r) s.part.channels) bytes) (λ x. IsStill x w) (refl, refl)
    (λ i j s r at_i at_j is_s is_r. claim_on_still w i s (chain_of r) (channel_to (chain_of r) s.part.channels) bytes)

pub claim_elsewhere : (w : World) (from to : ChainId) (bytes : List ℕ) (i k : ℕ) → place_of w from ≡ Some i → (k ≡ i → ⊥) → slice_get (claim w from to bytes).world k ≡ slice_get w k
unfolding claim
claim_elsewhere w from to bytes i k at_i apart =
    between_says w from to (unchanged StepResult.NoSuchChain w) (λ i j s r. claim_on w i s (chain_of r) (channel_to (chain_of r) s.part.channels) bytes) (λ x. slice_get x.world k ≡ slice_get w k) refl
    (λ a b s r at_a at_b is_s is_r. claim_on_kept w a k s (chain_of r) (channel_to (chain_of r) s.part.channels) bytes (λ e. apart (e ∙ same_one _ a i at_a at_i)))
