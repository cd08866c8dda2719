-- Lemmas that proofs cite, in this crate and above it: what runs keep of each chain's part, the steps of a network keep; and what each step keeps
-- of a network, all worlds have. A reader of the contracts may skip this file.
use Rattle.std.proofs.Common.{◌≡◌, ℕ, zero, suc, Bool, true, false, List, [], ◌∷◌, Option, Some, None, Result, Ok, Err, refl, ap, ◌∙◌, subst}
use Rattle.std.specs.Prelude.{if◌then◌else◌, slice_get, slice_set}
use Rattle.std.specs.List.{AllByRecursion}
use Rattle.std.specs.Option.{option_map_or, option_and_then}
use Rattle.chain_ids.specs.declared.chain.ChainId.{ChainId}
use Rattle.operands.specs.declared.error.XcmError.{XcmError}
use Rattle.xcm_program.specs.declared.instruction.Instruction.{Instruction}
use Rattle.versioned_xcm.specs.declared.faults.MessageFault.{MessageFault}
use Rattle.versioned_xcm.specs.Reading.{message_of}
use Rattle.channel_parts.specs.declared.cargo.Cargo.TheVariants.{Nothing}
use Rattle.channel_parts.specs.Channels.{Waiting, Outgoing}
use Rattle.chain_queues.specs.Queues.{channel_to, oldest}
use Rattle.exec_base.specs.Part.{ChainPart}
use Rattle.exec_base.specs.Sending.{channel_refusal}
use Rattle.network_steps.specs.declared.step_result.StepResult.{StepResult}
use Rattle.network_steps.specs.Worlds.{Member, chain_of, World, place_of, with_part, unchanged, Stepped}
use Rattle.network_steps.specs.Acting.{begun, caller, acted}
use Rattle.network_steps.specs.Steps.{is_sovereign, exec_read, exec_by, exec_at, exec, run_for, sender_after, receiver_after, delivered, delivery_of, deliver, is_claim, posted, posting, claim_by, claim_on, claim, Link, waiting, next_channel, deliveries, world_behind, Step, Exec, Deliver, Claim, Drain, Balances, Traps, Queues, Supply, next_world, worlds}
use Rattle.network_steps.proofs.Lemmas.CallerLaws.{by_caller}
use Rattle.network_steps.specs.Sends.{deliveries_left}
use Rattle.asset_pools.specs.Exchanges.{is_pool_account}
use Rattle.network_steps.proofs.Lemmas.StepLaws.{same_one, between_says, between_at, place_says}

-- ---- a fact of each chain's part
module _ (P : ChainPart → Type 0) where
  abbrev AllAt : World → Type 0
  AllAt w = AllByRecursion (λ (m : Member). P m.part) w

  pub there_at : (w : World) (i : ℕ) (m : Member) → slice_get w i ≡ Some m → AllAt w → P m.part
  there_at [] i m e all = absurd (cc e)
  there_at (x ∷ xs) zero m e all = subst (λ (y : Member). P y.part) (same_one (Some x) x m refl e) all.0
  there_at (x ∷ xs) (suc i) m e all = there_at xs i m e all.1

  set_at : (w : World) (i : ℕ) (y : Member) → P y.part → AllAt w → AllAt (slice_set w i y)
  set_at [] i y new all = tt
  set_at (x ∷ xs) zero y new all = (new, all.1)
  set_at (x ∷ xs) (suc i) y new all = (all.0, set_at xs i y new all.1)

  -- ---- local executions
  module _ (w : World) (chain : ChainId) (account bytes : List ℕ) (all : AllAt w)
      (runs : (m : Member) (program : List Instruction) → is_sovereign account ≡ false → message_of bytes ≡ Ok program → P m.part → P (acted m.rules (caller account) m.rules.limit program (begun (chain_of m) Nothing m.part)).part) where
    exec_read_keeps : (place : ℕ) (m : Member) (read : Result (List Instruction) MessageFault) → is_sovereign account ≡ false → message_of bytes ≡ read → slice_get w place ≡ Some m → AllAt (exec_read w place m account read).world
    exec_read_keeps place m (Err fault) free e at = all
    exec_read_keeps place m (Ok program) free e at = set_at w place _ (runs m program free e (there_at w place m at all)) all

    exec_by_keeps : (place : ℕ) (m : Member) (read : Result (List Instruction) MessageFault) → is_sovereign account ≡ false → message_of bytes ≡ read → slice_get w place ≡ Some m → AllAt (exec_by w place m account read).world
    exec_by_keeps place m read free e at = by_caller (λ (s : Stepped). AllAt s.world) w (is_pool_account m.part.pools account) (exec_read w place m account read) all (exec_read_keeps place m read free e at)

    allowed_keeps : (place : ℕ) (sovereign : Bool) → is_sovereign account ≡ sovereign
        → AllAt (if sovereign then unchanged StepResult.SovereignCaller w else option_map_or (λ (m : Member). exec_by w place m account (message_of bytes)) (slice_get w place) (unchanged StepResult.NoSuchChain w)).world
    allowed_keeps place true e = all
    allowed_keeps place false e =
        elim (slice_get w place) as (λ o. slice_get w place ≡ o → AllAt (option_map_or (λ (m : Member). exec_by w place m account (message_of bytes)) o (unchanged StepResult.NoSuchChain w)).world) [
          | None ↦ λ at. all
          | Some m ↦ λ at. exec_by_keeps place m (message_of bytes) e refl at
        ] refl

    exec_at_keeps : (o : Option ℕ) → AllAt (exec_at w o account bytes).world
    exec_at_keeps None = all
    exec_at_keeps (Some place) = allowed_keeps place (is_sovereign account) refl

    pub exec_keeps : AllAt (exec w chain account bytes).world
    unfolding exec
    exec_keeps = exec_at_keeps (place_of w chain)

  -- ---- deliveries
  module _ (w : World) (from to : ChainId) (all : AllAt w)
      (sends : (s r : Member) (x : Waiting) → P s.part → P (sender_after (chain_of r) (run_for s r x) s.part))
      (runs : (i j : ℕ) (s r : Member) (x : Waiting) → place_of w from ≡ Some i → slice_get w i ≡ Some s → chain_of r ≡ to → waiting w from to ≡ Some x → option_and_then oldest (channel_to (chain_of r) s.part.channels) ≡ Some x → P r.part → P (receiver_after s.part (run_for s r x))) where
    module _ (i j : ℕ) (s r : Member) (at_i : place_of w from ≡ Some i) (at_j : place_of w to ≡ Some j) (is_s : slice_get w i ≡ Some s) (is_r : slice_get w j ≡ Some r) where
      is_waiting : (x : Waiting) → option_and_then oldest (channel_to (chain_of r) s.part.channels) ≡ Some x → waiting w from to ≡ Some x
      is_waiting x e = between_at w from to None (λ i j s r. option_and_then oldest (channel_to (chain_of r) s.part.channels)) i j s r at_i at_j is_s is_r ∙ e

      delivered_keeps : (x : Waiting) → option_and_then oldest (channel_to (chain_of r) s.part.channels) ≡ Some x → AllAt (delivered w i j s r x).world
      delivered_keeps x e =
          let s' = with_part (sender_after (chain_of r) (run_for s r x) s.part) s in
          set_at (slice_set w i s') j (with_part (receiver_after s.part (run_for s r x)) r)
          (runs i j s r x at_i is_s (place_says w to j r at_j is_r) (is_waiting x e) e (there_at w j r is_r all))
          (set_at w i s' (sends s r x (there_at w i s is_s all)) all)

      oldest_keeps : (o : Option Waiting) → option_and_then oldest (channel_to (chain_of r) s.part.channels) ≡ o → AllAt (option_map_or (λ (message : Waiting). delivered w i j s r message) o (unchanged StepResult.Empty w)).world
      oldest_keeps None e = all
      oldest_keeps (Some x) e = delivered_keeps x e

      delivery_keeps : (o : Option Outgoing) → channel_to (chain_of r) s.part.channels ≡ o → AllAt (delivery_of w i j s r o).world
      delivery_keeps None e = all
      delivery_keeps (Some c) e = oldest_keeps (oldest c) (ap (option_and_then oldest) e)

    pub deliver_keeps : AllAt (deliver w from to).world
    unfolding deliver
    deliver_keeps =
        between_says w from to (unchanged StepResult.NoSuchChain w) (λ i j s r. delivery_of w i j s r (channel_to (chain_of r) s.part.channels)) (λ x. AllAt x.world) all
        (λ i j s r at_i at_j is_s is_r. delivery_keeps i j s r at_i at_j is_s is_r (channel_to (chain_of r) s.part.channels) refl)

  -- ---- claims
  module _ (w : World) (from to : ChainId) (bytes : List ℕ) (all : AllAt w) (sends : (to : ChainId) (program : List Instruction) (p : ChainPart) → message_of bytes ≡ Ok program → P p → P (posted to program p)) where
    posting_keeps : (i : ℕ) (s : Member) (to : ChainId) (c : Outgoing) (program : List Instruction) (o : Option XcmError) → message_of bytes ≡ Ok program → slice_get w i ≡ Some s → AllAt (posting w i s to c program o).world
    posting_keeps i s to c program None read is = set_at w i (with_part (posted to program s.part) s) (sends to program s.part read (there_at w i s is all)) all
    posting_keeps i s to c program (Some e) read is = all

    claiming_keeps : (i : ℕ) (s : Member) (to : ChainId) (c : Outgoing) (program : List Instruction) (b : Bool) → message_of bytes ≡ Ok program → slice_get w i ≡ Some s
        → AllAt (if b then posting w i s to c program (channel_refusal (Some c) true program) else unchanged StepResult.NotAClaim w).world
    claiming_keeps i s to c program true read is = posting_keeps i s to c program (channel_refusal (Some c) true program) read is
    claiming_keeps i s to c program false read is = all

    claim_by_keeps : (i : ℕ) (s : Member) (to : ChainId) (c : Outgoing) (read : Result (List Instruction) MessageFault) → message_of bytes ≡ read → slice_get w i ≡ Some s → AllAt (claim_by w i s to c read).world
    claim_by_keeps i s to c (Err fault) e is = all
    claim_by_keeps i s to c (Ok program) e is = claiming_keeps i s to c program (is_claim program) e is

    claim_on_keeps : (i : ℕ) (s : Member) (to : ChainId) (o : Option Outgoing) → slice_get w i ≡ Some s → AllAt (claim_on w i s to o bytes).world
    claim_on_keeps i s to None is = all
    claim_on_keeps i s to (Some c) is = claim_by_keeps i s to c (message_of bytes) refl is

    pub claim_keeps : AllAt (claim w from to bytes).world
    unfolding claim
    claim_keeps =
        between_says w from to (unchanged StepResult.NoSuchChain w) (λ i j s r. claim_on w i s (chain_of r) (channel_to (chain_of r) s.part.channels) bytes) (λ x. AllAt x.world) all
        (λ i j s r at_i at_j is_s is_r. claim_on_keeps i s (chain_of r) (channel_to (chain_of r) s.part.channels) is_s)

-- ---- a fact of the network
module _ (P : World → Type 0) (order : List Link) (execs : (w : World) (chain : ChainId) (account bytes : List ℕ) → P w → P (exec w chain account bytes).world)
    (delivers : (w : World) (from to : ChainId) → P w → P (deliver w from to).world) (claims : (w : World) (from to : ChainId) (bytes : List ℕ) → P w → P (claim w from to bytes).world) where
  deliveries_keep : (n : ℕ) (w : World) → P w → P (world_behind w (deliveries n order w))
  unfolding deliveries
  deliveries_keep zero w all = all
  deliveries_keep (suc n) w all =
      elim (next_channel order w) as (λ o. P (world_behind w (option_map_or (λ (link : Link). (link, deliver w link.0 link.1) ∷ deliveries n order (deliver w link.0 link.1).world) o []))) [
        | None ↦ all
        | Some link ↦ deliveries_keep n (deliver w link.0 link.1).world (delivers w link.0 link.1 all)
      ]

  after_keeps : (w : World) (step : Step) → P w → P (next_world order w step)
  after_keeps w (Exec chain account bytes) all = execs w chain account bytes all
  after_keeps w (Deliver from to) all = delivers w from to all
  after_keeps w (Claim from to bytes) all = claims w from to bytes all
  after_keeps w Drain all = deliveries_keep (deliveries_left w) w all
  after_keeps w Balances all = all
  after_keeps w Traps all = all
  after_keeps w Queues all = all
  after_keeps w Supply all = all

  pub worlds_keep : (w : World) (steps : List Step) → P w → AllByRecursion P (worlds order w steps)
  worlds_keep w [] all = (all, tt)
  worlds_keep w (step ∷ steps) all = (all, worlds_keep (next_world order w step) steps (after_keeps w step all))
