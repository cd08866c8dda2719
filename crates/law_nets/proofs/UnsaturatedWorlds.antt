-- Lemmas: no step burns an excess, and inside a step no account is barred. A reader may skip this file.
use Rattle.std.proofs.Common.{◌≡◌, ℕ, zero, suc, ◌≤◌, Bool, true, false, List, [], ◌∷◌, Option, Some, None, Result, Ok, Err, map, refl, sym, ◌∙◌, subst, arith}
use Rattle.std.specs.Prelude.{if◌then◌else◌, slice_get, slice_set}
use Rattle.std.specs.Option.{option_map_or}
use Rattle.amounts.specs.Amounts.{empty}
use Rattle.amounts.proofs.Lemmas.AmountLaws.{amount-empty}
use Rattle.operands.specs.declared.error.XcmError.{XcmError}
use Rattle.asset_lists.specs.declared.units.Instance.{Instance}
use Rattle.asset_bundles.specs.declared.book.Cause.{Cause}
use Rattle.asset_bundles.specs.Bundles.{Bundle}
use Rattle.asset_bundles.specs.Books.{burned_for}
use Rattle.asset_bundles.proofs.Lemmas.{burn_keys, amount-Booked}
use Rattle.chain_ids.specs.declared.chain.ChainId.{ChainId}
use Rattle.xcm_program.specs.declared.instruction.Instruction.{Instruction}
use Rattle.versioned_xcm.specs.declared.faults.MessageFault.{MessageFault}
use Rattle.versioned_xcm.specs.Reading.{message_of}
use Rattle.channel_parts.specs.declared.cargo.Cargo.TheVariants as cargos
use Rattle.channel_parts.specs.Channels.{Waiting, Outgoing}
use Rattle.chain_queues.specs.Queues.{channel_to, oldest}
use Rattle.exec_base.specs.Part.{ChainPart, book_of}
use Rattle.exec_base.specs.Host.{told}
use Rattle.exec_base.specs.Sending.{channel_refusal}
use Rattle.exec_rules.specs.Run.{Stage, machine_of, Reaches}
use Rattle.exec_rules.specs.Instructions.{xcm}
use Rattle.exec_rules.specs.declared.admission.Admitted.{Admitted}
use Rattle.exec_rules.specs.Admission.{admitted}
use Rattle.exec_rules.specs.Execution.{first_stage, IsAbandoned}
use Rattle.weight_trader.specs.Purchases.{no_weight}
use Rattle.network_spec.specs.declared.chain.ChainSpec.{ChainSpec}
use Rattle.network_spec.specs.declared.network.NetworkSpec.{NetworkSpec}
use Rattle.network_steps.specs.Genesis.{member_of}
use Rattle.network_steps.specs.declared.step_result.StepResult.{StepResult}
use Rattle.network_steps.specs.Worlds.{Member, chain_of, World, place_of, with_part, unchanged, Stepped}
use Rattle.network_steps.specs.Acting.{acted, begun, caller, lost_of, booking_lost}
use Rattle.network_steps.specs.Steps.{is_sovereign, name_at, exec_read, exec_by, exec_at, exec, without_message, run_for, sender_after, receiver_after, delivered, delivery_of, deliver, is_claim, posting, posted, claim_by, claim_on, claim, Link, next_channel, deliveries, world_behind, Step, Exec, Deliver, Claim, Drain, Balances, Traps, Queues, Supply, next_world, worlds}
use Rattle.network_steps.proofs.Lemmas.CallerLaws.{by_caller}
use Rattle.asset_pools.specs.Exchanges.{is_pool_account}
use Rattle.network_steps.specs.Sends.{deliveries_left}
use Rattle.network_steps.proofs.Lemmas.StepLaws.{between_says}
use Rattle.law_coherence.specs.UniversalAssets.{UniversalAsset, just}
use Rattle.law_coherence.specs.Parts as sums
use Rattle.law_runs.specs.Safety.{IsRunnable}
use Rattle.law_steps.specs.Views.{views}
use Rattle.law_steps.specs.Soundness.{LawsBelow}
use Rattle.law_steps.specs.Bounds.{IsSoundGenesis}
use Rattle.law_steps.specs.Reading.{Decodes}
use Rattle.law_steps.proofs.Lemmas.Reading.{decoded_runs}
use Rattle.law_steps.proofs.Lemmas.Insides.{all_at}
use Rattle.law_steps.specs.Worlds.{IsFirst, IsExecution, begins, IsDelivery, arrives, StopsAt}
use Rattle.law_steps.proofs.Lemmas.Worlds.{IsReached}
use Rattle.law_steps.specs.Stepping.{ShapeLaws}
use Rattle.law_steps.proofs.Lemmas.Stepping.{deliver_reaches, step_reaches, worlds_reached, first_reached}
use Rattle.law_nets.specs.Barring.{NothingBarred}
use Rattle.law_nets.specs.Excess.{NoExcess, NoExcessIn, NoExcessEver}
use Rattle.law_nets.proofs.BarringLaws.{nothing_barred}
use Rattle.law_nets.proofs.Stages.{StandsWell}
use Rattle.law_nets.proofs.Calls.{BurnsNoExcess, other_cause}
use Rattle.law_nets.proofs.Deliveries.{delivery_stands, delivery_no_excess, stopped_delivery_no_excess}
use Rattle.law_nets.proofs.Executions.{execution_stands, execution_no_excess, stopped_execution_no_excess}

-- ---- one book
pub no_excess_after : (p q : ChainPart) → BurnsNoExcess p q → NoExcess p.burns → NoExcess q.burns
no_excess_after p q x n = record {
  saturated = λ asset. x (asset, Cause.Saturated) refl ∙ n.saturated asset;
  merged = λ asset. x (asset, Cause.Merged) refl ∙ n.merged asset;
}

pub empty_book : NoExcess empty
empty_book = record { saturated = λ asset. amount-empty burn_keys (asset, Cause.Saturated); merged = λ asset. amount-empty burn_keys (asset, Cause.Merged) }

-- ---- the first world of a document
pub no_excess_yet : (spec : NetworkSpec) (cs : List ChainSpec) → NoExcessIn (map (member_of spec) cs)
no_excess_yet spec [] = tt
no_excess_yet spec (c ∷ cs) = (empty_book, no_excess_yet spec cs)

-- ---- one chain of a world
set_kept : (w : World) (k : ℕ) (m : Member) → NoExcessIn w → NoExcess m.part.burns → NoExcessIn (slice_set w k m)
set_kept [] k m all h = tt
set_kept (x ∷ w) zero m all h = (h, all.1)
set_kept (x ∷ w) (suc k) m all h = (all.0, set_kept w k m all.1 h)

-- what is lost is burned for another cause
lost_no_excess : (p : ChainPart) (goods : Bundle) → BurnsNoExcess p (booking_lost goods p)
lost_no_excess p goods k is =
    let e = amount-Booked (book_of p) (burned_for Cause.LostTeleport goods) k in
    let z = other_cause Cause.LostTeleport goods refl k is in
    omega (arith, e, z)

arrives_burns : (s r : Member) (x : Waiting) → (arrives s r x).burns ≡ r.part.burns
unfolding told
arrives_burns s r x = refl

module _ (laws : LawsBelow) (shapes : ShapeLaws) (decodes : Decodes) (first : sums.WorldView) (genesis : IsSoundGenesis first) (once : (a : UniversalAsset) (instance : Instance) → sums.population a (just (Some instance)) first ≤ 1) where
  module _ (w : World) (reached : IsReached first w) (all : NoExcessIn w) where
    now : (k : ℕ) (m : Member) → slice_get w k ≡ Some m → NoExcess m.part.burns
    now k m at = all_at (λ (m : Member). NoExcess m.part.burns) w k m all at

    -- ---- local executions
    program_read : (k : ℕ) (m : Member) (account : List ℕ) (read : Result (List Instruction) MessageFault) → slice_get w k ≡ Some m → is_sovereign account ≡ false → ((program : List Instruction) → read ≡ Ok program → IsRunnable program) → NoExcessIn (exec_read w k m account read).world
    program_read k m account (Err fault) at own runs = all
    program_read k m account (Ok program) at own runs =
        let p = begun (chain_of m) cargos.Nothing m.part in
        let a = acted m.rules (caller account) m.rules.limit program p in
        let no_excess = execution_no_excess laws shapes decodes first genesis once w reached k m at account own program (runs program refl) in
        set_kept w k (with_part a.part m) all (no_excess_after p a.part no_excess (now k m at))

    by_program : (k : ℕ) (m : Member) (account : List ℕ) (read : Result (List Instruction) MessageFault) → slice_get w k ≡ Some m → is_sovereign account ≡ false → ((program : List Instruction) → read ≡ Ok program → IsRunnable program) → NoExcessIn (exec_by w k m account read).world
    by_program k m account read at own runs = by_caller (λ (s : Stepped). NoExcessIn s.world) w (is_pool_account m.part.pools account) (exec_read w k m account read) all (program_read k m account read at own runs)

    if_allowed : (k : ℕ) (account bytes : List ℕ) (sovereign : Bool) → is_sovereign account ≡ sovereign
        → NoExcessIn (if sovereign then unchanged StepResult.SovereignCaller w else option_map_or (λ (m : Member). exec_by w k m account (message_of bytes)) (slice_get w k) (unchanged StepResult.NoSuchChain w)).world
    if_allowed k account bytes true own = all
    if_allowed k account bytes false own =
        elim (slice_get w k) as (λ o. slice_get w k ≡ o → NoExcessIn (option_map_or (λ (m : Member). exec_by w k m account (message_of bytes)) o (unchanged StepResult.NoSuchChain w)).world) [
          | None ↦ λ e. all
          | Some m ↦ λ e. by_program k m account (message_of bytes) e own (λ program is. decoded_runs decodes bytes program is)
        ] refl

    exec_at_no_excess : (o : Option ℕ) (account bytes : List ℕ) → NoExcessIn (exec_at w o account bytes).world
    exec_at_no_excess None account bytes = all
    exec_at_no_excess (Some k) account bytes = if_allowed k account bytes (is_sovereign account) refl

    pub exec_no_excess : (chain : ChainId) (account bytes : List ℕ) → NoExcessIn (exec w chain account bytes).world
    unfolding exec
    exec_no_excess chain account bytes = exec_at_no_excess (place_of w chain) account bytes

    -- ---- deliveries
    delivered_no_excess : (i j : ℕ) (s r : Member) (c : Outgoing) (x : Waiting) → slice_get w i ≡ Some s → slice_get w j ≡ Some r → channel_to (chain_of r) s.part.channels ≡ Some c → oldest c ≡ Some x → NoExcessIn (delivered w i j s r x).world
    delivered_no_excess i j s r c x is_s is_r found at_front =
        let a = run_for s r x in
        let p0 = arrives s r x in
        let no_excess = delivery_no_excess laws shapes decodes first genesis once w reached i j s r c x is_s is_r found at_front in
        let receiver : NoExcess a.part.burns = no_excess_after p0 a.part no_excess (subst NoExcess (sym (arrives_burns s r x)) (now j r is_r)) in
        let sender = no_excess_after (without_message (chain_of r) s.part) (sender_after (chain_of r) a s.part) (lost_no_excess (without_message (chain_of r) s.part) (lost_of a.left)) (now i s is_s) in
        set_kept (slice_set w i (with_part (sender_after (chain_of r) a s.part) s)) j (with_part (receiver_after s.part a) r) (set_kept w i (with_part (sender_after (chain_of r) a s.part) s) all sender) receiver

    taken_no_excess : (i j : ℕ) (s r : Member) (c : Outgoing) (o : Option Waiting) → oldest c ≡ o → slice_get w i ≡ Some s → slice_get w j ≡ Some r → channel_to (chain_of r) s.part.channels ≡ Some c
        → NoExcessIn (option_map_or (λ (message : Waiting). delivered w i j s r message) o (unchanged StepResult.Empty w)).world
    taken_no_excess i j s r c None e is_s is_r found = all
    taken_no_excess i j s r c (Some x) e is_s is_r found = delivered_no_excess i j s r c x is_s is_r found e

    delivery_of_no_excess : (i j : ℕ) (s r : Member) (o : Option Outgoing) → channel_to (chain_of r) s.part.channels ≡ o → slice_get w i ≡ Some s → slice_get w j ≡ Some r → NoExcessIn (delivery_of w i j s r o).world
    delivery_of_no_excess i j s r None e is_s is_r = all
    delivery_of_no_excess i j s r (Some c) e is_s is_r = taken_no_excess i j s r c (oldest c) refl is_s is_r e

    pub deliver_no_excess : (from to : ChainId) → NoExcessIn (deliver w from to).world
    unfolding deliver
    deliver_no_excess from to =
        between_says w from to (unchanged StepResult.NoSuchChain w) (λ i j s r. delivery_of w i j s r (channel_to (chain_of r) s.part.channels)) (λ x. NoExcessIn x.world) all
        (λ i j s r at_i at_j is_s is_r. delivery_of_no_excess i j s r (channel_to (chain_of r) s.part.channels) refl is_s is_r)

    -- ---- claims
    posting_no_excess : (i : ℕ) (s : Member) (to : ChainId) (c : Outgoing) (program : List Instruction) (o : Option XcmError) → slice_get w i ≡ Some s → NoExcessIn (posting w i s to c program o).world
    posting_no_excess i s to c program None is_s = set_kept w i (with_part (posted to program s.part) s) all (now i s is_s)
    posting_no_excess i s to c program (Some e) is_s = all

    if_claims : (i : ℕ) (s : Member) (to : ChainId) (c : Outgoing) (program : List Instruction) (b : Bool) → slice_get w i ≡ Some s → NoExcessIn (if b then posting w i s to c program (channel_refusal (Some c) true program) else unchanged StepResult.NotAClaim w).world
    if_claims i s to c program true is_s = posting_no_excess i s to c program (channel_refusal (Some c) true program) is_s
    if_claims i s to c program false is_s = all

    claim_by_no_excess : (i : ℕ) (s : Member) (to : ChainId) (c : Outgoing) (read : Result (List Instruction) MessageFault) → slice_get w i ≡ Some s → NoExcessIn (claim_by w i s to c read).world
    claim_by_no_excess i s to c (Err fault) is_s = all
    claim_by_no_excess i s to c (Ok program) is_s = if_claims i s to c program (is_claim program) is_s

    claim_on_no_excess : (i : ℕ) (s : Member) (to : ChainId) (o : Option Outgoing) (bytes : List ℕ) → slice_get w i ≡ Some s → NoExcessIn (claim_on w i s to o bytes).world
    claim_on_no_excess i s to None bytes is_s = all
    claim_on_no_excess i s to (Some c) bytes is_s = claim_by_no_excess i s to c (message_of bytes) is_s

    pub claim_no_excess : (from to : ChainId) (bytes : List ℕ) → NoExcessIn (claim w from to bytes).world
    unfolding claim
    claim_no_excess from to bytes =
        between_says w from to (unchanged StepResult.NoSuchChain w) (λ i j s r. claim_on w i s (chain_of r) (channel_to (chain_of r) s.part.channels) bytes) (λ x. NoExcessIn x.world) all
        (λ i j s r at_i at_j is_s is_r. claim_on_no_excess i s (chain_of r) (channel_to (chain_of r) s.part.channels) bytes is_s)

  -- ---- all steps
  next_no_excess : (n : ℕ) (order : List Link) (w : World) (o : Option Link) → IsReached first w → NoExcessIn w → ((v : World) → IsReached first v → NoExcessIn v → NoExcessIn (world_behind v (deliveries n order v)))
      → NoExcessIn (world_behind w (option_map_or (λ (link : Link). (link, deliver w link.0 link.1) ∷ deliveries n order (deliver w link.0 link.1).world) o []))
  next_no_excess n order w None reached all rest = all
  next_no_excess n order w (Some link) reached all rest = rest (deliver w link.0 link.1).world (deliver_reaches laws shapes decodes first genesis w link.0 link.1 reached) (deliver_no_excess w reached all link.0 link.1)

  deliveries_no_excess : (n : ℕ) (order : List Link) (w : World) → IsReached first w → NoExcessIn w → NoExcessIn (world_behind w (deliveries n order w))
  unfolding deliveries
  deliveries_no_excess zero order w reached all = all
  deliveries_no_excess (suc n) order w reached all = next_no_excess n order w (next_channel order w) reached all (λ v r a. deliveries_no_excess n order v r a)

  step_no_excess : (order : List Link) (w : World) (step : Step) → IsReached first w → NoExcessIn w → NoExcessIn (next_world order w step)
  step_no_excess order w (Exec chain account bytes) reached all = exec_no_excess w reached all chain account bytes
  step_no_excess order w (Deliver from to) reached all = deliver_no_excess w reached all from to
  step_no_excess order w (Claim from to bytes) reached all = claim_no_excess w reached all from to bytes
  step_no_excess order w Drain reached all = deliveries_no_excess (deliveries_left w) order w reached all
  step_no_excess order w Balances reached all = all
  step_no_excess order w Traps reached all = all
  step_no_excess order w Queues reached all = all
  step_no_excess order w Supply reached all = all

  worlds_no_excess : (order : List Link) (w : World) (steps : List Step) → IsReached first w → NoExcessIn w → NoExcessEver order w steps
  worlds_no_excess order w [] reached all = (all, tt)
  worlds_no_excess order w (step ∷ steps) reached all = (all, worlds_no_excess order (next_world order w step) steps (step_reaches laws shapes decodes first genesis order w step reached) (step_no_excess order w step reached all))

-- from a first world on
pub no_excess_ever : LawsBelow → ShapeLaws → Decodes → (order : List Link) (w : World) (steps : List Step) → IsFirst w → NoExcessIn w → NoExcessEver order w steps
no_excess_ever laws shapes decodes order w steps f all = worlds_no_excess laws shapes decodes (views w) f.genesis f.once order w steps (first_reached w f) all

-- ---- inside a step
module _ (laws : LawsBelow) (shapes : ShapeLaws) (decodes : Decodes) (order : List Link) (w : World) (run_of : List Step) (f : IsFirst w) where
  reached_at : (k : ℕ) (v : World) → slice_get (worlds order w run_of) k ≡ Some v → IsReached (views w) v
  reached_at k v at = all_at (IsReached (views w)) (worlds order w run_of) k v (worlds_reached laws shapes decodes (views w) f.genesis order w run_of (first_reached w f)) at

  no_excess_at : NoExcessIn w → (k : ℕ) (v : World) → slice_get (worlds order w run_of) k ≡ Some v → (place : ℕ) (m : Member) → slice_get v place ≡ Some m → NoExcess m.part.burns
  no_excess_at all k v at place m stands =
      all_at (λ (m : Member). NoExcess m.part.burns) v place m (all_at NoExcessIn (worlds order w run_of) k v (no_excess_ever laws shapes decodes order w run_of f all) at) stands

  module _ (account : List ℕ) (program : List Instruction) (x : IsExecution order w run_of account program) where
    runs : IsRunnable program
    runs = decoded_runs decodes x.bytes program x.decoded

    stands_inside : (a : Admitted) (g : Stage) → admitted x.member.rules (caller account) x.member.rules.limit (begins x.member).queries program ≡ Ok a → Reaches xcm (first_stage x.member.rules (caller account) a (begins x.member)) g → StandsWell (begins x.member) (machine_of g)
    stands_inside a g ok reach = (execution_stands laws shapes decodes (views w) f.genesis f.once x.world (reached_at x.at x.world x.reached) x.place x.member x.stands account x.own program runs a ok g reach).0

    pub unbarred_execution : (a : Admitted) (g : Stage) → admitted x.member.rules (caller account) x.member.rules.limit (begins x.member).queries program ≡ Ok a → Reaches xcm (first_stage x.member.rules (caller account) a (begins x.member)) g → NothingBarred (machine_of g)
    unbarred_execution a g ok reach = let stands = stands_inside a g ok reach in nothing_barred laws.withdraws (machine_of g) stands.fits stands.steady.holding

    pub inside_execution : NoExcessIn w → (a : Admitted) (g : Stage) → admitted x.member.rules (caller account) x.member.rules.limit (begins x.member).queries program ≡ Ok a → Reaches xcm (first_stage x.member.rules (caller account) a (begins x.member)) g
        → NoExcess (machine_of g).part.burns
    inside_execution all a g ok reach = no_excess_after (begins x.member) (machine_of g).part (stands_inside a g ok reach).no_excess (no_excess_at all x.at x.world x.reached x.place x.member x.stands)

    pub stopped_execution : NoExcessIn w → (q : ChainPart) → IsAbandoned x.member.rules (caller account) x.member.rules.limit program (begins x.member) q → NoExcess q.burns
    stopped_execution all q h =
        no_excess_after (begins x.member) q (stopped_execution_no_excess laws shapes decodes (views w) f.genesis f.once x.world (reached_at x.at x.world x.reached) x.place x.member x.stands account x.own program runs q h)
        (no_excess_at all x.at x.world x.reached x.place x.member x.stands)

  module _ (d : IsDelivery order w run_of) where
    stands_delivered : (a : Admitted) (g : Stage) → admitted d.receiver.rules (name_at (chain_of d.receiver) (chain_of d.sender)) no_weight (arrives d.sender d.receiver d.message).queries d.message.program ≡ Ok a
        → Reaches xcm (first_stage d.receiver.rules (name_at (chain_of d.receiver) (chain_of d.sender)) a (arrives d.sender d.receiver d.message)) g → StandsWell (arrives d.sender d.receiver d.message) (machine_of g)
    stands_delivered a g ok reach =
        (delivery_stands laws shapes decodes (views w) f.genesis f.once d.world (reached_at d.at d.world d.reached) d.from d.to d.sender d.receiver d.channel d.message d.sends d.receives d.leads d.oldest a ok g reach).0

    pub unbarred_delivery : (a : Admitted) (g : Stage) → admitted d.receiver.rules (name_at (chain_of d.receiver) (chain_of d.sender)) no_weight (arrives d.sender d.receiver d.message).queries d.message.program ≡ Ok a
        → Reaches xcm (first_stage d.receiver.rules (name_at (chain_of d.receiver) (chain_of d.sender)) a (arrives d.sender d.receiver d.message)) g → NothingBarred (machine_of g)
    unbarred_delivery a g ok reach = let stands = stands_delivered a g ok reach in nothing_barred laws.withdraws (machine_of g) stands.fits stands.steady.holding

    pub inside_delivery : NoExcessIn w → (a : Admitted) (g : Stage) → admitted d.receiver.rules (name_at (chain_of d.receiver) (chain_of d.sender)) no_weight (arrives d.sender d.receiver d.message).queries d.message.program ≡ Ok a
        → Reaches xcm (first_stage d.receiver.rules (name_at (chain_of d.receiver) (chain_of d.sender)) a (arrives d.sender d.receiver d.message)) g → NoExcess (machine_of g).part.burns
    inside_delivery all a g ok reach =
        no_excess_after (arrives d.sender d.receiver d.message) (machine_of g).part (stands_delivered a g ok reach).no_excess
        (subst NoExcess (sym (arrives_burns d.sender d.receiver d.message)) (no_excess_at all d.at d.world d.reached d.to d.receiver d.receives))

    pub stopped_delivery : NoExcessIn w → (q : ChainPart) → StopsAt d.sender d.receiver d.message q → NoExcess q.burns
    stopped_delivery all q stops =
        no_excess_after d.receiver.part q (stopped_delivery_no_excess laws shapes decodes (views w) f.genesis f.once d.world (reached_at d.at d.world d.reached) d.from d.to d.sender d.receiver d.channel d.message d.sends d.receives d.leads d.oldest q stops)
        (no_excess_at all d.at d.world d.reached d.to d.receiver d.receives)
