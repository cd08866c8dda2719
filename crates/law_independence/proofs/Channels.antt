-- A message put last in a channel, and the oldest taken of one: what is found then, and that both orders come to the same.
use Rattle.std.proofs.Common.{◌≡◌, ℕ, ◌+◌, ◌≤◌, Bool, true, false, List, [], ◌∷◌, ◌++◌, length, Option, Some, None, refl, sym, ap, ◌∙◌, arith}
use Rattle.std.specs.Prelude.{if◌then◌else◌, nat_lt, min, ◌-◌, ◌^◌, ◌&&◌, drop, find}
use Rattle.std.specs.Option.{option_map}
use Rattle.std.proofs.lemmas.Bool.Decides.{nat_tests}
use Rattle.chain_ids.specs.declared.chain.ChainId.{ChainId}
use Rattle.chain_ids.specs.Chains.{same_chain}
use Rattle.chain_ids.proofs.Lemmas.{same_chain_told}
use Rattle.operands.specs.declared.error.XcmError.{XcmError}
use Rattle.operands.specs.declared.error.XcmError.TheVariants as error
use Rattle.xcm_program.specs.declared.instruction.Instruction.{Instruction}
use Rattle.plain_lists.specs.Firsts.{change_first}
use Rattle.channel_parts.specs.declared.cargo.Cargo.{Cargo}
use Rattle.channel_parts.specs.declared.channel.Channel.{Channel}
use Rattle.channel_parts.specs.Channels.{Waiting, Outgoing, with_waiting}
use Rattle.chain_queues.specs.Queues.{channel_to, oldest, first_of, without_oldest, popped}
use Rattle.exec_base.specs.Sending.{unless, channel_refusal, is_sendable}

-- what a delivery finds: no channel, an empty one, or its oldest message
abbrev pub found_to : ChainId → List Outgoing → Option (Option Waiting)
found_to to cs = option_map oldest (channel_to to cs)

-- the channel isn't empty, if there is one
abbrev pub IsThere : ChainId → List Outgoing → Type 0
IsThere to cs = found_to to cs ≡ Some None → ⊥

-- a test that reads the channel alone
abbrev pub by_channel : (Channel → Bool) → Outgoing → Bool
by_channel test c = test c.channel

-- ---- two chains' channels
first_apart : (here to : ChainId) → (here ≡ to → ⊥) → (c : Outgoing) → same_chain c.channel.to here ≡ true → same_chain c.channel.to to ≡ true → ⊥
first_apart here to apart c h k = apart (sym (same_chain_told c.channel.to here h) ∙ same_chain_told c.channel.to to k)

-- what is found on another channel stays
pub found_other : (here to : ChainId) → (here ≡ to → ⊥) → (cs : List Outgoing) → found_to here (popped to cs) ≡ found_to here cs
found_other here to apart [] = refl
found_other here to apart (c ∷ cs) =
    elim (same_chain c.channel.to to) as (λ b. same_chain c.channel.to to ≡ b → found_to here (if b then without_oldest c ∷ cs else c ∷ popped to cs) ≡ found_to here (c ∷ cs)) [
      | true ↦ λ t. elim (same_chain c.channel.to here) as (λ l. same_chain c.channel.to here ≡ l → option_map oldest (if l then Some (without_oldest c) else channel_to here cs) ≡ option_map oldest (if l then Some c else channel_to here cs)) [
        | true ↦ λ l. absurd (first_apart here to apart c l t)
        | false ↦ λ l. refl
      ] refl
      | false ↦ λ t. elim (same_chain c.channel.to here) as (λ l. option_map oldest (if l then Some c else channel_to here (popped to cs)) ≡ option_map oldest (if l then Some c else channel_to here cs)) [
        | true ↦ refl
        | false ↦ found_other here to apart cs
      ]
    ] refl

-- two messages taken of two channels
pub popped_swap : (here to : ChainId) → (here ≡ to → ⊥) → (cs : List Outgoing) → popped here (popped to cs) ≡ popped to (popped here cs)
popped_swap here to apart [] = refl
popped_swap here to apart (c ∷ cs) =
    elim (same_chain c.channel.to to) as (λ b. same_chain c.channel.to to ≡ b → popped here (if b then without_oldest c ∷ cs else c ∷ popped to cs) ≡ popped to (popped here (c ∷ cs))) [
      | true ↦ λ t. elim (same_chain c.channel.to here) as (λ l. same_chain c.channel.to here ≡ l
          → (if l then without_oldest (without_oldest c) ∷ cs else without_oldest c ∷ popped here cs) ≡ popped to (if l then without_oldest c ∷ cs else c ∷ popped here cs)) [
            | true ↦ λ l. absurd (first_apart here to apart c l t)
            | false ↦ λ l. sym (ap (λ b. if b then without_oldest c ∷ popped here cs else c ∷ popped to (popped here cs)) t)
          ] refl
      | false ↦ λ t. elim (same_chain c.channel.to here) as (λ l. (if l then without_oldest c ∷ popped to cs else c ∷ popped here (popped to cs)) ≡ popped to (if l then without_oldest c ∷ cs else c ∷ popped here cs)) [
        | true ↦ sym (ap (λ b. if b then without_oldest (without_oldest c) ∷ cs else without_oldest c ∷ popped to cs) t)
        | false ↦ ap (λ xs. c ∷ xs) (popped_swap here to apart cs) ∙ sym (ap (λ b. if b then without_oldest c ∷ popped here cs else c ∷ popped to (popped here cs)) t)
      ]
    ] refl

-- ---- a send and a message that is taken
module _ (test : Channel → Bool) (to : ChainId) where
  -- what is read of a channel but its queue stays
  pub read_popped : {A : Type 0} (f : Option Outgoing → A) → ((c : Outgoing) → f (Some (without_oldest c)) ≡ f (Some c)) → (cs : List Outgoing) → f (find (by_channel test) (popped to cs)) ≡ f (find (by_channel test) cs)
  read_popped f same [] = refl
  read_popped f same (c ∷ cs) =
      elim (same_chain c.channel.to to) as (λ b. f (find (by_channel test) (if b then without_oldest c ∷ cs else c ∷ popped to cs)) ≡ f (find (by_channel test) (c ∷ cs))) [
        | true ↦ elim (test c.channel) as (λ l. f (if l then Some (without_oldest c) else find (by_channel test) cs) ≡ f (if l then Some c else find (by_channel test) cs)) [
          | true ↦ same c
          | false ↦ refl
        ]
        | false ↦ elim (test c.channel) as (λ l. f (if l then Some c else find (by_channel test) (popped to cs)) ≡ f (if l then Some c else find (by_channel test) cs)) [
          | true ↦ refl
          | false ↦ read_popped f same cs
        ]
      ]

  -- where the channel isn't empty, a message is put last alike whether the oldest is there or was taken
  module _ (program : List Instruction) (cargo : Cargo) where
    queue_swap : (q : List Waiting) (x : Waiting) → (first_of q ≡ None → ⊥) → drop 1 q ++ x ∷ [] ≡ drop 1 (q ++ x ∷ [])
    queue_swap [] x some = absurd (some refl)
    queue_swap (y ∷ more) x some = refl

    one_swap : (c : Outgoing) → (oldest c ≡ None → ⊥) → with_waiting program cargo (without_oldest c) ≡ without_oldest (with_waiting program cargo c)
    one_swap c some =
        ap (λ (q : List Waiting). record c { next = min (c.next + 1) (2 ^ 64 - 1); queue = q }) (queue_swap c.queue (record { number = c.next; program = program; cargo = cargo }) some)

    pub sent_swap : (cs : List Outgoing) → IsThere to cs → change_first (by_channel test) (with_waiting program cargo) (popped to cs) ≡ popped to (change_first (by_channel test) (with_waiting program cargo) cs)
    sent_swap [] there = refl
    sent_swap (c ∷ cs) there =
        elim (same_chain c.channel.to to) as (λ b. same_chain c.channel.to to ≡ b
        → change_first (by_channel test) (with_waiting program cargo) (if b then without_oldest c ∷ cs else c ∷ popped to cs) ≡ popped to (change_first (by_channel test) (with_waiting program cargo) (c ∷ cs))) [
          | true ↦ λ t. elim (test c.channel) as (λ l. (if l then with_waiting program cargo (without_oldest c) ∷ cs else without_oldest c ∷ change_first (by_channel test) (with_waiting program cargo) cs)
              ≡ popped to (if l then with_waiting program cargo c ∷ cs else c ∷ change_first (by_channel test) (with_waiting program cargo) cs)) [
                | true ↦ ap (λ (d : Outgoing). d ∷ cs) (one_swap c (λ e. there (ap (λ b. option_map oldest (if b then Some c else channel_to to cs)) t ∙ ap Some e)))
                    ∙ sym (ap (λ b. if b then without_oldest (with_waiting program cargo c) ∷ cs else with_waiting program cargo c ∷ popped to cs) t)
                | false ↦ sym (ap (λ b. if b then without_oldest c ∷ change_first (by_channel test) (with_waiting program cargo) cs else c ∷ popped to (change_first (by_channel test) (with_waiting program cargo) cs)) t)
              ]
          | false ↦ λ t. elim (test c.channel) as (λ l. (if l then with_waiting program cargo c ∷ popped to cs else c ∷ change_first (by_channel test) (with_waiting program cargo) (popped to cs))
              ≡ popped to (if l then with_waiting program cargo c ∷ cs else c ∷ change_first (by_channel test) (with_waiting program cargo) cs)) [
                | true ↦ sym (ap (λ b. if b then without_oldest (with_waiting program cargo c) ∷ cs else with_waiting program cargo c ∷ popped to cs) t)
                | false ↦ ap (λ (xs : List Outgoing). c ∷ xs) (sent_swap cs (λ e. there (ap (λ b. option_map oldest (if b then Some c else channel_to to cs)) t ∙ e)))
                    ∙ sym (ap (λ b. if b then without_oldest c ∷ change_first (by_channel test) (with_waiting program cargo) cs else c ∷ popped to (change_first (by_channel test) (with_waiting program cargo) cs)) t)
              ]
        ] refl

    first_kept : (q : List Waiting) (x : Waiting) → (first_of q ≡ None → ⊥) → first_of (q ++ x ∷ []) ≡ first_of q
    first_kept [] x some = absurd (some refl)
    first_kept (y ∷ more) x some = refl

    -- what a delivery finds stays
    pub found_sent : (cs : List Outgoing) → IsThere to cs → found_to to (change_first (by_channel test) (with_waiting program cargo) cs) ≡ found_to to cs
    found_sent [] there = refl
    found_sent (c ∷ cs) there =
        elim (test c.channel) as (λ l. found_to to (if l then with_waiting program cargo c ∷ cs else c ∷ change_first (by_channel test) (with_waiting program cargo) cs) ≡ found_to to (c ∷ cs)) [
          | true ↦ elim (same_chain c.channel.to to) as (λ b. same_chain c.channel.to to ≡ b → option_map oldest (if b then Some (with_waiting program cargo c) else channel_to to cs) ≡ option_map oldest (if b then Some c else channel_to to cs)) [
            | true ↦ λ t. ap Some (first_kept c.queue (record { number = c.next; program = program; cargo = cargo }) (λ e. there (ap (λ b. option_map oldest (if b then Some c else channel_to to cs)) t ∙ ap Some e)))
            | false ↦ λ t. refl
          ] refl
          | false ↦ elim (same_chain c.channel.to to) as (λ b. same_chain c.channel.to to ≡ b
              → option_map oldest (if b then Some c else channel_to to (change_first (by_channel test) (with_waiting program cargo) cs)) ≡ option_map oldest (if b then Some c else channel_to to cs)) [
                | true ↦ λ t. refl
                | false ↦ λ t. found_sent cs (λ e. there (ap (λ b. option_map oldest (if b then Some c else channel_to to cs)) t ∙ e))
              ] refl
        ]

-- ---- a refusal
-- where the test passes, it isn't Transport
abbrev pub IsNoTransport : Bool → Option XcmError → Type 0
IsNoTransport on refusal = on ≡ true → refusal ≡ Some error.Transport → ⊥

shorter : (q : List Waiting) → length (drop 1 q) ≤ length q
shorter [] = omega arith
shorter (x ∷ q) = omega arith

room_kept : (q : List Waiting) (capacity : ℕ) → nat_lt (length q) capacity ≡ true → nat_lt (length (drop 1 q)) capacity ≡ true
room_kept q capacity t = let l = shorter q in grind (arith, nat_tests, t, l)

calm_full : (fits room more : Bool) → (room ≡ true → more ≡ true) → (unless fits error.ExceedsMaxMessageSize (unless room error.Transport None) ≡ Some error.Transport → ⊥)
    → unless fits error.ExceedsMaxMessageSize (unless more error.Transport None) ≡ unless fits error.ExceedsMaxMessageSize (unless room error.Transport None)
calm_full false room more up calm = refl
calm_full true true more up calm = ap (λ b. unless b error.Transport None) (up refl)
calm_full true false more up calm = absurd (calm refl)

-- `on` says whether the test may pass a channel to that chain
module _ (test : Channel → Bool) (to : ChainId) (on : Bool) (is_on : (c : Channel) → same_chain c.to to ≡ true → test c ≡ true → on ≡ true) (few : Bool) (program : List Instruction) where
  one_refused : (c : Outgoing) → (channel_refusal (Some c) few program ≡ Some error.Transport → ⊥) → channel_refusal (Some (without_oldest c)) few program ≡ channel_refusal (Some c) few program
  one_refused c calm = calm_full (few && is_sendable c program) (nat_lt (length c.queue) c.channel.capacity) (nat_lt (length (drop 1 c.queue)) c.channel.capacity) (room_kept c.queue c.channel.capacity) calm

  -- one message fewer makes no difference to a send that the channel doesn't refuse
  pub refused_popped : (cs : List Outgoing) → IsNoTransport on (channel_refusal (find (by_channel test) cs) few program)
      → channel_refusal (find (by_channel test) (popped to cs)) few program ≡ channel_refusal (find (by_channel test) cs) few program
  refused_popped [] no_transport = refl
  refused_popped (c ∷ cs) no_transport =
      elim (same_chain c.channel.to to) as (λ b. same_chain c.channel.to to ≡ b
      → channel_refusal (find (by_channel test) (if b then without_oldest c ∷ cs else c ∷ popped to cs)) few program ≡ channel_refusal (find (by_channel test) (c ∷ cs)) few program) [
        | true ↦ λ t. elim (test c.channel) as (λ l. test c.channel ≡ l → IsNoTransport on (channel_refusal (if l then Some c else find (by_channel test) cs) few program)
            → channel_refusal (if l then Some (without_oldest c) else find (by_channel test) cs) few program ≡ channel_refusal (if l then Some c else find (by_channel test) cs) few program) [
              | true ↦ λ l q. one_refused c (q (is_on c.channel t l))
              | false ↦ λ l q. refl
            ] refl no_transport
        | false ↦ λ t. elim (test c.channel) as (λ l. IsNoTransport on (channel_refusal (if l then Some c else find (by_channel test) cs) few program)
            → channel_refusal (if l then Some c else find (by_channel test) (popped to cs)) few program ≡ channel_refusal (if l then Some c else find (by_channel test) cs) few program) [
              | true ↦ λ q. refl
              | false ↦ λ q. refused_popped cs q
            ] no_transport
      ] refl
