-- The steps of a network, one event each: a local execution, a delivery, a claim; and a drain, which delivers until no message waits.
-- Order between chains comes from the list of steps alone. This project's own rule.
use Rattle.std.specs.Prelude.{ℕ, zero, suc, ◌||◌, ◌&&◌, Bool, true, false, if◌then◌else◌, List, [], ◌∷◌, ◌++◌, take, drop, find, Option, Some, None, is_some, Result, Ok, Err, slice_get, slice_set}
use Rattle.std.specs.Option.{option_and_then, option_map_or}
use Rattle.std.specs.Int.{from_le_bytes, w32}
use Rattle.std.specs.Str.{bytes_eq}
use Rattle.chain_ids.specs.declared.chain.ChainId.{ChainId}
use Rattle.locations.specs.declared.relative.Location.{Location}
use Rattle.operands.specs.declared.error.XcmError.{XcmError}
use Rattle.trust_tables.specs.Accounts.{child_account, sibling_account, parent_account}
use Rattle.trust_tables.specs.Chains.{location_of}
use Rattle.weight_trader.specs.Purchases.{no_weight}
use Rattle.xcm_program.specs.declared.instruction.Instruction.{Instruction, out-Instruction}
use Rattle.xcm_program.specs.declared.instruction.Instruction.TheOpen.{Instruction-F}
use Rattle.versioned_xcm.specs.declared.faults.MessageFault.{MessageFault}
use Rattle.versioned_xcm.specs.Reading.{message_of}
use Rattle.channel_parts.specs.declared.cargo.Cargo.TheVariants.{Nothing}
use Rattle.channel_parts.specs.Channels.{Waiting, Outgoing}
use Rattle.chain_queues.specs.Queues.{channel_to, oldest, pushed, popped}
use Rattle.asset_pools.specs.Exchanges.{is_pool_account}
use Rattle.exec_base.specs.declared.event.Event.{Event}
use Rattle.exec_base.specs.Part.{ChainPart}
use Rattle.exec_base.specs.Sending.{channel_refusal}
use Rattle.exec_base.specs.Host.{told}
use Rattle.network_steps.specs.declared.step_result.StepResult.{StepResult}
use Rattle.network_steps.specs.Worlds.{Member, chain_of, World, place_of, with_part, Stepped, unchanged}
use Rattle.network_steps.specs.Sends.{deliveries_left}
use Rattle.network_steps.specs.Acting.{begun, Acted, acted, caller, lost_of, booking_lost, lost_lines}

-- ---- local executions

-- an account of a whole chain, by the number in it
abbrev pub is_sovereign : List ℕ → Bool
is_sovereign account =
    let number = from_le_bytes w32 (take 4 (drop 4 account)) in
    bytes_eq account (child_account number) || bytes_eq account (sibling_account number) || bytes_eq account parent_account

-- the program runs for the account, with the chain's limit as its credit
abbrev pub ran_locally : World → ℕ → Member → List ℕ → List Instruction → Stepped
ran_locally w place m account program =
    let a = acted m.rules (caller account) m.rules.limit program (begun (chain_of m) Nothing m.part) in
    record { answer = StepResult.Ran a.outcome; trace = a.part.events; world = slice_set w place (with_part a.part m) }

abbrev pub exec_read : World → ℕ → Member → List ℕ → Result (List Instruction) MessageFault → Stepped
exec_read w place m account (Err fault) = unchanged (StepResult.Message fault) w
exec_read w place m account (Ok program) = ran_locally w place m account program

-- not for the account of one of the chain's pools
abbrev pub exec_by : World → ℕ → Member → List ℕ → Result (List Instruction) MessageFault → Stepped
exec_by w place m account read =
    if is_pool_account m.part.pools account then unchanged StepResult.SovereignCaller w
    else exec_read w place m account read

abbrev pub exec_at : World → Option ℕ → List ℕ → List ℕ → Stepped
exec_at w None account bytes = unchanged StepResult.NoSuchChain w
exec_at w (Some place) account bytes =
    if is_sovereign account then unchanged StepResult.SovereignCaller w
    else option_map_or (λ (m : Member). exec_by w place m account (message_of bytes)) (slice_get w place) (unchanged StepResult.NoSuchChain w)

-- an account has a message executed on its chain
unfoldable pub exec : World → ChainId → List ℕ → List ℕ → Stepped
exec w chain account bytes = exec_at w (place_of w chain) account bytes

-- ---- deliveries

abbrev pub nowhere : Location
nowhere = record { parents = 0; interior = [] }

-- how a chain names another one; no channel leads from a chain to itself
abbrev pub name_at : ChainId → ChainId → Location
name_at here other = option_map_or (λ (l : Location). l) (location_of here other) nowhere

-- the oldest message leaves its channel
abbrev pub without_message : ChainId → ChainPart → ChainPart
without_message to p = record p { channels = popped to p.channels }

-- the receiver runs it for the sender's location, without credit
abbrev pub run_for : Member → Member → Waiting → Acted
run_for sender receiver w =
    acted receiver.rules (name_at (chain_of receiver) (chain_of sender)) no_weight w.program
    (told (begun (chain_of sender) w.cargo receiver.part) (Event.Message (chain_of sender) (chain_of receiver) w.number))

-- what is lost is booked at the sender, and told last
abbrev pub sender_after : ChainId → Acted → ChainPart → ChainPart
sender_after to a p = booking_lost (lost_of a.left) (without_message to p)

abbrev pub receiver_after : ChainPart → Acted → ChainPart
receiver_after sender a = record a.part { events = a.part.events ++ lost_lines (lost_of a.left) sender }

abbrev pub delivered : World → ℕ → ℕ → Member → Member → Waiting → Stepped
delivered w from to sender receiver message =
    let a = run_for sender receiver message in
    let q = receiver_after sender.part a in
    record {
      answer = StepResult.Ran a.outcome;
      trace = q.events;
      world = slice_set (slice_set w from (with_part (sender_after (chain_of receiver) a sender.part) sender)) to (with_part q receiver);
    }

abbrev pub delivery_of : World → ℕ → ℕ → Member → Member → Option Outgoing → Stepped
delivery_of w from to sender receiver None = unchanged StepResult.NoSuchChannel w
delivery_of w from to sender receiver (Some c) = option_map_or (λ (message : Waiting). delivered w from to sender receiver message) (oldest c) (unchanged StepResult.Empty w)

-- of two chains, where both are there
abbrev pub with_both_members : {A : Type 0} → World → ChainId → ChainId → A → (ℕ → ℕ → Member → Member → A) → A
with_both_members w from to none f =
    option_map_or (λ (i : ℕ). option_map_or (λ (j : ℕ). option_map_or (λ (s : Member). option_map_or (λ (r : Member). f i j s r) (slice_get w j) none) (slice_get w i) none) (place_of w to) none)
    (place_of w from) none

-- the oldest message of a channel is taken, and its receiver runs it
unfoldable pub deliver : World → ChainId → ChainId → Stepped
deliver w from to = with_both_members w from to (unchanged StepResult.NoSuchChain w) (λ i j s r. delivery_of w i j s r (channel_to (chain_of r) s.part.channels))

-- ---- claims

abbrev pub is_claim_asset : Instruction → Bool
is_claim_asset x = claims (out-Instruction x)
  where
    claims : Instruction-F Instruction → Bool
    claims (Instruction-F.ClaimAsset list ticket) = true
    claims _ = false

abbrev pub is_clear_origin : Instruction → Bool
is_clear_origin x = clears (out-Instruction x)
  where
    clears : Instruction-F Instruction → Bool
    clears Instruction-F.ClearOrigin = true
    clears _ = false

-- it begins with ClaimAsset and ClearOrigin
abbrev pub is_claim : List Instruction → Bool
is_claim (first ∷ second ∷ rest) = is_claim_asset first && is_clear_origin second
is_claim _ = false

-- the program is the last in the channel, and carries nothing
abbrev pub posted : ChainId → List Instruction → ChainPart → ChainPart
posted to program p = record p { channels = pushed to program Nothing p.channels }

abbrev pub posting : World → ℕ → Member → ChainId → Outgoing → List Instruction → Option XcmError → Stepped
posting w from sender to c program None = record { answer = StepResult.Sent c.next; trace = []; world = slice_set w from (with_part (posted to program sender.part) sender) }
posting w from sender to c program (Some e) = unchanged (StepResult.Unsent e) w

abbrev pub claim_by : World → ℕ → Member → ChainId → Outgoing → Result (List Instruction) MessageFault → Stepped
claim_by w from sender to c (Err fault) = unchanged (StepResult.Message fault) w
claim_by w from sender to c (Ok program) =
    if is_claim program then posting w from sender to c program (channel_refusal (Some c) true program) else unchanged StepResult.NotAClaim w

abbrev pub claim_on : World → ℕ → Member → ChainId → Option Outgoing → List ℕ → Stepped
claim_on w from sender to None bytes = unchanged StepResult.NoSuchChannel w
claim_on w from sender to (Some c) bytes = claim_by w from sender to c (message_of bytes)

-- a chain sends a claim in its own name
unfoldable pub claim : World → ChainId → ChainId → List ℕ → Stepped
claim w from to bytes = with_both_members w from to (unchanged StepResult.NoSuchChain w) (λ i j s r. claim_on w i s (chain_of r) (channel_to (chain_of r) s.part.channels) bytes)

-- ---- drains

-- a channel, by its two chains
abbrev pub Link : Type 0
Link = ChainId × ChainId

-- the oldest message that waits there
abbrev pub waiting : World → ChainId → ChainId → Option Waiting
waiting w from to = with_both_members w from to None (λ i j s r. option_and_then oldest (channel_to (chain_of r) s.part.channels))

abbrev pub waits : World → Link → Bool
waits w link = is_some (waiting w link.0 link.1)

-- the first channel in the document's order on which a message waits
abbrev pub next_channel : List Link → World → Option Link
next_channel order w = find (waits w) order

-- so many deliveries at most, each on the first channel on which a message waits
unfoldable pub deliveries : ℕ → List Link → World → List (Link × Stepped)
deliveries zero order w = []
deliveries (suc n) order w = option_map_or (λ (link : Link). (link, deliver w link.0 link.1) ∷ deliveries n order (deliver w link.0 link.1).world) (next_channel order w) []

-- the deliveries of a drain
abbrev pub drain : List Link → World → List (Link × Stepped)
drain order w = deliveries (deliveries_left w) order w

abbrev pub world_behind : World → List (Link × Stepped) → World
world_behind w [] = w
world_behind w ((link, step) ∷ steps) = world_behind step.world steps

-- ---- all steps

pub data Step : Type 0 where
  Exec : ChainId → List ℕ → List ℕ → Step
  Deliver : ChainId → ChainId → Step
  Claim : ChainId → ChainId → List ℕ → Step
  Drain : Step
  -- what only reports
  Balances : Step
  Traps : Step
  Queues : Step
  Supply : Step

-- the next world; `order` is the document's order of channels
abbrev pub next_world : List Link → World → Step → World
next_world order w (Exec chain account bytes) = (exec w chain account bytes).world
next_world order w (Deliver from to) = (deliver w from to).world
next_world order w (Claim from to bytes) = (claim w from to bytes).world
next_world order w Drain = world_behind w (drain order w)
next_world order w Balances = w
next_world order w Traps = w
next_world order w Queues = w
next_world order w Supply = w

-- the worlds of a list of steps, from the first on
abbrev pub worlds : List Link → World → List Step → List World
worlds order w [] = w ∷ []
worlds order w (step ∷ steps) = w ∷ worlds order (next_world order w step) steps

-- the world after a list of steps
abbrev pub last_world : List Link → World → List Step → World
last_world order w [] = w
last_world order w (step ∷ steps) = last_world order (next_world order w step) steps
