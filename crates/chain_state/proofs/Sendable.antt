-- What a channel accepts.
use Rattle.std.proofs.Common.{◌≡◌, ℕ, ◌<◌, ◌≤◌, Vec, Global, Bool, true, false, ◌&&◌, List, length, map, refl, sym, ap, ◌∙◌, subst, arith, inl, inr, min, true≢false}
use Rattle.std.specs.Prelude.{Option, None, Some, Result, Ok, Err, nat_le, nat_lt, ◌==◌, not, if◌then◌else◌, MatchResult}
use Rattle.std.specs.Option.{option_map}
use Rattle.std.proofs.lemmas.Bool.Decides.{nat_tests}
use Rattle.std.proofs.lemmas.List.{length-map}
use Rattle.locations.specs.declared.relative.Location.{Location}
use Rattle.chain_ids.specs.declared.chain.ChainId.{ChainId}
use Rattle.operands.specs.declared.error.XcmError.{XcmError}
use Rattle.operands.specs.declared.error.XcmError.TheVariants as error
use Rattle.operands.specs.declared.version.Version.{Version}
use Rattle.operands.specs.declared.version.Version.TheVariants.{V3, V4}
use Rattle.xcm_program.specs.declared.instruction.Instruction.{Instruction}
use Rattle.xcm_program.specs.Measure.{deep_count, depth}
use Rattle.xcm_format.specs.Messages.{message, IsMessageIn}
use Rattle.xcm_format.specs.Writable.{IsWritable}
use Rattle.xcm_format.proofs.Lemmas.{named_in}
use Rattle.channel_parts.specs.Channels.{Outgoing}
use Rattle.versioned_xcm.specs.declared.faults.EncodeFault.TheVariants.{ExceedsLimits}
use Rattle.versioned_xcm.specs.Message.{IsEncodeCause}
use Rattle.versioned_xcm.specs.Reading.{message_of}
use Rattle.chain_queues.specs.declared.queues.Queue.{Queue}
use Rattle.chain_queues.specs.declared.faults.PushFault.TheVariants.{TooLarge, Full}
use Rattle.chain_queues.specs.Decoded.{is_spelled_in}
use Rattle.chain_queues.specs.Queues.{waiting_of, outgoing_of, push_refusal}
use Rattle.exec_base.specs.declared.faults.HostFault.{HostFault}
use Rattle.exec_base.specs.Part.{ChainPart}
use Rattle.asset_lists.specs.declared.units.Asset.{Asset}
use Rattle.asset_lists.specs.declared.faults.ListFault.{ListFault}
use Rattle.asset_lists.specs.Lists.{has_zero, is_rising, IsListFault}
use Rattle.exec_base.specs.Sending.{unless, channel_to_location, channel_refusal, send_refusal, listed_refusal, listed_program, IsForwardable}
use Rattle.chain_state.specs.Sends.{push_error, IsAccepted, IsAcceptedByChannel, IsSendFault}
use Rattle.plain_lists.proofs.Lemmas.Facts.{and_false as never, at_most_told as within}

-- by the length of the message and what waits
abbrev by_size : Queue → ℕ → Option XcmError
by_size q size = unless (nat_le size q.channel.max_size) error.ExceedsMaxMessageSize (unless (nat_lt (length q.waiting.items) q.channel.capacity) error.Transport None)

beyond : (n m : ℕ) → m < n → nat_le n m ≡ false
beyond n m lt = grind (arith, lt)

least : (n m : ℕ) → n ≤ 65536 → nat_le n (min 65536 m) ≡ nat_le n m
least n m le = grind (arith, le)

past_least : (n m : ℕ) → 65536 < n → nat_le n (min 65536 m) ≡ false
past_least n m lt = grind (arith, lt)

refusal_with : Queue → Bool → Option XcmError
refusal_with q b = unless b error.ExceedsMaxMessageSize (unless (nat_lt (length (map waiting_of q.waiting.items)) q.channel.capacity) error.Transport None)

size_decides : (q : Queue) (bytes : List ℕ) (program : List Instruction) → IsMessageIn q.channel.version bytes program → channel_refusal (Some (outgoing_of q)) true program ≡ by_size q (length bytes)
unfolding refusal_with
size_decides q bytes program is =
    ap (λ b. refusal_with q (b && (nat_le (depth program) 8 && nat_le (length (message q.channel.version program)) (min 65536 q.channel.max_size)))) (within (deep_count program) 100 is.readable.small.few)
    ∙ ap (λ b. refusal_with q (b && nat_le (length (message q.channel.version program)) (min 65536 q.channel.max_size))) (within (depth program) 8 is.readable.small.low)
    ∙ ap (λ (text : List ℕ). refusal_with q (nat_le (length text) (min 65536 q.channel.max_size))) (sym is.text)
    ∙ ap (refusal_with q) (least (length bytes) q.channel.max_size is.short)
    ∙ ap (λ (n : ℕ). unless (nat_le (length bytes) q.channel.max_size) error.ExceedsMaxMessageSize (unless (nat_lt n q.channel.capacity) error.Transport None)) (length-map q.waiting.items waiting_of)

pub limits_refuse : (q : Queue) (program : List Instruction) → IsEncodeCause q.channel.version program ExceedsLimits → channel_refusal (Some (outgoing_of q)) true program ≡ Some error.ExceedsMaxMessageSize
unfolding refusal_with
limits_refuse q program (inl many) =
    ap (λ b. refusal_with q (b && (nat_le (depth program) 8 && nat_le (length (message q.channel.version program)) (min 65536 q.channel.max_size)))) (beyond (deep_count program) 100 many)
limits_refuse q program (inr (inl deep)) =
    ap (refusal_with q) (ap (λ b. nat_le (deep_count program) 100 && (b && nat_le (length (message q.channel.version program)) (min 65536 q.channel.max_size))) (beyond (depth program) 8 deep) ∙ never (nat_le (deep_count program) 100))
limits_refuse q program (inr (inr long)) =
    ap (refusal_with q) (ap (λ b. nat_le (deep_count program) 100 && (nat_le (depth program) 8 && b)) (past_least (length (message q.channel.version program)) q.channel.max_size long)
    ∙ ap (λ b. nat_le (deep_count program) 100 && b) (never (nat_le (depth program) 8)) ∙ never (nat_le (deep_count program) 100))

-- the rule asks what the channel does
fits : (n m : ℕ) → nat_le n m ≡ not (nat_lt m n)
fits n m = grind (arith, nat_tests)

has_place : (n m : ℕ) → n ≤ m → nat_lt n m ≡ not (n == m)
has_place n m h = grind (arith, nat_tests, h)

by_tests : (large full : Bool) → unless (not large) error.ExceedsMaxMessageSize (unless (not full) error.Transport None) ≡ option_map push_error (if large then Some TooLarge else (if full then Some Full else None))
by_tests true full = refl
by_tests false true = refl
by_tests false false = refl

by_push : (q : Queue) (n : ℕ) → by_size q n ≡ option_map push_error (push_refusal n (Some (outgoing_of q)))
by_push q n =
    let long : length (map waiting_of q.waiting.items) ≡ length q.waiting.items = length-map q.waiting.items waiting_of in
    let room = has_place (length q.waiting.items) q.channel.capacity q.within ∙ ap (λ (m : ℕ). not (m == q.channel.capacity)) (sym long) in
    (λ i. unless (fits n q.channel.max_size i) error.ExceedsMaxMessageSize (unless (room i) error.Transport None))
    ∙ by_tests (nat_lt q.channel.max_size n) (length (map waiting_of q.waiting.items) == q.channel.capacity)

pub push_decides : (q : Queue) (bytes : List ℕ) (program : List Instruction) → IsMessageIn q.channel.version bytes program
    → channel_refusal (Some (outgoing_of q)) true program ≡ option_map push_error (push_refusal (length bytes) (Some (outgoing_of q)))
push_decides q bytes program is = size_decides q bytes program is ∙ by_push q (length bytes)

-- a message begins with the byte of its version
begun : (v : Version) (program : List Instruction) → is_spelled_in v (message v program) ≡ true
unfolding message
begun V3 program = refl
begun V4 program = refl

pub accepts : (q : Queue) (bytes : List ℕ) (program : List Instruction) → IsMessageIn q.channel.version bytes program → message_of bytes ≡ Ok program → push_refusal (length bytes) (Some (outgoing_of q)) ≡ None → IsAccepted (outgoing_of q) program q.channel.to bytes
accepts q bytes program is meaning free = record { leads = refl; meaning = meaning; spelled = ap (is_spelled_in q.channel.version) is.text ∙ begun q.channel.version program; unrefused = push_decides q bytes program is ∙ ap (option_map push_error) free; free = free }

-- ---- the channel to a location
pub unrouted : (p : ChainPart) (dest : Location) (few : Bool) (program : List Instruction) → channel_to_location p dest ≡ None → send_refusal p dest few program ≡ Some error.Unroutable
unfolding send_refusal
unrouted p dest few program none = ap (λ c. channel_refusal c few program) none

pub routed : (p : ChainPart) (dest : Location) (few : Bool) (program : List Instruction) (c : Outgoing) → channel_to_location p dest ≡ Some c → send_refusal p dest few program ≡ channel_refusal (Some c) few program
unfolding send_refusal
routed p dest few program c at = ap (λ o. channel_refusal o few program) at

pub taken_by : (p : ChainPart) (dest : Location) (program : List Instruction) (c : Outgoing) (r : Result (ChainId × Vec ℕ Global) HostFault) → channel_to_location p dest ≡ Some c
    → MatchResult r (λ ready. IsAccepted c program ready.0 ready.1.items) (IsSendFault (channel_refusal (Some c) true program))
    → MatchResult r (λ ready. IsAcceptedByChannel p dest program ready.0 ready.1.items) (IsSendFault (send_refusal p dest true program))
taken_by p dest program c (Ok ready) at h = record { channel = c; found = at; accepted = h }
taken_by p dest program c (Err fault) at h = subst (λ r. IsSendFault r fault) (sym (routed p dest true program c at)) h

pub writable : (v : Version) (program : List Instruction) → IsForwardable program → IsWritable v program
writable v program f = record { few = (let few = f.few in omega (arith, few)); named = named_in v program f.named; amounts = f.amounts }

-- ---- a list that is too long, and one that isn't
pub too_many : (xs : List Asset) (fault : ListFault) → IsListFault xs fault → has_zero xs ≡ false → is_rising xs ≡ true → nat_le (length xs) 20 ≡ false
too_many xs ListFault.TooMany h some rising = beyond (length xs) 20 h
too_many xs ListFault.Zero h some rising = absurd (true≢false (sym h.1 ∙ some))
too_many xs ListFault.OutOfOrder h some rising = absurd (true≢false (sym rising ∙ h.2))
too_many xs ListFault.Memory h some rising = absurd h

pub too_many_sent : (p : ChainPart) (dest : Location) (n : ℕ) (program : List Instruction) (c : Outgoing) → channel_to_location p dest ≡ Some c → nat_le n 20 ≡ false → send_refusal p dest (nat_le n 20) program ≡ Some error.ExceedsMaxMessageSize
too_many_sent p dest n program c at many = routed p dest (nat_le n 20) program c at ∙ ap (λ b. channel_refusal (Some c) b program) many

pub not_many : (n : ℕ) → nat_le n 20 ≡ false → n ≤ 20 → ⊥
not_many n many few = true≢false (sym (within n 20 few) ∙ many)

pub with_few : (p : ChainPart) (dest : Location) (n : ℕ) (program : List Instruction) (r : Result (ChainId × Vec ℕ Global) HostFault) → n ≤ 20
    → MatchResult r (λ ready. IsAcceptedByChannel p dest program ready.0 ready.1.items) (IsSendFault (send_refusal p dest true program))
    → MatchResult r (λ ready. IsAcceptedByChannel p dest program ready.0 ready.1.items × (n ≤ 20)) (IsSendFault (send_refusal p dest (nat_le n 20) program))
with_few p dest n program (Ok ready) few h = (h, few)
with_few p dest n program (Err fault) few h = subst (λ b. IsSendFault (send_refusal p dest b program) fault) (sym (within n 20 few)) h

pub unrefused_by : (p : ChainPart) (dest : Location) (program : List Instruction) (to : ChainId) (bytes : List ℕ) → IsAcceptedByChannel p dest program to bytes → send_refusal p dest true program ≡ None
unrefused_by p dest program to bytes t = routed p dest true program t.channel t.found ∙ t.accepted.unrefused

-- the same of the list before it was named
pub around_by : (p : ChainPart) (dest : Location) (program : List Asset → List Instruction) (o : Option (List Asset)) (seen : List Asset) (n : ℕ) (r : Result (ChainId × Vec ℕ Global) HostFault) → o ≡ Some seen → length seen ≡ n
    → MatchResult r (λ ready. IsAcceptedByChannel p dest (program seen) ready.0 ready.1.items × (length seen ≤ 20)) (IsSendFault (send_refusal p dest (nat_le (length seen) 20) (program seen)))
    → MatchResult r (λ ready. IsAcceptedByChannel p dest (listed_program program o) ready.0 ready.1.items × (listed_refusal p dest program o ≡ None) × (n ≤ 20)) (IsSendFault (listed_refusal p dest program o))
around_by p dest program o seen n (Ok ready) at many h = (
  subst (λ x. IsAcceptedByChannel p dest (listed_program program x) ready.0 ready.1.items) (sym at) h.0,
  ap (listed_refusal p dest program) at ∙ ap (λ b. send_refusal p dest b (program seen)) (within (length seen) 20 h.1) ∙ unrefused_by p dest (program seen) ready.0 ready.1.items h.0,
  subst (λ m. m ≤ 20) many h.1,
)
around_by p dest program o seen n (Err fault) at many h = subst (λ x. IsSendFault (listed_refusal p dest program x) fault) (sym at) h
